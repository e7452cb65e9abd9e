-- Each operator adds a step that fits.
use Rattle.std.proofs.Common.{◌≡◌, ℕ, Bool, true, false, cond, List, [], map, Ok, Err, refl, subst}
use Rattle.kq_bind_query.specs.kq_bind_operators.Flows.{Progressing, Flowing, columns, after}
use Rattle.kq_bind_query.specs.kq_bind_operators.Operators.{row_made, printed_row, where_true, filtered, row_number, taken, count_column, laid_after, projected, extended, dropped, old_name, new_name, renamed, bind_distinct, all_distinct}
use Rattle.kq_bind_query.specs.kq_bind_operators.Scopes.{Scoping, names}
use Rattle.kq_bind_columns.specs.Chosen.{chosen, all_chosen, columns_at as columns_chosen, without, names_given, renamed as fields_renamed}
use Rattle.kq_bind_columns.specs.Defaults.{first_token}
use Rattle.kq_bind_columns.specs.Items.{nothing_made, items_made}
use Rattle.kq_bind_columns.specs.Laying.{as_they_are, over}
use Rattle.kq_bind_columns.specs.Printed.{printed}
use Rattle.kq_bind_expressions.specs.Bound.{bound}
use Rattle.kq_bind_expressions.specs.Verdicts.{Verdict, and_then, mistyped}
use Rattle.kq_plan_expressions.specs.Terms.{Term, Bound}
use Rattle.kq_read_grammar.specs.declared.expression.Name.{Name}
use Rattle.kq_read_grammar.specs.Trees.{Tree, ItemTree}
use Rattle.kq_plan.specs.Fits.{IsTyped, AreTyped}
use Rattle.kq_plan.specs.Plans.{Stepping, one_row, kept, mapped, cut, counted, apart}
use Rattle.kq_read_symbols.specs.declared.kind.Symbol.{Symbol}
use Rattle.kq_value.specs.declared.schema.Field.{Field}
use Rattle.kq_value.specs.declared.ty.Ty.TheVariants as ty
use Rattle.kq_value.specs.Ty.{same_ty}
use Rattle.kq_bind_query.proofs.Progress.{then_ok, done, done_is, Holds, Goes, following_goes, after_goes, over_lets}
use Rattle.kq_bind_query.proofs.Columns.{same_is, all_laid_typed, as_they_are_typed, without_typed, renamed_typed}
use Rattle.kq_bind_query.proofs.Items.{bound_typed, nothing_is_made, items_good, printed_good}
use Rattle.kq_bind_query.proofs.Chosen.{chosen_typed, all_chosen_typed}

-- ---- columns that are mapped

pub mapped_goes : (s : Scoping) (ss : List Stepping) (w : Flowing) (es : List Term) (cs : List Field) → Goes s ss w → AreTyped s.lets (columns w) es cs
    → Goes s ss (after w (λ i. mapped i es) cs)
mapped_goes s ss w es cs g is =
    after_goes s ss w (λ i. mapped i es) cs g (columns w, g.rows, over_lets s w.progress.steps (λ ls. AreTyped ls (columns w) es cs) g.holds is) refl refl

-- ---- one row

pub printed_row_goes : (s : Scoping) (p : Progressing) (is : List ItemTree) (v : Flowing) → Holds s p.steps → printed_row s p is ≡ Ok v → Goes s p.steps v
printed_row_goes s p is v h e =
    let m = then_ok (printed (names s) is) (λ m. done (row_made p m)) v e in
    let typed = (printed_good (names s) is m.0 m.1).typed in
    subst (Goes s p.steps) (done_is (row_made p m.0) v m.2)
    (following_goes s p (one_row m.0.terms) m.0.fields h (over_lets s p.steps (λ ls. AreTyped ls [] m.0.terms m.0.fields) h typed) refl refl)

-- ---- conditions and numbers

where_goes : (s : Scoping) (ss : List Stepping) (w v : Flowing) (at : ℕ) (x : Bound) → Goes s ss w → IsTyped s.lets (columns w) x.0 x.1
    → where_true w at x ≡ Ok v → Goes s ss v
where_goes s ss w v at x g is e = by (same_ty x.1 ty.Bool) refl e where
  by : (b : Bool) → same_ty x.1 ty.Bool ≡ b → cond {A = Verdict Flowing} b (done (after w (λ i. kept i x.0) (columns w))) (Err (mistyped at)) ≡ Ok v
      → Goes s ss v
  by true same k =
      let typed : IsTyped s.lets (columns w) x.0 ty.Bool = subst (IsTyped s.lets (columns w) x.0) (same_is x.1 ty.Bool same) is in
      subst (Goes s ss) (done_is (after w (λ i. kept i x.0) (columns w)) v k)
      (after_goes s ss w (λ i. kept i x.0) (columns w) g (g.rows, over_lets s w.progress.steps (λ ls. IsTyped ls (columns w) x.0 ty.Bool) g.holds typed) refl refl)
  by false same k = absurd (cc)

pub filtered_goes : (s : Scoping) (ss : List Stepping) (w v : Flowing) (e : Tree) → Goes s ss w → filtered s w e ≡ Ok v → Goes s ss v
filtered_goes s ss w v e g is =
    let x = then_ok (bound (names s) (columns w) e) (where_true w (first_token e)) v is in
    where_goes s ss w v (first_token e) x.0 g (bound_typed (names s) (columns w) e x.0 x.1) x.2

pub taken_goes : (s : Scoping) (ss : List Stepping) (w v : Flowing) (t : Symbol) → Goes s ss w → taken s w t ≡ Ok v → Goes s ss v
taken_goes s ss w v t g is =
    let n = then_ok (row_number s t) (λ n. done (after w (λ i. cut i n) (columns w))) v is in
    subst (Goes s ss) (done_is (after w (λ i. cut i n.0) (columns w)) v n.2) (after_goes s ss w (λ i. cut i n.0) (columns w) g g.rows refl refl)

pub counted_goes : (s : Scoping) (ss : List Stepping) (w : Flowing) → Goes s ss w → Goes s ss (after w counted count_column)
counted_goes s ss w g = after_goes s ss w counted count_column g (columns w, g.rows, refl) refl refl

-- ---- columns

pub projected_goes : (s : Scoping) (ss : List Stepping) (w v : Flowing) (is : List ItemTree) → Goes s ss w → projected s w is ≡ Ok v → Goes s ss v
projected_goes s ss w v is g e =
    let m = then_ok (items_made (names s) (columns w) [] false nothing_made is) (λ m. done (after w (λ i. mapped i m.terms) m.fields)) v e in
    let made = items_good (names s) (columns w) [] false nothing_made is m.0 (nothing_is_made s.lets (columns w) false) m.1 in
    subst (Goes s ss) (done_is (after w (λ i. mapped i m.0.terms) m.0.fields) v m.2) (mapped_goes s ss w m.0.terms m.0.fields g made.typed)

pub extended_goes : (s : Scoping) (ss : List Stepping) (w v : Flowing) (is : List ItemTree) → Goes s ss w → extended s w is ≡ Ok v → Goes s ss v
extended_goes s ss w v is g e =
    let cs = columns w in
    let m = then_ok (items_made (names s) cs cs false nothing_made is) (λ m. done (laid_after w (over cs m))) v e in
    let made = items_good (names s) cs cs false nothing_made is m.0 (nothing_is_made s.lets cs false) m.1 in
    let typed = all_laid_typed s.lets cs (as_they_are 0 cs, cs) m.0.terms m.0.fields (as_they_are_typed s.lets cs) made.typed in
    subst (Goes s ss) (done_is (laid_after w (over cs m.0)) v m.2) (mapped_goes s ss w (over cs m.0).0 (over cs m.0).1 g typed)

pub dropped_goes : (s : Scoping) (ss : List Stepping) (w v : Flowing) (ns : List Name) → Goes s ss w → dropped s w ns ≡ Ok v → Goes s ss v
dropped_goes s ss w v ns g e =
    let is = then_ok (chosen s.text (columns w) false [] ns) (λ is. done (laid_after w (without 0 (columns w) is))) v e in
    let left = without 0 (columns w) is.0 in
    subst (Goes s ss) (done_is (laid_after w left) v is.2) (mapped_goes s ss w left.0 left.1 g (without_typed s.lets (columns w) is.0))

pub renamed_goes : (s : Scoping) (ss : List Stepping) (w v : Flowing) (ps : List (Name × Name)) → Goes s ss w → renamed s w ps ≡ Ok v → Goes s ss v
renamed_goes s ss w v ps g e =
    let cs = columns w in
    let put = λ (is : List ℕ) (ns : List (List ℕ)). after w (λ i. mapped i (as_they_are 0 cs)) (fields_renamed 0 cs is ns) in
    let is = then_ok (chosen s.text cs false [] (map old_name ps))
    (λ is. and_then (names_given s.text (without 0 cs is).1 (map new_name ps)) (λ ns. done (put is ns))) v e in
    let ns = then_ok (names_given s.text (without 0 cs is.0).1 (map new_name ps)) (λ ns. done (put is.0 ns)) v is.2 in
    subst (Goes s ss) (done_is (put is.0 ns.0) v ns.2)
    (mapped_goes s ss w (as_they_are 0 cs) (fields_renamed 0 cs is.0 ns.0) g (renamed_typed s.lets cs (as_they_are 0 cs) 0 cs is.0 ns.0 (as_they_are_typed s.lets cs)))

-- ---- distinct rows

pub distinct_goes : (s : Scoping) (ss : List Stepping) (w v : Flowing) (ns : List Name) → Goes s ss w → bind_distinct s w ns ≡ Ok v → Goes s ss v
distinct_goes s ss w v ns g e =
    let put = λ (is : List ℕ). after w (λ i. apart i is) (columns_chosen (columns w) is) in
    let is = then_ok (chosen s.text (columns w) true [] ns) (λ is. done (put is)) v e in
    let typed = chosen_typed s.text (columns w) ns is.0 is.1 in
    subst (Goes s ss) (done_is (put is.0) v is.2)
    (after_goes s ss w (λ i. apart i is.0) (columns_chosen (columns w) is.0) g (columns w, g.rows, typed.0, typed.1) refl refl)

pub all_distinct_goes : (s : Scoping) (ss : List Stepping) (w v : Flowing) (t : Symbol) → Goes s ss w → all_distinct w t ≡ Ok v → Goes s ss v
all_distinct_goes s ss w v t g e =
    let is = then_ok (all_chosen t.from 0 (columns w)) (λ is. done (after w (λ i. apart i is) (columns w))) v e in
    let typed = all_chosen_typed t.from (columns w) is.0 is.1 in
    subst (Goes s ss) (done_is (after w (λ i. apart i is.0) (columns w)) v is.2)
    (after_goes s ss w (λ i. apart i is.0) (columns w) g (columns w, g.rows, typed.0, typed.1) refl refl)
