-- What sorts, ranges and the parts of dynamics add is a step that fits.
use Rattle.std.proofs.Common.{◌≡◌, ℕ, zero, suc, Bool, true, false, cond, List, [], ◌∷◌, ◌++◌, length, map, All, Option, Some, None, Ok, Err, refl, ap, ◌∙◌, subst}
use Rattle.std.specs.Prelude.{slice_set}
use Rattle.std.proofs.lemmas.List.Elements.{All-nil, All-cons}
use Rattle.kq_bind_query.specs.kq_bind_operators.Clauses.{range_made, bind_range, sorted_by, topped_by, part_type as part_said, or_dynamic, item_name, item_value, if_dynamic, expanded_at, expanded_as, bind_mv_expand}
use Rattle.kq_bind_query.specs.kq_bind_operators.Flows.{Progressing, Flowing, columns, after}
use Rattle.kq_bind_query.specs.kq_bind_operators.Operators.{row_number}
use Rattle.kq_bind_query.specs.kq_bind_operators.Scopes.{Scoping, names}
use Rattle.kq_bind_clauses.specs.Ranges.{step_type, Ranging, as_long, of_this_type, range_typed, ranged, range_column}
use Rattle.kq_bind_clauses.specs.Sorts.{sorting, sort_key, sort_keys}
use Rattle.kq_bind_columns.specs.Defaults.{first_token}
use Rattle.kq_bind_columns.specs.Items.{field, operand}
use Rattle.kq_bind_expressions.specs.Apply.{as_taken}
use Rattle.kq_bind_expressions.specs.Bound.{bound}
use Rattle.kq_bind_expressions.specs.Lookup.{first_named}
use Rattle.kq_bind_expressions.specs.Names.{Names}
use Rattle.kq_bind_expressions.specs.Verdicts.{Verdict, and_then, or_fault, mistyped}
use Rattle.kq_plan_expressions.specs.Terms.{Term, Bound}
use Rattle.kq_plan_functions.specs.Table.{widened}
use Rattle.kq_read_grammar.specs.declared.expression.Name.{Name}
use Rattle.kq_read_grammar.specs.Trees.{Tree, ItemTree, KeyTree}
use Rattle.kq_plan.specs.Fits.{IsTyped, IsSortKey, StepsBy, type_at, ty_of, types_with, part_type, lets_of}
use Rattle.kq_plan.specs.Plans.{Sorting, Stepping, numbers, sorted, topped, expanded}
use Rattle.kq_read_symbols.specs.declared.kind.Symbol.{Symbol}
use Rattle.kq_value.specs.declared.schema.Field.{Field}
use Rattle.kq_value.specs.declared.ty.Ty.{Ty}
use Rattle.kq_value.specs.declared.ty.Ty.TheVariants as ty
use Rattle.kq_value.specs.Ty.{same_ty}
use Rattle.kq_bind_query.proofs.Progress.{then_ok, done, done_is, Holds, Goes, following_goes, after_goes, over_lets}
use Rattle.kq_bind_query.proofs.Columns.{same_is, found_ok, found_type}
use Rattle.kq_bind_query.proofs.Items.{bound_typed, operand_typed}

-- ---- sorts

key_typed : (s : Names) (cs : List Field) (k : KeyTree) (x : Sorting) → sort_key s cs k ≡ Ok x → IsSortKey s.lets cs x
key_typed s cs k x e =
    let y = then_ok (operand s cs true k.value) (λ y. done (sorting k y)) x e in
    let typed = operand_typed s cs true k.value y.0 y.1 in
    subst (IsSortKey s.lets cs) (done_is (sorting k y.0) x y.2) (y.0.1, typed.0, typed.1)

keys_typed : (s : Names) (cs : List Field) (ks : List KeyTree) (xs : List Sorting) → sort_keys s cs ks ≡ Ok xs → All (IsSortKey s.lets cs) xs
keys_typed s cs [] xs e = subst (All (IsSortKey s.lets cs)) (done_is [] xs e) (All-nil (IsSortKey s.lets cs))
keys_typed s cs (k ∷ ks) xs e =
    let x = then_ok (sort_key s cs k) (λ x. and_then (sort_keys s cs ks) (λ more. done (x ∷ more))) xs e in
    let more = then_ok (sort_keys s cs ks) (λ more. done (x.0 ∷ more)) xs x.2 in
    subst (All (IsSortKey s.lets cs)) (done_is (x.0 ∷ more.0) xs more.2)
    (All-cons (IsSortKey s.lets cs) x.0 more.0 (key_typed s cs k x.0 x.1) (keys_typed s cs ks more.0 more.1))

pub sorted_goes : (s : Scoping) (ss : List Stepping) (w v : Flowing) (ks : List KeyTree) → Goes s ss w → sorted_by s w ks ≡ Ok v → Goes s ss v
sorted_goes s ss w v ks g e =
    let xs = then_ok (sort_keys (names s) (columns w) ks) (λ xs. done (after w (λ i. sorted i xs) (columns w))) v e in
    let typed = over_lets s w.progress.steps (λ ls. All (IsSortKey ls (columns w)) xs.0) g.holds (keys_typed (names s) (columns w) ks xs.0 xs.1) in
    subst (Goes s ss) (done_is (after w (λ i. sorted i xs.0) (columns w)) v xs.2)
    (after_goes s ss w (λ i. sorted i xs.0) (columns w) g (g.rows, typed) refl refl)

pub topped_goes : (s : Scoping) (ss : List Stepping) (w v : Flowing) (t : Symbol) (k : KeyTree) → Goes s ss w → topped_by s w t k ≡ Ok v → Goes s ss v
topped_goes s ss w v t k g e =
    let n = then_ok (row_number s t) (λ n. and_then (sort_key (names s) (columns w) k) (λ x. done (after w (λ i. topped i n x) (columns w)))) v e in
    let x = then_ok (sort_key (names s) (columns w) k) (λ x. done (after w (λ i. topped i n.0 x) (columns w))) v n.2 in
    let typed = over_lets s w.progress.steps (λ ls. IsSortKey ls (columns w) x.0) g.holds (key_typed (names s) (columns w) k x.0 x.1) in
    subst (Goes s ss) (done_is (after w (λ i. topped i n.0 x.0) (columns w)) v x.2)
    (after_goes s ss w (λ i. topped i n.0 x.0) (columns w) g (g.rows, typed) refl refl)

-- ---- ranges

-- an int that is taken as a long is one
pub wide_typed : (lets cs : List Field) (x : Bound) → IsTyped lets cs x.0 x.1 → IsTyped lets cs (as_taken true x) (widened x.1)
wide_typed lets cs (e, ty.Int) h = ((ty.Int ∷ [], (h.0, tt), refl), (h.1, tt))
wide_typed lets cs (e, ty.Long) h = h
wide_typed lets cs (e, ty.Text) h = h
wide_typed lets cs (e, ty.Bool) h = h
wide_typed lets cs (e, ty.Moment) h = h
wide_typed lets cs (e, ty.Span) h = h
wide_typed lets cs (e, ty.Dynamic) h = h

steps_by : (t u : Ty) → step_type t ≡ Some u → StepsBy t u
steps_by ty.Long u e = cc
steps_by ty.Int u e = absurd (cc)
steps_by ty.Text u e = absurd (cc)
steps_by ty.Bool u e = absurd (cc)
steps_by ty.Moment u e = cc
steps_by ty.Span u e = cc
steps_by ty.Dynamic u e = absurd (cc)

this_type : (lets cs : List Field) (at : ℕ) (t : Ty) (x : Bound) (e : Term) → IsTyped lets cs x.0 x.1 → of_this_type at t x ≡ Ok e → IsTyped lets cs e t
this_type lets cs at t x e h is = by (same_ty x.1 t) refl is where
  by : (b : Bool) → same_ty x.1 t ≡ b → cond {A = Verdict Term} b (done x.0) (Err (mistyped at)) ≡ Ok e → IsTyped lets cs e t
  by true same g = subst (λ (z : Term). IsTyped lets cs z t) (done_is x.0 e g) (subst (IsTyped lets cs x.0) (same_is x.1 t same) h)
  by false same g = absurd (cc)

abbrev IsRange : List Field → Ranging → Type 0
IsRange lets r = (u : Ty) × StepsBy r.ty u × IsTyped lets [] r.first r.ty × IsTyped lets [] r.last r.ty × IsTyped lets [] r.step u

of_types : (lets : List Field) (at_first at_last at_step : ℕ) (a b c : Bound) (r : Ranging) → IsTyped lets [] a.0 a.1 → IsTyped lets [] b.0 b.1
    → IsTyped lets [] c.0 c.1 → range_typed at_first at_last at_step a b c ≡ Ok r → IsRange lets r
of_types lets at_first at_last at_step a b c r h k l e =
    let made = λ (last step : Term). let r : Ranging = record { first = a.0; last = last; step = step; ty = a.1 } in r in
    let t = then_ok (or_fault (mistyped at_first) (step_type a.1))
    (λ t. and_then (of_this_type at_last a.1 b) (λ last. and_then (of_this_type at_step t c) (λ step. done (made last step)))) r e in
    let last = then_ok (of_this_type at_last a.1 b) (λ last. and_then (of_this_type at_step t.0 c) (λ step. done (made last step))) r t.2 in
    let step = then_ok (of_this_type at_step t.0 c) (λ step. done (made last.0 step)) r last.2 in
    let by = steps_by a.1 t.0 (found_ok (mistyped at_first) (step_type a.1) t.0 t.1) in
    subst (IsRange lets) (done_is (made last.0 step.0) r step.2)
    (t.0, by, h, this_type lets [] at_last a.1 b last.0 k last.1, this_type lets [] at_step t.0 c step.0 l step.1)

ranged_typed : (s : Names) (a b c : Tree) (r : Ranging) → ranged s a b c ≡ Ok r → IsRange s.lets r
ranged_typed s a b c r e =
    let made = λ (x y z : Bound). range_typed (first_token a) (first_token b) (first_token c) (as_long x) (as_long y) (as_long z) in
    let x = then_ok (bound s [] a) (λ x. and_then (bound s [] b) (λ y. and_then (bound s [] c) (λ z. made x y z))) r e in
    let y = then_ok (bound s [] b) (λ y. and_then (bound s [] c) (λ z. made x.0 y z)) r x.2 in
    let z = then_ok (bound s [] c) (λ z. made x.0 y.0 z) r y.2 in
    of_types s.lets (first_token a) (first_token b) (first_token c) (as_long x.0) (as_long y.0) (as_long z.0) r
    (wide_typed s.lets [] x.0 (bound_typed s [] a x.0 x.1)) (wide_typed s.lets [] y.0 (bound_typed s [] b y.0 y.1))
    (wide_typed s.lets [] z.0 (bound_typed s [] c z.0 z.1)) z.2

pub range_goes : (s : Scoping) (p : Progressing) (n : Name) (a b c : Tree) (v : Flowing) → Holds s p.steps → bind_range s p n a b c ≡ Ok v → Goes s p.steps v
range_goes s p n a b c v h e =
    let r = then_ok (ranged (names s) a b c) (λ r. done (range_made s p n r)) v e in
    let typed = over_lets s p.steps (λ ls. IsRange ls r.0) h (ranged_typed (names s) a b c r.0 r.1) in
    subst (Goes s p.steps) (done_is (range_made s p n r.0) v r.2)
    (following_goes s p (numbers r.0.first r.0.last r.0.step) (range_column s.text n r.0.ty) h typed refl refl)

-- ---- the parts of a dynamic

set_types : (cs : List Field) (i : ℕ) (t : Ty) (f : Field) → type_at cs i ≡ Some t → map ty_of (slice_set cs i f) ≡ types_with (map ty_of cs) i f.ty
set_types [] i t f e = absurd (cc)
set_types (c ∷ cs) zero t f e = refl
set_types (c ∷ cs) (suc i) t f e = ap (λ (ts : List Ty). c.ty ∷ ts) (set_types cs i t f e)

last_types : (cs : List Field) (f : Field) → map ty_of (cs ++ f ∷ []) ≡ types_with (map ty_of cs) (length cs) f.ty
last_types [] f = refl
last_types (c ∷ cs) f = ap (λ (ts : List Ty). c.ty ∷ ts) (last_types cs f)

part_is : (o : Option Ty) → or_dynamic o ≡ part_type o
part_is (Some t) = refl
part_is None = refl

expanded_goes : (s : Scoping) (ss : List Stepping) (w : Flowing) (x : Bound) (name : List ℕ) (t : Option Ty) → Goes s ss w
    → IsTyped s.lets (columns w) x.0 ty.Dynamic → Goes s ss (expanded_as w x name t)
expanded_goes s ss w x name t g is = by (first_named 0 (columns w) name) refl where
  typed : IsTyped (lets_of w.progress.steps) (columns w) x.0 ty.Dynamic
  typed = over_lets s w.progress.steps (λ ls. IsTyped ls (columns w) x.0 ty.Dynamic) g.holds is

  by : (o : Option (ℕ × Ty)) → first_named 0 (columns w) name ≡ o → Goes s ss (expanded_at w x name t o)
  by (Some k) found =
      let f = field name (or_dynamic t) in
      let types : map ty_of (slice_set (columns w) k.0 f) ≡ types_with (map ty_of (columns w)) k.0 (part_type t) =
      set_types (columns w) k.0 k.1 f (found_type (columns w) name k found) ∙ ap (types_with (map ty_of (columns w)) k.0) (part_is t) in
      after_goes s ss w (λ i. expanded i x.0 k.0 t) (slice_set (columns w) k.0 f) g (columns w, g.rows, typed, types) refl refl
  by None found =
      let f = field name (or_dynamic t) in
      let types : map ty_of (columns w ++ f ∷ []) ≡ types_with (map ty_of (columns w)) (length (columns w)) (part_type t) =
      last_types (columns w) f ∙ ap (types_with (map ty_of (columns w)) (length (columns w))) (part_is t) in
      after_goes s ss w (λ i. expanded i x.0 (length (columns w)) t) (columns w ++ f ∷ []) g (columns w, g.rows, typed, types) refl refl

dynamic_typed : (lets cs : List Field) (at : ℕ) (y x : Bound) → IsTyped lets cs y.0 y.1 → if_dynamic at y ≡ Ok x → IsTyped lets cs x.0 ty.Dynamic
dynamic_typed lets cs at y x h e = by (same_ty y.1 ty.Dynamic) refl e where
  by : (b : Bool) → same_ty y.1 ty.Dynamic ≡ b → cond {A = Verdict Bound} b (done y) (Err (mistyped at)) ≡ Ok x → IsTyped lets cs x.0 ty.Dynamic
  by true same g = subst (λ (z : Bound). IsTyped lets cs z.0 ty.Dynamic) (done_is y x g) (subst (IsTyped lets cs y.0) (same_is y.1 ty.Dynamic same) h)
  by false same g = absurd (cc)

pub parts_goes : (s : Scoping) (ss : List Stepping) (w v : Flowing) (i : ItemTree) (t : Option Symbol) → Goes s ss w → bind_mv_expand s w i t ≡ Ok v → Goes s ss v
parts_goes s ss w v i t g e =
    let name = item_name s (columns w) i in
    let at = first_token (item_value i) in
    let x = then_ok (and_then (bound (names s) (columns w) (item_value i)) (if_dynamic at))
    (λ x. and_then (part_said s t) (λ u. done (expanded_as w x name u))) v e in
    let u = then_ok (part_said s t) (λ u. done (expanded_as w x.0 name u)) v x.2 in
    let y = then_ok (bound (names s) (columns w) (item_value i)) (if_dynamic at) x.0 x.1 in
    let typed = dynamic_typed s.lets (columns w) at y.0 x.0 (bound_typed (names s) (columns w) (item_value i) y.0 y.1) y.2 in
    subst (Goes s ss) (done_is (expanded_as w x.0 name u.0) v u.2) (expanded_goes s ss w x.0 name u.0 g typed)
