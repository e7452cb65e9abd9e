-- An item of `mv-expand` without a name replaces its own column, or else stands behind all under a free name.
use Rattle.std.proofs.Common.{◌≡◌, ℕ, zero, suc, ◌+◌, Bool, true, false, cond, List, [], ◌∷◌, ◌++◌, length, Option, Some, None, Ok, refl, sym, ap, ◌∙◌, subst}
use Rattle.std.specs.Prelude.{slice_get, slice_set}
use Rattle.kq_bind_query.specs.kq_bind_operators.Clauses.{part_type, or_dynamic, or_first_column, own_or_free, item_name, item_value, if_dynamic, expanded_at, expanded_as, bind_mv_expand}
use Rattle.kq_bind_query.specs.kq_bind_operators.Flows.{Flowing, columns_of, columns, after}
use Rattle.kq_bind_query.specs.kq_bind_operators.Scopes.{Scoping, names}
use Rattle.kq_bind_columns.specs.Defaults.{first_token, column_of, default_name}
use Rattle.kq_bind_columns.specs.Items.{field}
use Rattle.kq_bind_columns.specs.Naming.{is_taken, free_name}
use Rattle.kq_bind_columns.proofs.Free.{free_name-free}
use Rattle.kq_bind_expressions.specs.Bound.{bound}
use Rattle.kq_bind_expressions.specs.Lookup.{first_named}
use Rattle.kq_bind_expressions.specs.Verdicts.{and_then}
use Rattle.kq_plan_expressions.specs.Terms.{Term, Bound}
use Rattle.kq_read_grammar.specs.Trees.{Tree, name, group, ItemTree, plain}
use Rattle.kq_plan.specs.Plans.{Doing, Stepping, expanded}
use Rattle.kq_read_meanings.specs.Names.{name_said}
use Rattle.kq_read_symbols.specs.declared.kind.Symbol.{Symbol}
use Rattle.kq_value.specs.declared.schema.Field.{Field}
use Rattle.kq_value.specs.declared.ty.Ty.{Ty}
use Rattle.kq_bind_query.specs.Expanded.{PutsPartsAt, ReplacesOwn, StandsLast}
use Rattle.kq_bind_query.specs.Suffixes.{HaveRoom, IsMadeFree}
use Rattle.kq_bind_query.proofs.Apart.{not_both, there_taken, NamedAt, found_named, unfound}
use Rattle.kq_bind_query.proofs.Progress.{then_ok, done, done_is}
use Rattle.kq_bind_query.proofs.Suffixed.{made_free}

-- ---- the step that is added

step_there : (ss : List Stepping) (s : Stepping) → slice_get (ss ++ s ∷ []) (length ss) ≡ Some s
step_there [] s = refl
step_there (t ∷ ss) s = step_there ss s

abbrev step_of : Flowing → Doing → List Field → Stepping
step_of w doing cs = record { stage = w.progress.stages + 1; doing = doing; columns = cs }

columns_after : (w : Flowing) (d : ℕ → Doing) (cs : List Field) → columns (after w d cs) ≡ cs
columns_after w d cs = ap columns_of (step_there w.progress.steps (step_of w (d w.input) cs))

parts_at : (w : Flowing) (x : Term) (place : ℕ) (t : Option Ty) (cs : List Field) → PutsPartsAt place (after w (λ i. expanded i x place t) cs)
parts_at w x place t cs =
    let one = step_of w (expanded w.input x place t) cs in
    record { step = one; there = step_there w.progress.steps one; input = w.input; value = x; to = t; does = refl }

-- ---- the column of a name

named_there : (cs : List Field) (i : ℕ) (said : List ℕ) → NamedAt cs i said → (c : Field) × (slice_get cs i ≡ Some c) × (c.name ≡ said)
named_there [] i said h = absurd h
named_there (c ∷ cs) zero said h = (c, refl, h)
named_there (c ∷ cs) (suc i) said h = named_there cs i said h

found_there : (cs : List Field) (said : List ℕ) (k : ℕ × Ty) → first_named 0 cs said ≡ Some k → (c : Field) × (slice_get cs k.0 ≡ Some c) × (c.name ≡ said)
found_there cs said k found = named_there cs k.0 said (found_named cs said k found)

-- where a column has the name, the parts take its place
taken_replaced : (w : Flowing) (x : Bound) (own : List ℕ) (t : Option Ty) → is_taken (columns w) own ≡ true → ReplacesOwn own w (expanded_as w x own t)
taken_replaced w x own t taken = by (first_named 0 (columns w) own) refl where
  by : (o : Option (ℕ × Ty)) → first_named 0 (columns w) own ≡ o → ReplacesOwn own w (expanded_at w x own t o)
  by (Some k) found =
      let f = field own (or_dynamic t) in
      let old = found_there (columns w) own k found in
      record {
        place = k.0;
        old = old.0;
        there = old.1;
        so = old.2;
        column = f;
        named = refl;
        replaced = columns_after w (λ i. expanded i x.0 k.0 t) (slice_set (columns w) k.0 f);
        parts = parts_at w x.0 k.0 t (slice_set (columns w) k.0 f);
      }
  by None none = absurd (not_both (is_taken (columns w) own) taken (unfound (columns w) own none))

-- where no column has it, they stand behind all
free_last : (w : Flowing) (x : Bound) (base said : List ℕ) (t : Option Ty) → is_taken (columns w) said ≡ false → IsMadeFree (columns w) [] base said
    → StandsLast base w (expanded_as w x said t)
free_last w x base said t free made = by (first_named 0 (columns w) said) refl where
  by : (o : Option (ℕ × Ty)) → first_named 0 (columns w) said ≡ o → StandsLast base w (expanded_at w x said t o)
  by (Some k) found =
      let old = found_there (columns w) said k found in
      let taken = subst (λ n. is_taken (columns w) n ≡ true) old.2 (there_taken (columns w) k.0 old.0 old.1) in
      absurd (not_both (is_taken (columns w) said) taken free)
  by None none =
      let f = field said (or_dynamic t) in
      record {
        column = f;
        behind = columns_after w (λ i. expanded i x.0 (length (columns w)) t) (columns w ++ f ∷ []);
        named = made;
        parts = parts_at w x.0 (length (columns w)) t (columns w ++ f ∷ []);
      }

-- ---- the item

-- the column that an expression is, is one of the columns
own_taken : (text : List ℕ) (cs : List Field) (e : Tree) (own : List ℕ) → column_of text cs e ≡ Some own → is_taken cs own ≡ true
own_taken text cs (name n) own h = by (is_taken cs (name_said text n)) refl h where
  by : (b : Bool) → is_taken cs (name_said text n) ≡ b → cond b (Some (name_said text n)) None ≡ Some own → is_taken cs own ≡ true
  by true is g = let same : name_said text n ≡ own = cc in subst (λ said. is_taken cs said ≡ true) same is
  by false is g = absurd (cc)
own_taken text cs (group t e) own h = own_taken text cs e own h
own_taken text cs _ own h = absurd (cc)

-- what is bound, and what it is expanded to
parts_bound : (s : Scoping) (w v : Flowing) (i : ItemTree) (t : Option Symbol) → bind_mv_expand s w i t ≡ Ok v
    → (x : Bound) × (u : Option Ty) × (expanded_as w x (item_name s (columns w) i) u ≡ v)
parts_bound s w v i t e =
    let said = item_name s (columns w) i in
    let x = then_ok (and_then (bound (names s) (columns w) (item_value i)) (if_dynamic (first_token (item_value i))))
    (λ x. and_then (part_type s t) (λ u. done (expanded_as w x said u))) v e in
    let u = then_ok (part_type s t) (λ u. done (expanded_as w x.0 said u)) v x.2 in
    (x.0, u.0, done_is (expanded_as w x.0 said u.0) v u.2)

pub own_replaced : (s : Scoping) (w v : Flowing) (e : Tree) (t : Option Symbol) (own : List ℕ) → column_of s.text (columns w) e ≡ Some own
    → bind_mv_expand s w (plain e) t ≡ Ok v → ReplacesOwn own w v
own_replaced s w v e t own is h =
    let r = parts_bound s w v (plain e) t h in
    let base = or_first_column (default_name s.text (columns w) e) in
    let said : item_name s (columns w) (plain e) ≡ own = ap (λ o. own_or_free (columns w) o base) is in
    subst (ReplacesOwn own w) (ap (λ n. expanded_as w r.0 n r.1) (sym said) ∙ r.2) (taken_replaced w r.0 own r.1 (own_taken s.text (columns w) e own is))

pub other_last : (s : Scoping) (w v : Flowing) (e : Tree) (t : Option Symbol) → HaveRoom (columns w) [] → column_of s.text (columns w) e ≡ None
    → bind_mv_expand s w (plain e) t ≡ Ok v → StandsLast (or_first_column (default_name s.text (columns w) e)) w v
other_last s w v e t small is h =
    let r = parts_bound s w v (plain e) t h in
    let base = or_first_column (default_name s.text (columns w) e) in
    let free = free_name (columns w) [] base in
    let said : item_name s (columns w) (plain e) ≡ free = ap (λ o. own_or_free (columns w) o base) is in
    subst (StandsLast base w) (ap (λ n. expanded_as w r.0 n r.1) (sym said) ∙ r.2)
    (free_last w r.0 base free r.1 (free_name-free (columns w) [] base small) (made_free (columns w) [] base small))
