-- Arguments of aggregates that stand in columns.
use Rattle.std.proofs.Common.{◌≡◌, ◌++◌, ℕ, List, [], ◌∷◌, length, map, Err, refl, sym, ap, ◌∙◌}
use Rattle.std.proofs.lemmas.Option.{unwrap_or-slice_get}
use Rattle.kq_run_aggregates.specs.Across.{rows_across}
use Rattle.kq_value.specs.Computed.{AnswersAs, Computed, Is, Overflow, and_then, each}
use Rattle.kq_value.specs.declared.fault.EvalFault.{EvalFault}
use Rattle.kq_value.specs.declared.fault.EvalFault.TheVariants as fault
use Rattle.kq_plan_expressions.specs.Terms.{Term, column, one_term, term_of}
use Rattle.kq_plan_expressions.specs.declared.expr.Expr.TheFolds.{fold-roll-Expr}
use Rattle.kq_plan_expressions.specs.declared.expr.Expr.TheOpen.{Expr-F}
use Rattle.kq_plan_expressions.specs.declared.expr.Expr.TheVariants.{Column, rolls-Column}
use Rattle.kq_run_groups.proofs.Columns.{rows_are}
use Rattle.kq_run_scan.specs.kq_eval_pieces.Operators.{Row, values_at}
use Rattle.kq_run_scan.specs.kq_run_reshape.Distinct.{chosen}
use Rattle.kq_run_scan.specs.kq_eval_row.Val.{Surroundings, cell_of, meaning}
use Rattle.kq_plan.specs.Plans.{Aggregating}
use Rattle.kq_value.specs.declared.ty.Ty.TheVariants as ty
use Rattle.kq_value.specs.declared.value.Value.{Value}
use Rattle.kq_value.specs.declared.value.Value.TheVariants.{Null}
use Rattle.kq_run_gather.specs.Grouping.{arguments_over, column_over, columns_taken, terms_read, terms_taken}
use Rattle.kq_run_gather.proofs.KeyColumns.{columns_long, keys_came, keys_fail}

pub term_of_column : (j : ℕ) → term_of (Column j) ≡ column j
term_of_column j = ap term_of (sym (rolls-Column j)) ∙ fold-roll-Expr Term one_term (Expr-F.Column j)

-- ---- lists one behind another

module _ {A B : Type 0} (f : A → Computed B) where
  none_before : (o : Computed (List B)) → o ≡ and_then o (λ vs. Is vs)
  none_before Overflow = refl
  none_before (Is vs) = refl

  one_before : (c : Computed B) (d e : Computed (List B))
      → and_then c (λ y. and_then (and_then d (λ us. and_then e (λ vs. Is (us ++ vs)))) (λ ys. Is (y ∷ ys))) ≡ and_then (and_then c (λ y. and_then d (λ ys. Is (y ∷ ys)))) (λ us. and_then e (λ vs. Is (us ++ vs)))
  one_before Overflow d e = refl
  one_before (Is y) Overflow e = refl
  one_before (Is y) (Is us) Overflow = refl
  one_before (Is y) (Is us) (Is vs) = refl

  each_behind : (xs ys : List A) → each f (xs ++ ys) ≡ and_then (each f xs) (λ us. and_then (each f ys) (λ vs. Is (us ++ vs)))
  each_behind [] ys = none_before (each f ys)
  each_behind (x ∷ xs) ys = ap (λ c. and_then (f x) (λ y. and_then c (λ zs. Is (y ∷ zs)))) (each_behind xs ys) ∙ one_before (f x) (each f xs) (each f ys)

  pub both_came : (xs ys : List A) (us vs : List B) → each f xs ≡ Is us → each f ys ≡ Is vs → each f (xs ++ ys) ≡ Is (us ++ vs)
  both_came xs ys us vs first second = each_behind xs ys ∙ (λ i. and_then (first i) (λ ps. and_then (second i) (λ qs. Is (ps ++ qs))))

  pub first_fails : {C : Type 0} (see : C → List B) (xs ys : List A) (met : EvalFault) → AnswersAs see (each f xs) (Err met) → AnswersAs see (each f (xs ++ ys)) (Err met)
  first_fails {C} see xs ys fault.Overflow over = each_behind xs ys ∙ ap (λ (c : Computed (List B)). and_then c (λ ps. and_then (each f ys) (λ qs. Is (ps ++ qs)))) over
  first_fails {C} see xs ys fault.Memory over = tt

  pub second_fails : {C : Type 0} (see : C → List B) (xs ys : List A) (us : List B) (met : EvalFault) → each f xs ≡ Is us → AnswersAs see (each f ys) (Err met) → AnswersAs see (each f (xs ++ ys)) (Err met)
  second_fails {C} see xs ys us fault.Overflow first over = each_behind xs ys ∙ (λ i. and_then (first i) (λ ps. and_then (over i) (λ qs. Is (ps ++ qs))))
  second_fails {C} see xs ys us fault.Memory first over = tt

-- ---- the terms whose values arguments are

chosen_are : (is : List ℕ) (s : Surroundings) (r : Row) → values_at (map column is) s r ≡ Is (chosen is r)
chosen_are [] s r = refl
chosen_are (i ∷ is) s r =
    ap (λ (c : Computed Row). and_then c (λ vs. Is (cell_of r i ∷ vs))) (chosen_are is s r) ∙ ap (λ (v : Value). Is (v ∷ chosen is r)) (unwrap_or-slice_get r i (Null ty.Long))

one_value_before : (c : Computed Value) (d : Computed Row) (more : Row) → and_then c (λ v. and_then (and_then d (λ vs. Is (vs ++ more))) (λ vs. Is (v ∷ vs))) ≡ and_then (and_then c (λ v. and_then d (λ vs. Is (v ∷ vs)))) (λ vs. Is (vs ++ more))
one_value_before Overflow d more = refl
one_value_before (Is v) Overflow more = refl
one_value_before (Is v) (Is vs) more = refl

values_then : (es : List Term) (is : List ℕ) (s : Surroundings) (r : Row) → values_at (es ++ map column is) s r ≡ and_then (values_at es s r) (λ vs. Is (vs ++ chosen is r))
values_then [] is s r = chosen_are is s r
values_then (e ∷ es) is s r = ap (λ (c : Computed Row). and_then (meaning e s r) (λ v. and_then c (λ vs. Is (v ∷ vs)))) (values_then es is s r) ∙ one_value_before (meaning e s r) (values_at es s r) (chosen is r)

arguments_read : (g : Aggregating) (s : Surroundings) (rows : List Row) → arguments_over s rows g ≡ each (values_at (terms_read g) s) rows
arguments_read g s rows = λ j. each (λ (r : Row). sym (values_then (terms_taken g) (columns_taken g) s r) j) rows

pub columns_came : (g : Aggregating) (s : Surroundings) (rows : List Row) (columns : List (List Value)) → each (column_over s rows) (terms_read g) ≡ Is columns → arguments_over s rows g ≡ Is (rows_across (length rows) columns)
columns_came g s rows columns came =
    arguments_read g s rows ∙ keys_came (terms_read g) s rows columns came ∙ ap (λ (those : List Row). Is those) (rows_are (length rows) columns (columns_long (terms_read g) s rows columns came))

pub columns_fail : {C D : Type 0} (see : C → List (List Value)) (saw : D → List Row) (g : Aggregating) (s : Surroundings) (rows : List Row) (met : EvalFault) → AnswersAs see (each (column_over s rows) (terms_read g)) (Err met)
    → AnswersAs saw (arguments_over s rows g) (Err met)
columns_fail {C} {D} see saw g s rows fault.Overflow over = arguments_read g s rows ∙ keys_fail see (terms_read g) s rows fault.Overflow over
columns_fail {C} {D} see saw g s rows fault.Memory over = tt
