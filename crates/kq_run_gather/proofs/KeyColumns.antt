-- Keys whose cells stand in several columns.
use Rattle.std.proofs.Common.{◌≡◌, ℕ, List, [], ◌∷◌, length, Err, refl, ap, ◌∙◌}
use Rattle.kq_value.specs.Computed.{Answers, AnswersAs, Computed, Is, Overflow, and_then, each}
use Rattle.kq_value.specs.declared.fault.EvalFault.{EvalFault}
use Rattle.kq_value.specs.declared.fault.EvalFault.TheVariants as fault
use Rattle.kq_plan_expressions.specs.Terms.{Term}
use Rattle.kq_run_groups.specs.Columns.{HaveLength, in_front, rows_of}
use Rattle.kq_run_scan.specs.kq_eval_pieces.Operators.{Row, values_at}
use Rattle.kq_run_scan.specs.kq_eval_row.Val.{Surroundings, meaning}
use Rattle.kq_value.specs.declared.value.Value.{Value}
use Rattle.kq_run_gather.specs.Grouping.{column_over}
use Rattle.kq_run_gather.proofs.Arguments.{each_all, length-each, no_values}

abbrev Column : Type 0
Column = List Value

-- a row more
next_front : (c : Computed Value) (p : Computed Row) (d : Computed Column) (q f : Computed (List Row)) → f ≡ and_then d (λ cells. and_then q (λ keys. Is (in_front cells keys)))
    → and_then (and_then c (λ x. and_then p (λ r. Is (x ∷ r)))) (λ y. and_then f (λ ys. Is (y ∷ ys)))
    ≡ and_then (and_then c (λ x. and_then d (λ xs. Is (x ∷ xs)))) (λ cells. and_then (and_then p (λ r. and_then q (λ rs. Is (r ∷ rs)))) (λ keys. Is (in_front cells keys)))
next_front Overflow p d q f h = refl
next_front (Is x) Overflow Overflow q f h = refl
next_front (Is x) Overflow (Is xs) q f h = refl
next_front (Is x) (Is r) Overflow q f h = rw h refl
next_front (Is x) (Is r) (Is xs) Overflow f h = rw h refl
next_front (Is x) (Is r) (Is xs) (Is rs) f h = rw h refl

-- the first key's values stand in front of the others'
front : (e : Term) (es : List Term) (s : Surroundings) (rows : List Row) → each (values_at (e ∷ es) s) rows ≡ and_then (column_over s rows e) (λ cells. and_then (each (values_at es s) rows) (λ keys. Is (in_front cells keys)))
front e es s [] = refl
front e es s (r ∷ rows) = next_front (meaning e s r) (values_at es s r) (column_over s rows e) (each (values_at es s) rows) (each (values_at (e ∷ es) s) rows) (front e es s rows)

columns_then : (c : Computed Column) (d : Computed (List Column)) (n : ℕ) → and_then c (λ cells. and_then (and_then d (λ columns. Is (rows_of n columns))) (λ keys. Is (in_front cells keys)))
    ≡ and_then (and_then c (λ cells. and_then d (λ columns. Is (cells ∷ columns)))) (λ columns. Is (rows_of n columns))
columns_then Overflow d n = refl
columns_then (Is cells) Overflow n = refl
columns_then (Is cells) (Is columns) n = refl

-- by rows is by columns
keys_by_columns : (es : List Term) (s : Surroundings) (rows : List Row) → each (values_at es s) rows ≡ and_then (each (column_over s rows) es) (λ columns. Is (rows_of (length rows) columns))
keys_by_columns [] s rows = no_values s rows
keys_by_columns (e ∷ es) s rows =
    front e es s rows
    ∙ ap (λ (c : Computed (List Row)). and_then (column_over s rows e) (λ cells. and_then c (λ keys. Is (in_front cells keys)))) (keys_by_columns es s rows)
    ∙ columns_then (column_over s rows e) (each (column_over s rows) es) (length rows)

pub keys_came : (es : List Term) (s : Surroundings) (rows : List Row) (columns : List Column) → each (column_over s rows) es ≡ Is columns → each (values_at es s) rows ≡ Is (rows_of (length rows) columns)
keys_came es s rows columns came = keys_by_columns es s rows ∙ ap (λ (c : Computed (List Column)). and_then c (λ those. Is (rows_of (length rows) those))) came

pub keys_fail : {C : Type 0} (see : C → List Column) (es : List Term) (s : Surroundings) (rows : List Row) (met : EvalFault) → AnswersAs see (each (column_over s rows) es) (Err met) → Answers (each (values_at es s) rows) (Err met)
keys_fail {C} see es s rows fault.Overflow over = keys_by_columns es s rows ∙ ap (λ (c : Computed (List Column)). and_then c (λ those. Is (rows_of (length rows) those))) over
keys_fail {C} see es s rows fault.Memory over = tt

pub columns_long : (es : List Term) (s : Surroundings) (rows : List Row) (columns : List Column) → each (column_over s rows) es ≡ Is columns → HaveLength (length rows) columns
columns_long es s rows columns came = each_all (λ (cells : Column). length cells ≡ length rows) (column_over s rows) es columns (λ e cells one. length-each (meaning e s) rows cells one) came

pub seen_fails : {A C : Type 0} (see : C → A) (c : Computed A) (met : EvalFault) → AnswersAs see c (Err met) → Answers c (Err met)
seen_fails {A} {C} see c fault.Overflow over = over
seen_fails {A} {C} see c fault.Memory over = tt
