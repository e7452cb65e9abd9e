-- Rows of which a first condition keeps none.
use Rattle.std.specs.Prelude.{◌≡◌, ◌<◌, ℕ, Bool, false, true, List, [], ◌∷◌, Option, Some, None}
use Rattle.std.specs.List.{All}
use Rattle.kq_value.specs.declared.schema.Field.{Field}
use Rattle.kq_value.specs.declared.value.Value.{Value}
use Rattle.kq_value.specs.declared.zone.ZoneOp.{ZoneOp}
use Rattle.kq_value.specs.declared.zone.ZoneOp.TheVariants as op
use Rattle.kq_value.specs.Typed.{is_null}
use Rattle.kq_value.specs.Values.{value_kind}
use Rattle.kq_value_arithmetic.specs.Comparing.{are_same, at_least, at_most, equal, greater, less}
use Rattle.kq_value_arithmetic.specs.Logic.{is_yes}
use Rattle.kq_store_column.specs.Cells.{IsAtMost}
use Rattle.kq_value.specs.Computed.{Is}
use Rattle.kq_plan_expressions.specs.declared.expr.Expr.{Expr}
use Rattle.kq_plan_expressions.specs.declared.expr.Link.{Link}
use Rattle.kq_plan_expressions.specs.declared.expr.Link.TheVariants as link
use Rattle.kq_plan_expressions.specs.declared.operation.Operation.TheVariants as operation
use Rattle.kq_plan_expressions.specs.Terms.{Term, and_term, call, column, literal, no_term, term_of}
use Rattle.kq_plan_functions.specs.declared.function.Function.{Function}
use Rattle.kq_store_rows.specs.Widened.{missing_at}
use Rattle.kq_run_row_operators.specs.kq_eval_pieces.Operators.{Row}
use Rattle.kq_run_row_operators.specs.kq_eval_row.Val.{Surroundings, cell_of, meaning}
use Rattle.kq_run_row_operators.specs.Operators.{Rowwise, keeping, making, mv_expanding}
use Rattle.kq_run_row_operators.specs.Ran.{came, ran}
use Rattle.kq_run_scan.specs.declared.ruled.Comparison.{Comparison}

-- what a comparison of two values answers
abbrev pub answered : ZoneOp → Value → Value → Value
answered op.Equal = equal
answered op.Below = less
answered op.AtMost = at_most
answered op.Above = greater
answered op.AtLeast = at_least

-- the function is this comparison
pub record Answers (function : Function) (o : ZoneOp) : Type 0 where
  pub is : (s : Surroundings) (row : Row) (a b : Term) → (v w : Value) → meaning a s row ≡ Is v → meaning b s row ≡ Is w → meaning (call function (and_term a (and_term b no_term))) s row ≡ Is (answered o v w)

-- the term answers of each row as this comparison of its cell
pub record Compares (e : Term) (c : Comparison) : Type 0 where
  pub is : (s : Surroundings) (row : Row) → meaning e s row ≡ Is (answered c.op (cell_of row c.column) c.value.now)

-- the two comparisons that stand for a `between`: of the same column's cell with the least and with the greatest
pub record AreEnds (args : List Term) (low high : Comparison) : Type 0 where
  pub at_least : low.op ≡ op.AtLeast
  pub at_most : high.op ≡ op.AtMost
  pub same : high.column ≡ low.column
  pub args_are : args ≡ column low.column ∷ literal low.value.now ∷ literal high.value.now ∷ []

-- the comparison is false or null for a cell
abbrev pub IsNotMet : Comparison → Value → Type 0
IsNotMet c v = is_yes (answered c.op v c.value.now) ≡ false

-- and for the cells of all rows
abbrev pub MeetNone : Comparison → List Row → Type 0
MeetNone c rows = All (λ r. IsNotMet c (cell_of r c.column)) rows

-- and for all values between two
abbrev pub MeetsNoneBetween : Comparison → Value → Value → Type 0
MeetsNoneBetween c least greatest = (v : Value) → IsAtMost least v → IsAtMost v greatest → IsNotMet c v

-- the value is no dynamic, and so holds no other
abbrev pub IsPlain : Value → Type 0
IsPlain v = value_kind v < 13

-- none of the values between two is this one
abbrev pub LiesOutside : Value → Value → Value → Type 0
LiesOutside value least greatest = (v : Value) → IsAtMost least v → IsAtMost v greatest → are_same v value ≡ false

-- what stands in the column where a row has no cell is null
abbrev pub MissingIsNull : List Field → ℕ → Type 0
MissingIsNull fields j = (v : Value) → missing_at fields j ≡ Some v → is_null v ≡ true

-- the condition comes to a value for the row that isn't true
abbrev pub Drops : Term → Surroundings → Row → Type 0
Drops e s row = (v : Value) × (meaning e s row ≡ Is v) × (is_yes v ≡ false)

-- for none of the rows is the condition true, and it overflows on none
abbrev pub KeepsNone : Term → List Row → Type 0
KeepsNone e rows = (s : Surroundings) → All (Drops e s) rows

-- the condition comes to a value for each of the rows, and where this is so, to none that is true
pub record IsJudged (e : Term) (rows : List Row) (so : Bool) : Type 0 where
  pub comes : (s : Surroundings) → All (λ r. (v : Value) × (meaning e s r ≡ Is v)) rows
  pub none : so ≡ true → KeepsNone e rows

-- the link is an `and` with such a condition
pub record IsConjunct (l : Link Term) (rows : List Row) (so : Bool) : Type 0 where
  pub operand : Term
  pub is : l ≡ link.With operation.And operand
  pub judged : IsJudged operand rows so

-- the first operator keeps the rows for which a condition is true that is so
abbrev pub FirstKeeps : List Rowwise → (Term → Type 0) → Type 0
FirstKeeps [] So = ⊥
FirstKeeps (keeping e ∷ os) So = So e
FirstKeeps (making es ∷ os) So = ⊥
FirstKeeps (mv_expanding e at t ∷ os) So = ⊥

-- nothing comes of the rows
abbrev pub LeavesNothing : List Rowwise → Surroundings → List Row → Type 0
LeavesNothing os s rows = ran os s rows ≡ came []

-- there is a condition, which keeps none of the rows
abbrev pub IsRuledBy : Option Expr → List Row → Type 0
IsRuledBy (Some e) rows = KeepsNone (term_of e) rows
IsRuledBy None rows = ⊥
