-- Plans as plain data.
use Rattle.std.specs.Prelude.{ℕ, Bool, List, Option, Vec, map}
use Rattle.std.specs.declared.alloc.Global.{Global}
use Rattle.kq_plan_expressions.specs.declared.expr.Expr.{Expr}
use Rattle.kq_plan_expressions.specs.Terms.{Term, term_of}
use Rattle.kq_plan.specs.declared.plan.Plan.{Plan}
use Rattle.kq_plan.specs.declared.plan.Step.{Step}
use Rattle.kq_plan.specs.declared.work.Aggregate.{Aggregate}
use Rattle.kq_plan.specs.declared.work.Aggregate.TheVariants as aggregate
use Rattle.kq_plan.specs.declared.work.Arm.{Arm}
use Rattle.kq_plan.specs.declared.work.JoinKind.{JoinKind}
use Rattle.kq_plan.specs.declared.work.LeafKind.{LeafKind}
use Rattle.kq_plan.specs.declared.work.SortKey.{SortKey}
use Rattle.kq_plan.specs.declared.work.Work.{Work}
use Rattle.kq_plan.specs.declared.work.Work.TheVariants as work
use Rattle.kq_plan_expressions.specs.kq_value.Field.{Field}
use Rattle.kq_plan_expressions.specs.kq_value.Ty.{Ty}
use Rattle.kq_plan_expressions.specs.kq_value.Value.{Value}

-- a key of a sort: its value, whether it descends, and whether nulls come first
pub record Sorting : Type 0 where
  pub value : Term
  pub descending : Bool
  pub nulls_first : Bool

pub data Aggregating : Type 0 where
  rows_counted : Aggregating
  summed : Term → Aggregating
  least_of : Term → Aggregating
  greatest_of : Term → Aggregating
  at_greatest : Term → List ℕ → Aggregating
  at_least : Term → List ℕ → Aggregating
  any_of : List ℕ → Aggregating
  set_of : Term → ℕ → Aggregating

-- an arm of a union: its step, and for each column of the union the arm's column that fills it
abbrev pub Filling : Type 0
Filling = ℕ × List (Option ℕ)

-- what a step does: the numbers of the steps whose rows it takes come first
pub data Doing : Type 0 where
  leaf : LeafKind → List ℕ → Doing
  one_row : List Term → Doing
  numbers : Term → Term → Term → Doing
  written : List (List Value) → Doing
  scalar : Term → Doing
  kept : ℕ → Term → Doing
  mapped : ℕ → List Term → Doing
  cut : ℕ → ℕ → Doing
  counted : ℕ → Doing
  sorted : ℕ → List Sorting → Doing
  topped : ℕ → ℕ → Sorting → Doing
  apart : ℕ → List ℕ → Doing
  summarized : ℕ → List Term → List Aggregating → Doing
  joined : JoinKind → ℕ → ℕ → List (ℕ × ℕ) → Doing
  united : List Filling → Doing
  expanded : ℕ → Term → ℕ → Option Ty → Doing

-- a step: its stage, what it does, and the columns of its rows
pub record Stepping : Type 0 where
  pub stage : ℕ
  pub doing : Doing
  pub columns : List Field

-- steps in the order of their evaluation, and the one whose rows are the answer
pub record Planned : Type 0 where
  pub steps : List Stepping
  pub output : ℕ

-- ---- the code's plans

abbrev pub terms_seen : Vec Expr Global → List Term
terms_seen es = map term_of es.items

abbrev pub sorting_of : SortKey → Sorting
sorting_of k = record { value = term_of k.value; descending = k.descending; nulls_first = k.nulls_first }

abbrev pub aggregating_of : Aggregate → Aggregating
aggregating_of aggregate.Count = rows_counted
aggregating_of (aggregate.Sum e) = summed (term_of e)
aggregating_of (aggregate.Min e) = least_of (term_of e)
aggregating_of (aggregate.Max e) = greatest_of (term_of e)
aggregating_of (aggregate.ArgMax e cs) = at_greatest (term_of e) cs.items
aggregating_of (aggregate.ArgMin e cs) = at_least (term_of e) cs.items
aggregating_of (aggregate.TakeAny cs) = any_of cs.items
aggregating_of (aggregate.MakeSet e n) = set_of (term_of e) n

abbrev pub filling_of : Arm → Filling
filling_of a = (a.input, a.cells.items)

abbrev pub cells_seen : Vec Value Global → List Value
cells_seen vs = vs.items

abbrev pub doing_of : Work → Doing
doing_of (work.Leaf k n) = leaf k n
doing_of (work.Row es) = one_row (terms_seen es)
doing_of (work.Range a b c) = numbers (term_of a) (term_of b) (term_of c)
doing_of (work.Table rows) = written (map cells_seen rows.items)
doing_of (work.Scalar e) = scalar (term_of e)
doing_of (work.Where i e) = kept i (term_of e)
doing_of (work.Project i es) = mapped i (terms_seen es)
doing_of (work.Take i n) = cut i n
doing_of (work.Count i) = counted i
doing_of (work.Sort i ks) = sorted i (map sorting_of ks.items)
doing_of (work.Top i n k) = topped i n (sorting_of k)
doing_of (work.Distinct i cs) = apart i cs.items
doing_of (work.Summarize i es gs) = summarized i (terms_seen es) (map aggregating_of gs.items)
doing_of (work.Join k i j ps) = joined k i j ps.items
doing_of (work.Union us) = united (map filling_of us.items)
doing_of (work.MvExpand i e c t) = expanded i (term_of e) c t

abbrev pub stepping_of : Step → Stepping
stepping_of s = record { stage = s.stage; doing = doing_of s.work; columns = s.columns.items }

abbrev pub planned_of : Plan → Planned
planned_of p = record { steps = map stepping_of p.steps.items; output = p.output }
