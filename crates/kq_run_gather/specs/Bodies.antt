-- Plans that have the form of a view's body, and when groups stand for one.
use Rattle.std.specs.Prelude.{◌≡◌, ℕ, pos, zero, suc, Bool, true, false, List, [], ◌∷◌, ◌++◌, drop, length, map, Option, Some, Result, Ok, Err}
use Rattle.std.specs.List.{All}
use Rattle.kq_value.specs.Computed.{Computed, Is, Overflow}
use Rattle.kq_value.specs.declared.fault.EvalFault.{EvalFault}
use Rattle.kq_value.specs.declared.fault.EvalFault.TheVariants as fault
use Rattle.kq_plan_expressions.specs.Terms.{Term}
use Rattle.kq_run_groups.specs.Groups.{Grouping}
use Rattle.kq_run_scan.specs.kq_eval_pieces.Operators.{Row}
use Rattle.kq_plan.specs.declared.names.NameKind.TheVariants as name
use Rattle.kq_plan.specs.declared.work.LeafKind.TheVariants as kind
use Rattle.kq_plan.specs.Fits.{FitAfter, ty_of}
use Rattle.kq_plan.specs.Names.{Known}
use Rattle.kq_plan.specs.Plans.{Aggregating, Doing, Planned, Stepping, leaf, kept, mapped, summarized}
use Rattle.kq_run_scan.specs.kq_eval_row.Val.{Surroundings, surroundings}
use Rattle.kq_run_row_operators.specs.Ran.{Ran, came, failed, ran}
use Rattle.kq_value.specs.declared.schema.Field.{Field}
use Rattle.kq_value.specs.declared.ty.Ty.{Ty}
use Rattle.kq_run_gather.specs.Grouping.{GroupsOf, Summarized, keyed}
use Rattle.kq_run_gather.specs.Steps.{flows_from, last_of, operators_of, stage_at}

-- ---- the form

-- where, extend, project, project-away or project-rename
abbrev pub is_body_step : Doing → Bool
is_body_step (kept i e) = true
is_body_step (mapped i es) = true
is_body_step d = false

abbrev pub is_summarize : Doing → Bool
is_summarize (summarized i es gs) = true
is_summarize d = false

-- each takes the rows of the one before it; the first takes those of the step of this number
abbrev pub Chained : ℕ → List Stepping → Type 0
Chained n [] = Unit {0}
Chained n (s ∷ ss) = (flows_from s.doing ≡ Some n) × Chained (suc n) ss

-- every name is that of a table of these columns
abbrev pub known_alone : List Field → List ℕ → Option Known
known_alone columns said = Some (name.Table, columns)

-- the rows of the table of this name under these columns, then row operators, then one summarize, last, each over the rows of the one before it
pub record IsBody (table : List ℕ) (columns : List Field) (p : Planned) : Type 0 where
  pub source : Stepping
  pub by_row : List Stepping
  pub last : Stepping
  pub steps : p.steps ≡ source ∷ (by_row ++ last ∷ [])
  pub reads : source.doing ≡ leaf kind.Table table
  pub under : source.columns ≡ columns
  pub rows_only : All (λ (s : Stepping). is_body_step s.doing ≡ true) by_row
  pub groups : is_summarize last.doing ≡ true
  pub chained : Chained 0 (by_row ++ last ∷ [])
  pub output : p.output ≡ suc (length by_row)
  pub fits : FitAfter (known_alone columns) [] p.steps

-- the body of some view
pub record IsViewBody (p : Planned) : Type 0 where
  pub table : List ℕ
  pub columns : List Field
  pub body : IsBody table columns p

-- ---- its parts

-- neither a let nor the moment of a command is looked at
abbrev pub alone : Surroundings
alone = surroundings (pos 0) []

abbrev pub columns_of : List Stepping → List Field
columns_of [] = []
columns_of (s ∷ ss) = s.columns

-- the columns under which it reads its table
abbrev pub columns_read : Planned → List Field
columns_read p = columns_of p.steps

abbrev pub behind_source : List Stepping → List Stepping
behind_source [] = []
behind_source (s ∷ ss) = ss

abbrev pub keys_in : Doing → List Term
keys_in (summarized i es gs) = es
keys_in d = []

abbrev pub aggregates_in : Doing → List Aggregating
aggregates_in (summarized i es gs) = gs
aggregates_in d = []

abbrev pub keys_of : Planned → List Term
keys_of p = keys_in (last_of p.steps).doing

abbrev pub aggregates_of : Planned → List Aggregating
aggregates_of p = aggregates_in (last_of p.steps).doing

-- the columns of its rows
abbrev pub columns_made : Planned → List Field
columns_made p = (last_of p.steps).columns

-- the types of those of the aggregates
abbrev pub types_made : Planned → List Ty
types_made p = map ty_of (drop (length (keys_of p)) (columns_made p))

-- what its row operators make of rows
abbrev pub ran_by : Planned → List Row → Ran
ran_by p rows = ran (operators_of (behind_source p.steps)) alone rows

-- ---- groups

-- no operator, key or argument overflows on a row, and the groups are those of the rows that are left
pub record StandsFor (p : Planned) (rows : List Row) (g : Grouping) : Type 0 where
  pub left : List Row
  pub came_so : ran_by p rows ≡ came left
  pub groups : GroupsOf (keys_of p) (aggregates_of p) (types_made p) alone left g

-- the stage of the first operator that overflows on a row, or of the summarize where a key or an argument does
abbrev pub FailsAt : Planned → Ran → ℕ → Type 0
FailsAt p (failed n) stage = stage ≡ stage_at (behind_source p.steps) n
FailsAt p (came left) stage = (keyed (keys_of p) (aggregates_of p) alone left ≡ Overflow) × (stage ≡ (last_of p.steps).stage)

abbrev pub OverflowsAt : Planned → List Row → ℕ → Type 0
OverflowsAt p rows = FailsAt p (ran_by p rows)

-- ---- rows

-- the rows of a summarize over those that are left, or an overflow where an operator, a key, an argument or a sum overflows
abbrev pub MadeBy : Planned → Ran → Computed (List Row) → Type 0
MadeBy p (came left) c = Summarized (keys_of p) (aggregates_of p) (columns_made p) alone left c
MadeBy p (failed n) c = c ≡ Overflow

-- what the body may give of rows
abbrev pub MadeOf : Planned → List Row → Computed (List Row) → Type 0
MadeOf p rows = MadeBy p (ran_by p rows)

-- the same of an answer, unless memory ran out
abbrev pub AnswersMade : Planned → List Row → Result (List Row) EvalFault → Type 0
AnswersMade p rows (Ok made) = MadeOf p rows (Is made)
AnswersMade p rows (Err fault.Overflow) = MadeOf p rows Overflow
AnswersMade p rows (Err fault.Memory) = Unit {0}
