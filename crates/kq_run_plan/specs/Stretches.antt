-- Stretches: steps in a row that take rows of one another, of which no others take any, and what comes of them as a whole.
use Rattle.std.specs.Prelude.{◌≡◌, ◌≢◌, ◌<◌, ◌≤◌, ◌+◌, ◌-◌, ℕ, ℤ, zero, suc, Bool, true, false, List, [], ◌∷◌, ◌++◌, Contains, Option, Some, None, get_or, length, map, slice_get}
use Rattle.kq_run_gather.specs.Steps.{HasColumns, flows_from, is_rowwise, last_of, operators_of, stage_at}
use Rattle.kq_plan.specs.Fits.{FitAfter}
use Rattle.kq_plan.specs.Names.{Known}
use Rattle.kq_plan.specs.declared.plan.Step.{Step}
use Rattle.kq_plan.specs.Plans.{Doing, Filling, Planned, Stepping, stepping_of, written, kept, mapped, cut, counted, sorted, topped, apart, summarized, joined, united, expanded}
use Rattle.kq_run_gather.specs.kq_eval_row.Val.{Surroundings}
use Rattle.kq_run_gather.specs.kq_run_row_operators.Ran.{Ran, came, failed, ran}
use Rattle.kq_value.specs.declared.schema.Field.{Field}
use Rattle.kq_run_plan.specs.declared.outcome.Outcome.{Outcome}
use Rattle.kq_run_plan.specs.declared.outcome.Outcome.TheVariants as outcome
use Rattle.kq_run_plan.specs.Gives.{Follows, TopsTo, World}
use Rattle.kq_run_plan.specs.Grouping.{GroupsTo}
use Rattle.kq_run_plan.specs.Operators.{tally}
use Rattle.kq_run_plan.specs.Outcomes.{Row}
use Rattle.kq_run_plan.specs.Reshaped.{DiffersTo}
use Rattle.kq_run_plan.specs.Typed.{Stood, TypedWorld}

-- ---- which rows are shared

abbrev pub arm_read : Filling → ℕ
arm_read a = a.0

-- the numbers of the steps whose rows it takes
abbrev pub reads : Doing → List ℕ
reads (kept i e) = i ∷ []
reads (mapped i es) = i ∷ []
reads (cut i n) = i ∷ []
reads (counted i) = i ∷ []
reads (sorted i ks) = i ∷ []
reads (topped i n k) = i ∷ []
reads (apart i cs) = i ∷ []
reads (summarized i es gs) = i ∷ []
reads (joined kind i j on) = i ∷ j ∷ []
reads (united arms) = map arm_read arms
reads (expanded i e c t) = i ∷ []
reads d = []

-- a plan of these steps
abbrev pub planned_by : List Step → ℕ → Planned
planned_by steps output = record { steps = map stepping_of steps; output = output }

-- none but the step right behind that of this number takes its rows, and they are not the answer
pub record IsUnshared (p : Planned) (i : ℕ) : Type 0 where
  pub next : (k : ℕ) (s : Stepping) → slice_get p.steps k ≡ Some s → Contains (reads s.doing) i → k ≡ i + 1
  pub no_answer : p.output ≢ i

-- a mark for each step, and the rows of those that are marked are unshared
pub record AreUnshared (p : Planned) (marks : List Bool) : Type 0 where
  pub long : length marks ≡ length p.steps
  pub each : (i : ℕ) → get_or marks i false ≡ true → IsUnshared p i

-- of the marks at most those are left that aren't at this number
pub record Cleared (i : ℕ) (old new : List Bool) : Type 0 where
  pub long : length new ≡ length old
  pub each : (j : ℕ) → get_or new j false ≡ true → (get_or old j false ≡ true) × (j ≢ i)

-- which marks may be left when a step at this place takes the rows of these
pub record Shares (place : ℕ) (is : List ℕ) (old new : List Bool) : Type 0 where
  pub long : length new ≡ length old
  pub each : (j : ℕ) → get_or new j false ≡ true → (get_or old j false ≡ true) × (Contains is j → place ≡ j + 1)

-- ---- stretches

-- the number of the step whose rows may flow into it
abbrev pub flows_into : Doing → Option ℕ
flows_into (topped i n k) = Some i
flows_into (apart i is) = Some i
flows_into d = flows_from d

-- all but the last make their rows of one row at a time, and these flow into the next; the first has this number
abbrev pub Linked : ℕ → List Stepping → Type 0
Linked n [] = ⊥
Linked n (s ∷ []) = Unit {0}
Linked n (s ∷ t ∷ ss) = (is_rowwise s.doing ≡ true) × (flows_into t.doing ≡ Some n) × Linked (suc n) (t ∷ ss)

-- different rows have a column for each that they are chosen from
abbrev pub HasFields : Doing → List Field → Type 0
HasFields (apart i is) cs = length cs ≡ length is
HasFields d cs = HasColumns d cs

-- the rows of the step of this number flow into the next, and are unshared
pub record FlowsOn (ss : List Stepping) (marks : List Bool) (m : ℕ) : Type 0 where
  pub linked : (s t : Stepping) → slice_get ss m ≡ Some s → slice_get ss (m + 1) ≡ Some t → (is_rowwise s.doing ≡ true) × (flows_into t.doing ≡ Some m)
  pub unshared : get_or marks m false ≡ true

-- steps from one number up to another that run as one
pub record IsStretch (ss : List Stepping) (marks : List Bool) (at end : ℕ) : Type 0 where
  pub some : at < end
  pub within : end ≤ length ss
  pub goes_on : (m : ℕ) → at ≤ m → m + 1 < end → FlowsOn ss marks m

-- steps that fit such names, behind steps that gave what fits them
pub record AreNext (known : List ℕ → Option Known) (w : World) (before : List Stepping) (done : List Outcome) (ss : List Stepping) : Type 0 where
  pub typed : TypedWorld known w
  pub stood : Stood before done
  pub fits : FitAfter known before ss

-- ---- what comes of a stretch

-- an expansion's rows are in no order
abbrev pub order_by : Doing → Bool → Bool
order_by (expanded i e c t) ordered = false
order_by d ordered = ordered

abbrev pub order_after : List Stepping → Bool → Bool
order_after [] ordered = ordered
order_after (s ∷ ss) ordered = order_after ss (order_by s.doing ordered)

-- what the last step makes of all rows that came to it: the row-wise ones have made them already
abbrev pub Closes : Doing → ℕ → List Field → Surroundings → Bool → List Row → Outcome → Type 0
Closes (counted i) stage cs s ordered rows o = o ≡ outcome.Table false (tally rows)
Closes (topped i n k) stage cs s ordered rows o = TopsTo n k s rows stage o
Closes (apart i is) stage cs s ordered rows o = DiffersTo is rows o
Closes (summarized i es gs) stage cs s ordered rows o = GroupsTo es gs cs s rows stage o
Closes d stage cs s ordered rows o = o ≡ outcome.Table ordered rows

-- an end of the rows that came, or an overflow at the stage of the step that failed
abbrev pub EndsIn : (List Row → Outcome → Type 0) → (ℕ → ℕ) → Ran → Outcome → Type 0
EndsIn these stages (came rows) o = these rows o
EndsIn these stages (failed n) o = o ≡ outcome.Overflow (stages n)

abbrev pub ClosesWith : Stepping → Surroundings → Bool → List Row → Outcome → Type 0
ClosesWith s around ordered = Closes s.doing s.stage s.columns around ordered

-- what a stretch comes to, where its row-wise steps ran so
abbrev pub ComesTo : List Stepping → Surroundings → Bool → Ran → Outcome → Type 0
ComesTo ss around ordered = EndsIn (ClosesWith (last_of ss) around (order_after ss ordered)) (stage_at ss)

-- what a stretch makes of rows, in an order or in none, or the overflow of one of its steps
abbrev pub MakesOf : List Stepping → Surroundings → Bool → List Row → Outcome → Type 0
MakesOf ss around ordered rows = ComesTo ss around ordered (ran (operators_of ss) around rows)

-- what steps come to at their end, behind others that gave these outcomes: what the last of them gives, or the first fault
abbrev pub FollowsToEnd : World → ℤ → List Step → List Outcome → List Step → Outcome → Type 0
FollowsToEnd w now before done steps = Follows w now (map stepping_of before) done (map stepping_of steps) (length done + (length steps - 1))
