-- The first rows in an order, of those that come through row operators.
use Rattle.std.specs.Prelude.{◌≡◌, ℕ, min, List, ◌++◌, Result, Ok, Err}
use Rattle.std.specs.List.{All}
use Rattle.kq_value.specs.Computed.{Is, Overflow}
use Rattle.kq_value.specs.declared.fault.EvalFault.{EvalFault}
use Rattle.kq_value.specs.declared.fault.EvalFault.TheVariants as fault
use Rattle.kq_run_scan.specs.kq_eval_pieces.Operators.{Row}
use Rattle.kq_run_scan.specs.kq_eval_row.Val.{Surroundings, surroundings}
use Rattle.kq_run_sort.specs.Leading.{Lead}
use Rattle.kq_run_sort.specs.Orders.{Topped}
use Rattle.kq_run_sort.specs.declared.leaders.Leaders.{Leaders}
use Rattle.kq_plan.specs.Plans.{Sorting, sorting_of}
use Rattle.kq_store_rows.specs.Chunks.{HasWidth}
use Rattle.kq_run_row_operators.specs.Ran.{Ran, came, failed}
use Rattle.kq_run_gather.specs.Pipelines.{ran_through, width_through}
use Rattle.kq_run_gather.specs.declared.leading.Leading.{Leading}
use Rattle.kq_run_gather.specs.declared.leading.Leading.TheVariants as leading
use Rattle.kq_run_gather.specs.declared.leading.Top.{Top}

-- rows of so many cells each
abbrev pub HaveWidth : ℕ → Leading → Type 0
HaveWidth w (leading.Rows rows) = All (HasWidth w) rows
HaveWidth w leading.Overflow = Unit {0}
HaveWidth w (leading.Failed n) = Unit {0}

-- the first of the rows that came, of so many cells each, or an overflow of the key on one of them; or else the number of the operator that failed
abbrev pub LeadsTo : ℕ → ℕ → Sorting → Surroundings → Ran → Leading → Type 0
LeadsTo w n k s (came rows) (leading.Rows first) = Topped n k s rows (Is first) × All (HasWidth w) first
LeadsTo w n k s (came rows) leading.Overflow = Topped n k s rows Overflow
LeadsTo w n k s (came rows) (leading.Failed l) = ⊥
LeadsTo w n k s (failed m) (leading.Rows first) = ⊥
LeadsTo w n k s (failed m) leading.Overflow = ⊥
LeadsTo w n k s (failed m) (leading.Failed l) = l ≡ m

-- the same of what is asked
abbrev pub LeadsAs : Top → ℕ → Ran → Leading → Type 0
LeadsAs t w = LeadsTo w t.count (sorting_of t.key.now) (surroundings t.pipeline.moment t.pipeline.lets.now)

-- what some of the rows come to
abbrev pub TopsOf : Top → List Row → List Row → Leading → Type 0
TopsOf t whole rows = LeadsAs t (width_through t.pipeline whole) (ran_through t.pipeline rows)

-- the first of these rows, or an overflow of the key on one of them
abbrev pub AreFirst : ℕ → Sorting → Surroundings → List Row → Leading → Type 0
AreFirst n k s rows (leading.Rows first) = Topped n k s rows (Is first)
AreFirst n k s rows leading.Overflow = Topped n k s rows Overflow
AreFirst n k s rows (leading.Failed m) = ⊥

-- the least number of an operator that failed, or an overflow, or the first of both
abbrev pub LeadTogether : Top → Leading → Leading → Leading → Type 0
LeadTogether t (leading.Rows a) (leading.Rows b) c = AreFirst t.count (sorting_of t.key.now) (surroundings t.pipeline.moment t.pipeline.lets.now) (a ++ b) c
LeadTogether t (leading.Rows a) leading.Overflow c = c ≡ leading.Overflow
LeadTogether t (leading.Rows a) (leading.Failed m) c = c ≡ leading.Failed m
LeadTogether t leading.Overflow (leading.Rows b) c = c ≡ leading.Overflow
LeadTogether t leading.Overflow leading.Overflow c = c ≡ leading.Overflow
LeadTogether t leading.Overflow (leading.Failed m) c = c ≡ leading.Failed m
LeadTogether t (leading.Failed n) (leading.Rows b) c = c ≡ leading.Failed n
LeadTogether t (leading.Failed n) leading.Overflow c = c ≡ leading.Failed n
LeadTogether t (leading.Failed n) (leading.Failed m) c = c ≡ leading.Failed (min n m)

-- an overflow before these: an operator that failed on one of them goes first
abbrev pub lost_before : Ran → Leading
lost_before (came rows) = leading.Overflow
lost_before (failed n) = leading.Failed n

-- rows that came are taken in, or the key overflows on one of all that came so far
abbrev pub Advance : ℕ → Sorting → Surroundings → List Row → Leaders → Leaders → Result (Unit {0}) EvalFault → Type 0
Advance n k s rows old new (Ok done) = (all : List Row) → Lead n k s all old → Lead n k s (all ++ rows) new
Advance n k s rows old new (Err fault.Overflow) = (all more : List Row) → Lead n k s all old → Topped n k s (all ++ (rows ++ more)) Overflow
Advance n k s rows old new (Err fault.Memory) = Unit {0}
