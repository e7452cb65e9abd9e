-- What rows come to that go through row operators.
use Rattle.std.specs.Prelude.{◌≡◌, ◌<◌, ◌^◌, ℕ, List, length, map}
use Rattle.std.specs.List.{All}
use Rattle.kq_run_scan.specs.Unread.{width_of}
use Rattle.kq_run_scan.specs.kq_eval_pieces.Operators.{Row}
use Rattle.kq_run_scan.specs.kq_eval_row.Val.{surroundings}
use Rattle.kq_store_rows.specs.Chunks.{HasWidth}
use Rattle.kq_run_row_operators.specs.Operators.{rowwise_of}
use Rattle.kq_run_row_operators.specs.Ran.{Ran, came, failed, ran, width_in_end}
use Rattle.kq_run_gather.specs.declared.collecting.Collected.{Collected}
use Rattle.kq_run_gather.specs.declared.collecting.Collected.TheVariants as collected
use Rattle.kq_run_gather.specs.declared.counting.Counted.{Counted}
use Rattle.kq_run_gather.specs.declared.counting.Counted.TheVariants as counted
use Rattle.kq_run_gather.specs.declared.pipeline.Pipeline.{Pipeline}

-- what its operators make of rows
abbrev pub ran_through : Pipeline → List Row → Ran
ran_through p rows = ran (map rowwise_of p.operators.now) (surroundings p.moment p.lets.now) rows

-- how many cells each of those has
abbrev pub width_through : Pipeline → List Row → ℕ
width_through p rows = width_in_end (map rowwise_of p.operators.now) (width_of rows)

-- the number of the rows that came, which a cell may hold, or that of the operator that failed
abbrev pub CountsTo : Ran → Counted → Type 0
CountsTo (came rows) (counted.Rows n) = (n ≡ length rows) × (n < 2 ^ 63)
CountsTo (came rows) (counted.Failed n) = ⊥
CountsTo (failed m) (counted.Rows n) = ⊥
CountsTo (failed m) (counted.Failed n) = n ≡ m

-- rows of so many cells each
abbrev pub AreWide : ℕ → Collected → Type 0
AreWide w (collected.Rows rows) = All (HasWidth w) rows
AreWide w (collected.Failed n) = Unit {0}

-- the rows that came, of so many cells each, or the number of the operator that failed
abbrev pub CollectsTo : ℕ → Ran → Collected → Type 0
CollectsTo w (came rows) (collected.Rows out) = (out ≡ rows) × All (HasWidth w) out
CollectsTo w (came rows) (collected.Failed n) = ⊥
CollectsTo w (failed m) (collected.Rows out) = ⊥
CollectsTo w (failed m) (collected.Failed n) = n ≡ m
