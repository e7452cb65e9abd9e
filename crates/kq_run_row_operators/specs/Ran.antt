-- Row operators one after another.
use Rattle.std.specs.Prelude.{ℕ, suc, min, List, [], ◌∷◌, ◌++◌, Option, Some, None}
use Rattle.kq_value.specs.Computed.{Computed, Is, Overflow}
use Rattle.kq_eval_pieces.specs.Operators.{Row}
use Rattle.kq_eval_pieces.specs.kq_eval_row.Val.{Surroundings}
use Rattle.kq_run_row_operators.specs.Operators.{Rowwise, applied, width_after}

-- the rows that came, or the number of the operator that overflowed first, from 0
pub data Ran : Type 0 where
  came : List Row → Ran
  failed : ℕ → Ran

-- a failure's number is one more behind one more operator
abbrev pub later : Ran → Ran
later (came rows) = came rows
later (failed n) = failed (suc n)

abbrev pub staged : Computed (List Row) → (List Row → Ran) → Ran
staged (Is rows) others = later (others rows)
staged Overflow others = failed 0

-- the operators in order, each over all that the one before it gave
abbrev pub ran : List Rowwise → Surroundings → List Row → Ran
ran [] s rows = came rows
ran (o ∷ os) s rows = staged (applied o s rows) (ran os s)

-- of rows in two parts: what came of both, or the least number that failed
abbrev pub joined : Ran → Ran → Ran
joined (came rows) (came others) = came (rows ++ others)
joined (came rows) (failed n) = failed n
joined (failed n) (came others) = failed n
joined (failed n) (failed m) = failed (min n m)

abbrev pub failure_of : Ran → Option ℕ
failure_of (came rows) = None
failure_of (failed n) = Some n

-- how many cells the rows have in the end
abbrev pub width_in_end : List Rowwise → ℕ → ℕ
width_in_end [] w = w
width_in_end (o ∷ os) w = width_in_end os (width_after o w)
