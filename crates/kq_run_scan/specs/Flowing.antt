-- Rows as they come through row operators, a piece at a time.
use Rattle.std.specs.Prelude.{◌≡◌, ◌<◌, ℕ, List, length}
use Rattle.std.specs.List.{All}
use Rattle.kq_run_row_operators.specs.kq_eval_pieces.Operators.{Row}
use Rattle.kq_store_rows.specs.Chunks.{HasWidth}
use Rattle.kq_run_row_operators.specs.kq_eval_row.Val.{Surroundings}
use Rattle.kq_run_row_operators.specs.Operators.{Rowwise}
use Rattle.kq_run_row_operators.specs.Ran.{Ran, came, failed, joined, ran, width_in_end}
use Rattle.kq_run_scan.specs.Unread.{UnreadView}

-- what is still to come, from how many rows, and how many cells each row that comes has
pub record Flowing : Type 0 where
  pub to_come : Ran
  pub left : ℕ
  pub width : ℕ

-- what comes through operators of rows that are yet to be read
abbrev pub flowing : List Rowwise → Surroundings → UnreadView → Flowing
flowing os s unread = record { to_come = ran os s unread.rows; left = length unread.rows; width = width_in_end os unread.width }

-- where the operator of a number fails on an earlier row, this is the least number of one that fails on that row or on these
abbrev pub IsLeastToFail : ℕ → List Rowwise → Surroundings → List Row → ℕ → Type 0
IsLeastToFail first os s rows n = joined (failed first) (ran os s rows) ≡ failed n

-- these rows have come
pub record Flows (old : Flowing) (rows : List Row) (new : Flowing) : Type 0 where
  pub to_come : old.to_come ≡ joined (came rows) new.to_come
  pub fewer : new.left < old.left
  pub wide : All (HasWidth old.width) rows
  pub width : new.width ≡ old.width
