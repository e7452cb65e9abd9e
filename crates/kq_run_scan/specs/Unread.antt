-- Rows that are read in parts, from sources one after another.
use Rattle.std.specs.Prelude.{◌≡◌, ◌<◌, ◌++◌, ℕ, suc, List, [], ◌∷◌, length, drop, get_or}
use Rattle.std.specs.List.{All, flat_map}
use Rattle.kq_run_row_operators.specs.kq_eval_pieces.Operators.{Row}
use Rattle.kq_store_rows.specs.Chunks.{HasWidth}

-- the rows that are left, and how many cells each of all rows has
pub record UnreadView : Type 0 where
  pub rows : List Row
  pub width : ℕ

-- these rows have been read
pub record IsRead (old : UnreadView) (part : List Row) (new : UnreadView) : Type 0 where
  pub rows : old.rows ≡ part ++ new.rows
  pub some : 0 < length part
  pub wide : All (HasWidth old.width) part
  pub width : new.width ≡ old.width

-- the width of all rows that are of one width
abbrev pub width_of : List Row → ℕ
width_of [] = 0
width_of (r ∷ rows) = length r

-- the rows of sources, one source after another
abbrev pub rows_among : List (List Row) → List Row
rows_among = flat_map (λ (rows : List Row). rows)

-- the rows from one of a source on
abbrev pub rows_from : List (List Row) → ℕ → ℕ → List Row
rows_from sources source row = drop row (get_or sources source []) ++ rows_among (drop (suc source) sources)

-- these rows begin with this one of this source
pub record BeginsAt (sources : List (List Row)) (i j : ℕ) (all : List Row) : Type 0 where
  pub source : i < length sources
  pub row : j < length (get_or sources i [])
  pub rows : all ≡ rows_from sources i j
