-- Rows that come a piece at a time, counted or kept.
use Rattle.std.proofs.Common.{◌≡◌, ◌<◌, ◌+◌, ◌^◌, ◌++◌, ◌∙◌, ℕ, List, length, arith, sym, length-append}
use Rattle.std.specs.List.{All}
use Rattle.std.proofs.lemmas.List.Elements.{All-append}
use Rattle.kq_store_rows.specs.Chunks.{HasWidth, same_width}
use Rattle.kq_store_rows.proofs.Typed.{same_width-wide}
use Rattle.kq_run_scan.specs.Flowing.{Flowing}
use Rattle.kq_run_scan.specs.Sources.{source_rows}
use Rattle.kq_run_scan.specs.Yielded.{Yields}
use Rattle.kq_run_scan.specs.declared.flow.Next.{Next}
use Rattle.kq_run_scan.specs.declared.flow.Next.TheVariants as next
use Rattle.kq_run_scan.specs.declared.source.Source.{Source}
use Rattle.kq_run_scan.specs.kq_eval_pieces.Operators.{Row}
use Rattle.kq_run_row_operators.specs.Pieces.{rows_in}
use Rattle.kq_run_row_operators.specs.declared.piece.Piece.{Piece}
use Rattle.kq_run_row_operators.specs.Ran.{Ran, came, failed, joined}
use Rattle.kq_run_gather.specs.Pipelines.{AreWide, CollectsTo}
use Rattle.kq_run_gather.specs.declared.collecting.Collected.{Collected}
use Rattle.kq_run_gather.specs.declared.collecting.Collected.TheVariants as collected
use Rattle.kq_run_gather.proofs.Pieces.{piece_came}

-- ---- their number

-- so many have come
abbrev pub HaveCome : Ran → Ran → ℕ → Type 0
HaveCome whole left count = (rows : List Row) × (whole ≡ joined (came rows) left) × (count ≡ length rows) × (count < 2 ^ 63)

pub counted_more : (whole : Ran) (old new : Flowing) (n : Next) (piece : Piece Source) (count more sum : ℕ) → HaveCome whole old.to_come count → Yields old new n → n ≡ next.Piece piece → more ≡ length (rows_in source_rows piece)
    → sum ≡ count + more → sum < 2 ^ 63 → HaveCome whole new.to_come sum
counted_more whole old new n piece count more sum (rows, so_far, are, few) yields is long added small = (
  rows ++ rows_in source_rows piece,
  piece_came whole old new n piece rows so_far yields is,
  omega (arith, added, are, long) ∙ sym (length-append rows (rows_in source_rows piece)),
  small,
)

-- ---- the rows

-- these have come, of so many cells each
pub record AreKept (whole left : Ran) (w : ℕ) (rows : List Row) : Type 0 where
  pub so_far : whole ≡ joined (came rows) left
  pub wide : All (HasWidth w) rows

pub even : (w : ℕ) (xs ys : List Row) → All (HasWidth w) xs → All (HasWidth w) ys → same_width (xs ++ ys)
even w xs ys first rest = same_width-wide w (xs ++ ys) (All-append (HasWidth w) xs ys first rest)

pub are_wide : (w : ℕ) (r : Ran) (c : Collected) → CollectsTo w r c → AreWide w c
are_wide w (came rows) (collected.Rows out) p = p.1
are_wide w (failed n) (collected.Rows out) p = absurd p
are_wide w r (collected.Failed n) p = tt
