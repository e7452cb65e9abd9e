use Rattle.std.proofs.Common.{◌≡◌, ◌+◌, ◌≤◌, length}
use denote.Text.{Utf8}
use denote.Shadow.{shadow}
use Rattle.kq_value_formats.specs.Strings.{split}
use Rattle.kq_value_strings.proofs.split.count_pieces.Given as goal

abbrev pub invariant-loop-piece : goal.invariant-loop-piece
invariant-loop-piece l =
    shadow (Utf8 l.rest) × (length (split l.text l.part) + 1 ≡ l.count + length (split l.rest l.part)) × (l.count + length l.rest ≤ length l.text + 1)

abbrev pub decreases-loop-piece : goal.decreases-loop-piece
decreases-loop-piece l = length l.rest
