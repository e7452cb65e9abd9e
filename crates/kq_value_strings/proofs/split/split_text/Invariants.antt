use Rattle.std.proofs.Common.{◌≡◌, ℕ, List, ◌++◌, length, map}
use denote.Text.{Utf8}
use denote.Shadow.{shadow}
use Rattle.kq_value_formats.specs.kq_value.Tree.{items_of, string}
use Rattle.kq_value_formats.specs.Strings.{split}
use Rattle.kq_value_strings.proofs.split.split_text.Given as goal

abbrev pub invariant-loop-piece : goal.invariant-loop-piece
invariant-loop-piece l =
    shadow (Utf8 l.rest) × ((done : List (List ℕ)) × (items_of l.pieces ≡ map string done) × (split l.text l.part ≡ done ++ split l.rest l.part))

abbrev pub decreases-loop-piece : goal.decreases-loop-piece
decreases-loop-piece l = length l.rest
