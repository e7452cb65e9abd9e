use Rattle.std.proofs.Common.{◌≡◌, ◌<◌, map, take, Some}
use Rattle.std.specs.List.{All, slice_get}
use Rattle.kq_eval_pieces.proofs.words.codes_at.Given as goal

abbrev pub invariant-loop-place : goal.invariant-loop-place
invariant-loop-place l = (map Some l.found.items ≡ map (slice_get l.codes) (take l.place-index l.places)) × All (λ c. c < l.count) l.found.items
