use Rattle.std.proofs.Common.{◌≡◌, take, map, Some}
use Rattle.std.specs.Prelude.{slice_get}
use Rattle.kq_store_column_view.proofs.pick.items_at.Given as goal

abbrev pub invariant-loop-place : goal.invariant-loop-place
invariant-loop-place g l = map Some l.found.items ≡ map (slice_get l.items) (take l.place-index l.places)
