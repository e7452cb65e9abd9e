use Rattle.std.proofs.Common.{◌≡◌, take, map}
use Rattle.std.specs.Prelude.{option_map}
use Rattle.kq_store_column_view.specs.Vectors.{cell_of, dynamic_of, member_at}
use Rattle.kq_store_column_view.proofs.parts.parts_at.Given as goal

abbrev pub invariant-loop-place : goal.invariant-loop-place
invariant-loop-place l = map (λ o. dynamic_of (option_map (λ d. d.now) o)) l.parts.items ≡ map (λ i. member_at l.key (cell_of l.cells i)) (take l.place-index l.places)
