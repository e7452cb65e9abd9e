use Rattle.std.proofs.Common.{refl}
use Rattle.std.proofs.lemmas.List.{map-set}
use Rattle.kq_store_shared_lists.proofs.piece.handles_with.Goals as goal

pub returns : goal.returns
returns g c = rw (map-set, c.in_ok-all.ensures) refl
