use Rattle.std.proofs.Common.{option_map}
use Rattle.kq_store_column_view.specs.Vectors.{dynamic_of}
use Rattle.kq_store_column_view.proofs.Picking.{gathered_mapped}
use Rattle.kq_store_column_view.proofs.pick.parts_among.Goals as goal

pub returns-in-Some : goal.returns-in-Some
returns-in-Some c =
    gathered_mapped (λ o. dynamic_of (option_map (λ d. d.now) o)) c.args.parts.now c.in-Some.found.items c.args.places.now (rw c.in-Some.is at c.in_ok-found.ensures)
