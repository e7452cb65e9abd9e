use Rattle.kq_store_column_view.specs.Bags.{bags_in}
use Rattle.kq_store_column_view.specs.Vectors.{cell_of}
use Rattle.kq_store_column_view.proofs.Picking.{gathered_mapped}
use Rattle.kq_store_column_view.proofs.pick.bags_at.Goals as goal

pub returns-in-Some : goal.returns-in-Some
returns-in-Some c =
    gathered_mapped (cell_of (bags_in c.args.bags.parts.now c.args.bags.count)) c.args.held.now c.in-Some.found.items c.args.places.now (rw c.in-Some.is at c.in_ok-found.ensures)
