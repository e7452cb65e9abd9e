use Rattle.kq_store_column.specs.Cells.{cells_present}
use Rattle.kq_store_column.proofs.Zoned.{AreBounds-are_bounds}
use Rattle.kq_store_column.proofs.zone.zone_of.Goals as goal

pub returns-in_ok-clone_in-in-Some-2 : goal.returns-in_ok-clone_in-in-Some-2
returns-in_ok-clone_in-in-Some-2 g c =
    rw (c.in_ok-clone_in-in-Some.ensures, c.in_ok-clone_in-in-Some-2.ensures)
    (AreBounds-are_bounds (cells_present (g.C.Cellwise.cells c.args.cells.now)) c.in-Some.least.now c.in-Some.greatest.now c.in-Some.ensures.bounds)
