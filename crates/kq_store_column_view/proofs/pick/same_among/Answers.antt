use Rattle.kq_store_column_view.proofs.Picking.{same_cells}
use Rattle.kq_store_column_view.proofs.pick.same_among.Goals as goal

pub returns-in_ok-clone_in : goal.returns-in_ok-clone_in
returns-in_ok-clone_in c = rw c.in_ok-clone_in.ensures (same_cells c.args.value.now c.args.count c.args.places.now (c.are_below.ensures c.if-are_below.true))
