use Rattle.kq_eval_row.specs.Val.{cell_of}
use Rattle.kq_store_column_view.specs.Bags.{bags_in}
use Rattle.kq_store_column_view.specs.Vectors.{member_at}
use Rattle.kq_eval_columns.proofs.OneValue.{map-twice}
use Rattle.kq_eval_columns.proofs.members.members_at.Goals as goal

pub returns-in-Placed : goal.returns-in-Placed
returns-in-Placed c = rw (c.in-Placed.is, ← c.deref.ensures.value, map-twice (member_at c.args.key.now) (cell_of c.in-Placed.cells.now) c.deref.result.now) c.parts_at.ensures

pub returns-in-Bags : goal.returns-in-Bags
returns-in-Bags c =
    let bags = c.in-Bags.bags in
    rw (c.in-Bags.is, ← c.deref-in-Bags.ensures.value, map-twice (member_at c.args.key.now) (cell_of (bags_in bags.parts.now bags.count)) c.deref-in-Bags.result.now) c.members_of_bags.ensures
