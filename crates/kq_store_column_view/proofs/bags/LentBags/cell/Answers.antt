use Rattle.std.proofs.Common.{◌∙◌, arith}
use Rattle.kq_store_column_view.specs.Bags.{bags_in}
use Rattle.kq_store_column_view.proofs.Bagged.{bag_cell, length-bags_in}
use Rattle.kq_store_column_view.proofs.Masked.{cell_past}
use Rattle.kq_store_column_view.proofs.bags.LentBags.cell.Goals as goal

pub returns-in_ok-cell : goal.returns-in_ok-cell
returns-in_ok-cell c =
    let bags = c.args.self.now in
    c.in_ok-cell.ensures ∙ bag_cell bags.parts.now bags.count c.args.index c.if-index-self.true

pub returns-else-index-self : goal.returns-else-index-self
returns-else-index-self c =
    let bags = c.args.self.now in
    cell_past (bags_in bags.parts.now bags.count) c.args.index (omega (arith, length-bags_in bags.parts.now bags.count))
