use Rattle.std.proofs.Common.{◌-◌, map, ◌∙◌, arith}
use Rattle.kq_store_column_view.specs.Vectors.{cell_of}
use Rattle.kq_store_column.proofs.Bagged.{cells_between}
use Rattle.kq_store_column.proofs.bags.Bags.lend.Goals as goal

pub returns : goal.returns
returns c =
    (λ t. map (cell_of (c.lent-bags.ensures t)) (c.in_ok-places.ensures t)) ∙ cells_between c.args.self.now c.args.from (c.args.to - c.args.from) (omega (arith, c.requires.0, c.requires.1))
