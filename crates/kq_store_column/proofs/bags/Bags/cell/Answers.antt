use Rattle.std.proofs.Common.{List, ap, ◌∙◌}
use Rattle.kq_value.specs.declared.value.Value.{Value}
use Rattle.kq_store_column_view.specs.Vectors.{cell_of}
use Rattle.kq_store_column.proofs.Bagged.{cell_read}
use Rattle.kq_store_column.proofs.bags.Bags.cell.Goals as goal

pub returns : goal.returns
returns c = cell_read c.args.self.now c.args.index c.in_ok-cell.cell c.requires (c.in_ok-cell.ensures ∙ ap (λ (cs : List Value). cell_of cs c.args.index) c.lent-bags.ensures)
