use Rattle.std.proofs.Common.{length, ap, sym, ◌∙◌}
use Rattle.kq_store_column_view.proofs.Bagged.{length-bags_in}
use Rattle.kq_store_column.proofs.bags.Bags.len.Goals as goal

pub returns-clause-count : goal.returns-clause-count
returns-clause-count c = sym (length-bags_in c.self.inside.parts.items c.self.inside.count) ∙ ap length c.self.view_is
