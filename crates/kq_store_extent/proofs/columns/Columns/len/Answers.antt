use Rattle.std.proofs.Common.{length, ap, sym, ◌∙◌}
use Rattle.kq_store_extent.proofs.Across.{length-rows_across}
use Rattle.kq_store_extent.proofs.columns.Columns.len.Goals as goal

pub returns-clause-count : goal.returns-clause-count
returns-clause-count c = sym (length-rows_across c.self.inside.columns.items c.self.inside.count) ∙ ap length c.self.view_is
