use Rattle.std.proofs.Common.{length, ap, sym, ◌∙◌}
use Rattle.kq_store_extent.specs.Coming.{ComingRows, cells_grown}
use Rattle.kq_store_extent.proofs.Across.{length-rows_across}
use Rattle.kq_store_extent.proofs.columns_builder.ColumnsBuilder.len.Goals as goal

pub returns-clause-count : goal.returns-clause-count
returns-clause-count c = sym (length-rows_across (cells_grown c.self.inside.builders.items) c.self.inside.count) ∙ ap (λ (b : ComingRows). length b.rows) c.self.view_is
