use Rattle.std.proofs.Common.{ap, length, map, sym, ◌∙◌}
use Rattle.kq_store_frame.specs.Series.{cells_in}
use Rattle.kq_store_frame.proofs.Across.{length-rows_across}
use Rattle.kq_store_frame.proofs.frame.Frame.len.Goals as goal

pub returns-clause-count : goal.returns-clause-count
returns-clause-count c = sym (length-rows_across (map cells_in c.self.inside.columns.items) c.self.inside.count) ∙ ap length c.self.view_is
