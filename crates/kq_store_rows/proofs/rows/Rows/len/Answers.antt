use Rattle.std.proofs.Common.{sym, ap, ◌∙◌, length}
use Rattle.kq_store_rows.proofs.Chunked.{length-chunks}
use Rattle.kq_store_rows.proofs.rows.Rows.len.Goals as goal

pub returns-clause-count : goal.returns-clause-count
returns-clause-count c = let s = c.self.inside in sym (length-chunks s.count s.width s.cells.items) ∙ ap length c.self.view_is
