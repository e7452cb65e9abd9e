use Rattle.std.proofs.Common.{◌∙◌, ap}
use Rattle.kq_engine_show.specs.Cells.{number_or_null}
use Rattle.kq_engine_show.proofs.Bounds.{greatest-bounds, least-bounds}
use Rattle.kq_engine_show.proofs.extents.cursor_cells.Goals as goal

pub returns-in-Some-clause-least : goal.returns-in-Some-clause-least
returns-in-Some-clause-least c = c.number_cell.ensures ∙ ap number_or_null (least-bounds _ _ _ c.in-Some.ensures.bounds)

pub returns-in-Some-clause-greatest : goal.returns-in-Some-clause-greatest
returns-in-Some-clause-greatest c = c.number_cell-in-Some.ensures ∙ ap number_or_null (greatest-bounds _ _ _ c.in-Some.ensures.bounds)
