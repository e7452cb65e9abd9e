use Rattle.std.proofs.Common.{List, subst}
use Rattle.kq_value.specs.declared.value.Value.{Value}
use Rattle.kq_store_column.specs.Bounds.{AreBounds}
use Rattle.kq_store_column.specs.Cells.{cells_present, IsAtMost}
use Rattle.kq_store_column.specs.Layouts.{cells_laid}
use Rattle.kq_store_column.proofs.Zoned.{zone_bounds}
use Rattle.kq_store_column.proofs.column.Column.zone.Goals as goal

pub returns-in-Some-clause-bounds : goal.returns-in-Some-clause-bounds
returns-in-Some-clause-bounds c =
    let s = c.self.inside in
    subst (λ (cells : List Value). AreBounds IsAtMost (cells_present cells) c.in-Some.least c.in-Some.greatest) c.self.view_is
    (zone_bounds (cells_laid s.layout) s.zone c.in-Some.least c.in-Some.greatest c.self.invariant c.in-Some.is)
