use Rattle.std.proofs.Common.{List, ap, sym, ◌∙◌, subst}
use Rattle.kq_value.specs.declared.value.Value.{Value}
use Rattle.kq_store_extent.specs.Columns.{rows_across, AreWhole}
use Rattle.kq_store_extent.specs.Coming.{ComingRows}
use Rattle.kq_store_extent.proofs.columns_builder.ColumnsBuilder.finish.Goals as goal

pub from_parts-requires : goal.from_parts-requires
from_parts-requires c = subst (λ (cs : List (List Value)). AreWhole cs c.self.inside.count) (sym c.in_ok-columns.ensures) c.self.invariant

pub returns : goal.returns
returns c =
    c.from_parts.ensures ∙ ap (λ (cs : List (List Value)). rows_across cs c.self.inside.count) c.in_ok-columns.ensures ∙ ap (λ (b : ComingRows). b.rows) c.self.view_is
