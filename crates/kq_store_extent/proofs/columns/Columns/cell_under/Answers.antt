use Rattle.std.proofs.Common.{◌≡◌, None, Option, Some, sym, subst, ap, ◌∙◌, slice_get}
use Rattle.std.specs.Option.{option_or}
use Rattle.std.specs.Result.{IfOk}
use Rattle.kq_value.specs.declared.value.Value.{Value}
use Rattle.kq_store_rows.specs.Chunks.{row_at}
use Rattle.kq_store_rows.specs.Widened.{missing_at, widened}
use Rattle.kq_store_rows.proofs.WidenedLemmas.{widened-cell}
use Rattle.kq_store_extent.proofs.columns.Columns.cell_under.Goals as goal

pub returns-in-Some : goal.returns-in-Some
returns-in-Some c =
    let fields = c.args.fields.now in
    let row = row_at c.args.self.now c.args.index in
    let j = c.args.column in
    let is : Some c.in-Some.cell ≡ slice_get row j = sym c.in-Some.is ∙ c.in_ok-cell.ensures in
    sym (widened-cell fields row j ∙ ap (λ (o : Option Value). option_or o (missing_at fields j)) (sym is))

pub returns-in-None : goal.returns-in-None
returns-in-None c =
    let fields = c.args.fields.now in
    let row = row_at c.args.self.now c.args.index in
    let j = c.args.column in
    let is : None ≡ slice_get row j = sym c.in-None.is ∙ c.in_ok-cell.ensures in
    let same : slice_get (widened fields row) j ≡ missing_at fields j = widened-cell fields row j ∙ ap (λ (o : Option Value). option_or o (missing_at fields j)) (sym is) in
    subst (λ (o : Option Value). IfOk c.missing_cell.result (λ cell. cell ≡ o)) (sym same) c.missing_cell.ensures
