use Rattle.std.proofs.Common.{◌≡◌, ◌<◌, ◌≤◌, List, Some, length, ap, sym, ◌∙◌, arith, slice_get, refl, rules}
use Rattle.std.proofs.lemmas.Option.{slice_get_read}
use Rattle.kq_value.specs.declared.value.Value.{Value}
use Rattle.kq_store_rows.specs.Chunks.{row_at}
use Rattle.kq_store_extent.proofs.Across.{cell_got, cell_got-past, length-rows_across}
use Rattle.kq_store_extent.proofs.columns.Columns.cell.Goals as goal

pub cell-requires : goal.cell-requires
cell-requires c =
    let s = c.self.inside in
    let n = sym (length-rows_across s.columns.items s.count) ∙ ap length c.self.view_is in
    let within : c.args.column < length s.columns.items = search rules in
    let long : length c.index.result.now ≡ s.count = ap length c.index.ensures ∙ c.self.invariant.long c.args.column c.index.result.now within in
    omega (arith, n, long, c.requires)

pub returns-in_ok-cell : goal.returns-in_ok-cell
returns-in_ok-cell c =
    let s = c.self.inside in
    let n = sym (length-rows_across s.columns.items s.count) ∙ ap length c.self.view_is in
    let within : c.args.column < length s.columns.items = search rules in
    let got : slice_get s.columns.items c.args.column ≡ Some c.index.result.now = slice_get_read s.columns.items (length s.columns.items) c.args.column c.index.result.now refl within c.index.ensures in
    let is : slice_get c.index.result.now c.args.index ≡ Some c.in_ok-cell.field-0 = c.in_ok-cell.ensures in
    sym (ap (λ (rows : List (List Value)). slice_get (row_at rows c.args.index) c.args.column) (sym c.self.view_is)
    ∙ cell_got s.columns.items s.count c.args.index c.args.column c.index.result.now c.in_ok-cell.field-0 (omega (arith, n, c.requires)) got is)

pub returns-else-column-len : goal.returns-else-column-len
returns-else-column-len c =
    let s = c.self.inside in
    let n = sym (length-rows_across s.columns.items s.count) ∙ ap length c.self.view_is in
    let past : length s.columns.items ≤ c.args.column = search rules in
    sym (ap (λ (rows : List (List Value)). slice_get (row_at rows c.args.index) c.args.column) (sym c.self.view_is)
    ∙ cell_got-past s.columns.items s.count c.args.index c.args.column (omega (arith, n, c.requires)) past)
