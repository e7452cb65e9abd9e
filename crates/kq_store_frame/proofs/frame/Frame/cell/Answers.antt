use Rattle.std.proofs.Common.{◌≤◌, List, ap, length, map, rules, slice_get, sym, ◌∙◌, arith}
use Rattle.std.proofs.lemmas.List.{length-map}
use Rattle.kq_value.specs.declared.value.Value.{Value}
use Rattle.kq_store_rows.specs.Chunks.{row_at}
use Rattle.kq_store_frame.specs.Series.{cells_in}
use Rattle.kq_store_frame.proofs.Across.{cell_got, cell_got-past, column_got, length-rows_across, long_at}
use Rattle.kq_store_frame.proofs.frame.Frame.cell.Goals as goal

pub cell-requires : goal.cell-requires
cell-requires c =
    let s = c.self.inside in
    let n = sym (length-rows_across (map cells_in s.columns.items) s.count) ∙ ap length c.self.view_is in
    let long = long_at s.columns.items s.count c.args.column c.index.result.now c.self.invariant.long (search rules) c.index.ensures in
    omega (arith, n, long, c.requires)

pub returns-in_ok-cell : goal.returns-in_ok-cell
returns-in_ok-cell c =
    let s = c.self.inside in
    let columns = map cells_in s.columns.items in
    let n = sym (length-rows_across columns s.count) ∙ ap length c.self.view_is in
    let got = column_got s.columns.items c.args.column c.index.result.now (search rules) c.index.ensures in
    sym (ap (λ (rows : List (List Value)). slice_get (row_at rows c.args.index) c.args.column) (sym c.self.view_is)
    ∙ cell_got columns s.count c.args.index c.args.column (cells_in c.index.result.now) c.in_ok-cell.field-0 (omega (arith, n, c.requires)) got c.in_ok-cell.ensures)

pub returns-else-column-len : goal.returns-else-column-len
returns-else-column-len c =
    let s = c.self.inside in
    let columns = map cells_in s.columns.items in
    let n = sym (length-rows_across columns s.count) ∙ ap length c.self.view_is in
    let short : length s.columns.items ≤ c.args.column = search rules in
    let past : length columns ≤ c.args.column = omega (arith, short, length-map s.columns.items cells_in) in
    sym (ap (λ (rows : List (List Value)). slice_get (row_at rows c.args.index) c.args.column) (sym c.self.view_is)
    ∙ cell_got-past columns s.count c.args.index c.args.column (omega (arith, n, c.requires)) past)
