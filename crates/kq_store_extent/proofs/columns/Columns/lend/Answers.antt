use Rattle.std.proofs.Common.{◌≡◌, ◌<◌, ◌≤◌, ◌-◌, Some, length, refl, sym, ap, ◌∙◌, arith, slice_get, rules}
use Rattle.std.proofs.lemmas.Option.{slice_get_read}
use Rattle.kq_store_extent.proofs.Across.{length-rows_across}
use Rattle.kq_store_extent.proofs.Lent.{lent_across, missing_across}
use Rattle.kq_store_extent.proofs.columns.Columns.lend.Goals as goal

pub lend-requires : goal.lend-requires
lend-requires c =
    let s = c.self.inside in
    let n = sym (length-rows_across s.columns.items s.count) ∙ ap length c.self.view_is in
    let within : c.args.column < length s.columns.items = search rules in
    let long : length c.index.result.now ≡ s.count = ap length c.index.ensures ∙ c.self.invariant.long c.args.column c.index.result.now within in
    (c.requires.0, omega (arith, n, long, c.requires.1))

pub returns-in_ok-cells : goal.returns-in_ok-cells
returns-in_ok-cells c =
    let s = c.self.inside in
    let within : c.args.column < length s.columns.items = search rules in
    let cells = c.index.result.now in
    let long : length cells ≡ s.count = ap length c.index.ensures ∙ c.self.invariant.long c.args.column cells within in
    let got : slice_get s.columns.items c.args.column ≡ Some cells = slice_get_read s.columns.items (length s.columns.items) c.args.column cells refl within c.index.ensures in
    let same = lent_across c.args.fields.now s.columns.items c.args.self.now s.count c.args.column (c.args.to - c.args.from) c.args.from cells got long c.self.view_is in
    c.in_ok-cells.ensures ∙ same

pub returns-in_ok-cell : goal.returns-in_ok-cell
returns-in_ok-cell c =
    let s = c.self.inside in
    let n = sym (length-rows_across s.columns.items s.count) ∙ ap length c.self.view_is in
    let past : length s.columns.items ≤ c.args.column = search rules in
    missing_across c.args.fields.now s.columns.items c.args.self.now s.count c.args.column (c.args.to - c.args.from) c.args.from c.in_ok-cell.cell past c.in_ok-cell.ensures c.self.view_is
    (omega (arith, n, c.requires.0, c.requires.1))
