use Rattle.std.proofs.Common.{◌≡◌, ◌<◌, ◌≤◌, [], length, ap, refl, sym, ◌∙◌, rules}
use Rattle.std.proofs.lemmas.Option.{slice_get_read}
use Rattle.kq_store_column.specs.Cells.{cells_present}
use Rattle.kq_store_extent.specs.Cells.{cells_of}
use Rattle.kq_store_extent.proofs.Across.{cells_across, cells_across-past}
use Rattle.kq_store_extent.proofs.columns.Columns.zone.Goals as goal

pub returns-then-column-len : goal.returns-then-column-len
returns-then-column-len c =
    let s = c.self.inside in
    let columns = s.columns.items in
    let j = c.args.column in
    let cells = c.index.result.now in
    let within : j < length columns = search rules in
    let long : length cells ≡ s.count = ap length c.index.ensures ∙ c.self.invariant.long j cells within in
    let same : cells_of j c.args.self.now ≡ cells_present cells =
    ap (cells_of j) (sym c.self.view_is) ∙ cells_across columns s.count j cells (slice_get_read columns (length columns) j cells refl within c.index.ensures) long in
    record { none = rw same c.zone.ensures.none; bounds = rw same c.zone.ensures.bounds }

pub returns-else-column-len-clause-none : goal.returns-else-column-len-clause-none
returns-else-column-len-clause-none c =
    let s = c.self.inside in
    let past : length s.columns.items ≤ c.args.column = search rules in
    let none : cells_of c.args.column c.args.self.now ≡ [] = ap (cells_of c.args.column) (sym c.self.view_is) ∙ cells_across-past s.columns.items s.count c.args.column past in
    rw none (search rules)
