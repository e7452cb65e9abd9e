use Rattle.std.proofs.Common.{◌≡◌, ap, sym, ◌∙◌}
use Rattle.kq_store_extent.specs.Seen.{ExtentView}
use Rattle.kq_store_extent.specs.Cells.{cells_at, cells_of}
use Rattle.kq_store_extent.proofs.Named.{rows-named}
use Rattle.kq_store_extent.proofs.extent.Extent.zone.Goals as goal

pub returns : goal.returns
returns c =
    let same : cells_at c.args.column c.args.self.now.records ≡ cells_of c.args.column c.self.inside.columns =
    ap (λ (e : ExtentView). cells_at c.args.column e.records) (sym c.self.view_is) ∙ ap (cells_of c.args.column) (rows-named c.self.inside.runs c.self.inside.columns c.self.invariant) in
    record { none = rw same c.zone.ensures.none; bounds = rw same c.zone.ensures.bounds }
