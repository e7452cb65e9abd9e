use Rattle.std.proofs.Common.{◌≡◌, map, ap, sym, ◌∙◌}
use Rattle.kq_store_extent.specs.Seen.{ExtentView}
use Rattle.kq_store_extent.specs.Cells.{cursor_of, cursors_of}
use Rattle.kq_store_extent.proofs.Named.{ids-named, named-nil, nil-named}
use Rattle.kq_store_extent.proofs.extent.Extent.cursors.Goals as goal

pub returns : goal.returns
returns c =
    let s = c.self.inside in
    let records = ap (λ (e : ExtentView). e.records) (sym c.self.view_is) in
    let same : cursors_of c.args.self.now.records ≡ map cursor_of s.runs = ap cursors_of records ∙ ap (map cursor_of) (ids-named s.runs s.columns c.self.invariant) in
    record {
      none = (λ none. records ∙ nil-named s.runs s.columns (c.cursors.ensures.none.0 none), λ nil. c.cursors.ensures.none.1 (named-nil s.runs s.columns c.self.invariant (sym records ∙ nil)));
      bounds = rw same c.cursors.ensures.bounds;
    }
