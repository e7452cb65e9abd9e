use Rattle.std.proofs.Common.{◌≡◌, map, ap, sym, ◌∙◌}
use Rattle.kq_store_extent.specs.Seen.{ExtentView, id_of}
use Rattle.kq_store_extent.proofs.Named.{ids-named}
use Rattle.kq_store_extent.proofs.extent.Extent.add_ids.Goals as goal

pub returns : goal.returns
returns c =
    let ids : map id_of c.args.self.now.records ≡ c.self.inside.runs = ap (λ (e : ExtentView). map id_of e.records) (sym c.self.view_is) ∙ ids-named c.self.inside.runs c.self.inside.columns c.self.invariant in
    rw ids c.extend.ensures
