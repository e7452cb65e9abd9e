use Rattle.std.proofs.Common.{◌≡◌, length, map, ap, sym, ◌∙◌, arith}
use Rattle.kq_store_extent.specs.Seen.{ExtentView, id_of}
use Rattle.kq_store_extent.proofs.Named.{ids-named, length-named}
use Rattle.kq_store_extent.proofs.extent.Extent.id_of.Goals as goal

pub id_of-requires : goal.id_of-requires
id_of-requires c =
    let n = length-named c.self.inside.runs c.self.inside.columns c.self.invariant ∙ ap (λ (e : ExtentView). length e.records) c.self.view_is in
    omega (arith, n, c.requires, c.self.invariant)

pub returns : goal.returns
returns c =
    let ids : map id_of c.args.self.now.records ≡ c.self.inside.runs = ap (λ (e : ExtentView). map id_of e.records) (sym c.self.view_is) ∙ ids-named c.self.inside.runs c.self.inside.columns c.self.invariant in
    rw ids c.id_of.ensures
