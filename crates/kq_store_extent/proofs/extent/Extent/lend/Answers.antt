use Rattle.std.proofs.Common.{◌≡◌, length, map, ap, sym, ◌∙◌, arith}
use Rattle.std.proofs.lemmas.List.{length-map}
use Rattle.kq_store_rows.specs.Widened.{widened}
use Rattle.kq_store_extent.specs.Seen.{ExtentView, row_of}
use Rattle.kq_store_extent.specs.Wide.{wide}
use Rattle.kq_store_extent.proofs.Named.{rows-named}
use Rattle.kq_store_extent.proofs.Wide.{wide-rows}
use Rattle.kq_store_extent.proofs.extent.Extent.lend.Goals as goal

pub lend-requires : goal.lend-requires
lend-requires c =
    let rows : map row_of c.args.self.now.records ≡ c.self.inside.columns = ap (λ (e : ExtentView). map row_of e.records) (sym c.self.view_is) ∙ rows-named c.self.inside.runs c.self.inside.columns c.self.invariant in
    let many : length (map row_of c.args.self.now.records) ≡ length c.self.inside.columns = ap length rows in
    let same = length-map c.args.self.now.records row_of in
    (c.requires.0, omega (arith, many, same, c.requires.1))

pub returns : goal.returns
returns c =
    let fields = c.args.fields.now in
    let rows : map row_of (wide fields c.args.self.now).records ≡ map (widened fields) c.self.inside.columns =
    wide-rows fields c.args.self.now ∙ ap (λ (e : ExtentView). map (widened fields) (map row_of e.records)) (sym c.self.view_is) ∙ ap (map (widened fields)) (rows-named c.self.inside.runs c.self.inside.columns c.self.invariant) in
    rw rows c.lend.ensures
