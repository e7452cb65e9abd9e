use Rattle.std.proofs.Common.{◌≡◌, ◌<◌, List, length, map, ap, sym, ◌∙◌, arith}
use Rattle.std.proofs.lemmas.List.{length-map}
use Rattle.kq_value.specs.declared.value.Value.{Value}
use Rattle.kq_store_rows.specs.Chunks.{row_at}
use Rattle.kq_store_rows.specs.Widened.{widened}
use Rattle.kq_store_extent.specs.Seen.{ExtentView, row_of}
use Rattle.kq_store_extent.specs.Wide.{wide}
use Rattle.kq_store_extent.proofs.Named.{rows-named}
use Rattle.kq_store_extent.proofs.Wide.{wide-row_at, wide-rows}
use Rattle.kq_store_extent.proofs.extent.Extent.cell_under.Goals as goal

pub cell_under-requires : goal.cell_under-requires
cell_under-requires c =
    let rows : map row_of c.args.self.now.records ≡ c.self.inside.columns = ap (λ (e : ExtentView). map row_of e.records) (sym c.self.view_is) ∙ rows-named c.self.inside.runs c.self.inside.columns c.self.invariant in
    let many : length (map row_of c.args.self.now.records) ≡ length c.self.inside.columns = ap length rows in
    let same = length-map c.args.self.now.records row_of in
    omega (arith, many, same, c.requires)

pub returns : goal.returns
returns c =
    let fields = c.args.fields.now in
    let own = map row_of c.args.self.now.records in
    let rows : own ≡ c.self.inside.columns = ap (λ (e : ExtentView). map row_of e.records) (sym c.self.view_is) ∙ rows-named c.self.inside.runs c.self.inside.columns c.self.invariant in
    let same = length-map c.args.self.now.records row_of in
    let within : c.args.index < length own = omega (arith, same, c.requires) in
    let row : row_at (map row_of (wide fields c.args.self.now).records) c.args.index ≡ widened fields (row_at c.self.inside.columns c.args.index) =
    ap (λ (rs : List (List Value)). row_at rs c.args.index) (wide-rows fields c.args.self.now) ∙ wide-row_at fields own c.args.index within ∙ ap (λ (rs : List (List Value)). widened fields (row_at rs c.args.index)) rows in
    rw row c.cell_under.ensures
