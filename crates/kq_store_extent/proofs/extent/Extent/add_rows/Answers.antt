use Rattle.std.proofs.Common.{◌≡◌, ◌++◌, map, ap, sym, subst, ◌∙◌, List}
use Rattle.kq_value.specs.declared.value.Value.{Value}
use Rattle.kq_store_rows.specs.Chunks.{same_width}
use Rattle.kq_store_rows.specs.Widened.{widened}
use Rattle.kq_store_extent.specs.Seen.{ExtentView, row_of}
use Rattle.kq_store_extent.specs.Wide.{wide}
use Rattle.kq_store_extent.proofs.Named.{rows-named}
use Rattle.kq_store_extent.proofs.Wide.{wide-rows}
use Rattle.kq_store_extent.proofs.extent.Extent.add_rows.Goals as goal

pub add_rows-requires : goal.add_rows-requires
add_rows-requires c =
    let fields = c.args.fields.now in
    let rows : map row_of (wide fields c.args.self.now).records ≡ map (widened fields) c.self.inside.columns =
    wide-rows fields c.args.self.now ∙ ap (λ (e : ExtentView). map (widened fields) (map row_of e.records)) (sym c.self.view_is) ∙ ap (map (widened fields)) (rows-named c.self.inside.runs c.self.inside.columns c.self.invariant) in
    subst (λ (rs : List (List Value)). same_width (c.args.rows.now ++ rs)) rows c.requires

pub returns : goal.returns
returns c =
    let fields = c.args.fields.now in
    let rows : map row_of (wide fields c.args.self.now).records ≡ map (widened fields) c.self.inside.columns =
    wide-rows fields c.args.self.now ∙ ap (λ (e : ExtentView). map (widened fields) (map row_of e.records)) (sym c.self.view_is) ∙ ap (map (widened fields)) (rows-named c.self.inside.runs c.self.inside.columns c.self.invariant) in
    record { ok = rw rows c.add_rows.ensures.ok; err = c.add_rows.ensures.err }
