use Rattle.std.proofs.Common.{◌≡◌, ◌<◌, ◌∷◌, ◌++◌, [], List, Option, ap, get_or, length, map, subst, sym, unwrap_or, ◌∙◌, arith}
use Rattle.std.proofs.lemmas.List.{map_more, take_all}
use Rattle.std.proofs.lemmas.Simd.{map-map}
use Rattle.kq_value.specs.declared.ty.Ty.TheVariants as ty
use Rattle.kq_value.specs.declared.value.Value.{Value}
use Rattle.kq_value.specs.declared.value.Value.TheVariants.{Null}
use Rattle.kq_store_rows.specs.Chunks.{row_at}
use Rattle.kq_store_column_view.specs.Vectors.{cell_of}
use Rattle.kq_store_frame.specs.Series.{cells_in}
use Rattle.kq_store_frame.specs.declared.series.Series.{Series}
use Rattle.kq_store_frame.proofs.Across.{length-rows_across, long_at, row_is}
use Rattle.kq_store_frame.proofs.frame.Frame.fill.Goals as goal

pub cell-requires : goal.cell-requires
cell-requires c =
    let s = c.self.inside in
    let i = c.loop-column.column-index in
    let x = c.column-item.result in
    let n = sym (length-rows_across (map cells_in s.columns.items) s.count) ∙ ap length c.self.view_is in
    let within : i < length s.columns.items = subst (λ (cs : List Series). i < length cs) c.deref-column-items.ensures.value c.loop-column-test.true in
    let is : x ≡ get_or s.columns.items i x = c.column-item.is ∙ ap (λ (cs : List Series). get_or cs i x) c.deref-column-items.ensures.value in
    omega (arith, n, long_at s.columns.items s.count i x c.self.invariant.long within is, c.requires.place)

pub loop-column-preserved : goal.loop-column-preserved
loop-column-preserved c =
    let columns = c.deref-column-items.result.now in
    let i = c.loop-column.column-index in
    let x = c.column-item.result in
    let f = λ (col : Series). cell_of (cells_in col) c.args.index in
    let cell = sym (ap (λ (o : Option Value). unwrap_or o (Null ty.Long)) c.in_ok-cell.ensures) in
    c.in_ok-push.ensures.items ∙ (λ k. c.loop-column.invariant k ++ (cell ∙ ap f c.column-item.is) k ∷ []) ∙ sym (map_more f columns i x c.loop-column-test.true)

pub returns : goal.returns
returns c =
    let s = c.self.inside in
    let i = c.args.index in
    let columns = map cells_in s.columns.items in
    let f = λ (col : Series). cell_of (cells_in col) i in
    let n = sym (length-rows_across columns s.count) ∙ ap length c.self.view_is in
    let all = take_all c.loop-column.column-index c.deref-column-items.result.now (omega (arith, c.loop-column-test.false)) ∙ c.deref-column-items.ensures.value in
    c.loop-column.invariant ∙ ap (map f) all ∙ sym (map-map (λ (cs : List Value). cell_of cs i) cells_in s.columns.items) ∙ sym (row_is columns s.count i (omega (arith, n, c.requires.place)))
    ∙ ap (λ (rows : List (List Value)). row_at rows i) c.self.view_is
