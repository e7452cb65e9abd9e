use Rattle.std.proofs.Common.{◌≡◌, ◌<◌, ◌++◌, ◌∷◌, [], List, ap, length, map, sym, ◌∙◌, arith}
use Rattle.std.proofs.lemmas.List.{map-append}
use Rattle.std.proofs.lemmas.List.Elements.{All-weaker}
use Rattle.std.proofs.lemmas.List.FromFn.{map-range_with_len_more}
use Rattle.kq_store_rows.specs.Chunks.{HasWidth}
use Rattle.kq_value.specs.declared.value.Value.{Value}
use Rattle.kq_store_frame.specs.Frames.{column_in, columns_in}
use Rattle.kq_store_frame.specs.Series.{cells_in}
use Rattle.kq_store_frame.specs.declared.series.Series.TheVariants as series
use Rattle.kq_store_frame.proofs.columns.columns_of.Goals as goal

pub cells_at-requires : goal.cells_at-requires
cells_at-requires c =
    let j = c.loop-column.column in
    let w = c.args.width in
    let within : j < w = omega (arith, c.loop-column-test.true) in
    All-weaker (HasWidth w) (λ (r : List Value). j < length r) (λ r is. omega (arith, is, within)) c.args.rows.now c.requires

pub loop-column-preserved : goal.loop-column-preserved
loop-column-preserved c =
    let rows = c.args.rows.now in
    let j = c.loop-column.column in
    let x = series.Cells c.in_ok-cells.cells in
    ap (map cells_in) c.in_ok-push.ensures.items ∙ map-append cells_in c.loop-column.columns.items (x ∷ [])
    ∙ (λ t. c.loop-column.invariant t ++ c.in_ok-cells.ensures t ∷ []) ∙ sym (map-range_with_len_more (column_in rows) 0 j j (omega arith))

pub returns : goal.returns
returns c =
    let all : c.loop-column.column ≡ c.args.width = omega arith in
    c.loop-column.invariant ∙ ap (columns_in c.args.rows.now) all
