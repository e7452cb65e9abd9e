use Rattle.std.proofs.Common.{◌<◌, ◌++◌, ◌∷◌, [], List, ap, length, sym, ◌∙◌, arith}
use Rattle.std.proofs.lemmas.List.{map_more, take_all}
use Rattle.kq_value.specs.declared.value.Value.{Value}
use Rattle.kq_store_column_view.specs.Vectors.{cell_of}
use Rattle.kq_store_frame.specs.Frames.{column_in}
use Rattle.kq_store_frame.proofs.columns.cells_at.Goals as goal

pub loop-index-preserved : goal.loop-index-preserved
loop-index-preserved c =
    let rows = c.args.rows.now in
    let i = c.loop-index.index in
    let within : i < length rows = omega (arith, c.loop-index-test.true, c.len-index-end.ensures.count) in
    c.in_ok-push.ensures.items ∙ (λ t. c.loop-index.invariant t ++ c.in_ok-cell_at.ensures t ∷ [])
    ∙ sym (map_more (λ (r : List Value). cell_of r c.args.column) rows i [] within)

pub returns : goal.returns
returns c =
    c.loop-index.invariant
    ∙ ap (λ (rs : List (List Value)). column_in rs c.args.column) (take_all c.loop-index.index c.args.rows.now (omega (arith, c.loop-index-test.false, c.len-index-end.ensures.count)))
