use Rattle.std.proofs.Common.{◌++◌, ◌∷◌, [], map, sym, ◌∙◌, arith}
use Rattle.std.specs.Arc.{arc_value}
use Rattle.std.proofs.lemmas.List.FromFn.{map-range_with_len_more}
use Rattle.kq_store_column.specs.Cells.{column_of}
use Rattle.kq_store_extent.specs.Seen.{records_in, row_of}
use Rattle.kq_store_extent.specs.Wide.{wide}
use Rattle.kq_store_extent.proofs.uniting.joined_columns.Goals as goal

pub loop-j-preserved : goal.loop-j-preserved
loop-j-preserved c =
    let rows = map row_of (records_in (map (wide c.args.fields.now) (map arc_value c.args.extents.now))) in
    c.in_ok-push.ensures.items ∙ (λ i. c.loop-j.invariant i ++ c.in_ok-joined_column.ensures i ∷ []) ∙ sym (map-range_with_len_more (λ j. column_of j rows) 0 c.loop-j.j c.loop-j.j (omega arith))
