use Rattle.std.proofs.Common.{◌++◌, ◌∷◌, [], sym, ap, ◌∙◌, length, arith}
use Rattle.std.proofs.lemmas.List.FromFn.{map-range_with_len_more}
use Rattle.kq_store_column.specs.Cells.{column_of}
use Rattle.kq_store_extent.proofs.Across.{wide, typed_column}
use Rattle.kq_store_extent.proofs.columns.columns_of.Goals as goal

pub build-requires-clause-wide : goal.build-requires-clause-wide
build-requires-clause-wide c = wide c.args.schema.now c.args.rows.now c.loop-j.j c.requires (let e = ap length c.as_slice-fields.ensures in omega arith)

pub build-requires-clause-typed : goal.build-requires-clause-typed
build-requires-clause-typed c =
    rw c.as_slice-fields.ensures (typed_column c.args.schema.now c.args.rows.now c.loop-j.j c.index-fields-j.result c.requires (let e = ap length c.as_slice-fields.ensures in omega arith))

pub loop-j-preserved : goal.loop-j-preserved
loop-j-preserved c =
    c.in_ok-push.ensures.items ∙ (λ i. c.loop-j.invariant i ++ c.in_ok-column.ensures i ∷ []) ∙ sym (map-range_with_len_more (λ j. column_of j c.args.rows.now) 0 c.loop-j.j c.loop-j.j (omega arith))
