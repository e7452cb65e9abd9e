use Rattle.std.proofs.Common.{arith, add-one}
use Rattle.kq_value.specs.declared.value.Value.{Value}
use Rattle.kq_eval_row.specs.kq_value_conversions.Parts.{member_of}
use Rattle.kq_eval_row.specs.kq_value_string_functions.Texts.{pieces}
use Rattle.kq_store_column_view.specs.Vectors.{cells_of}
use Rattle.kq_eval_columns.proofs.SplitMembers.{one_cell_more}
use Rattle.kq_eval_columns.proofs.splits.pieces_by.Goals as goal

pub loop-i-preserved : goal.loop-i-preserved
loop-i-preserved c =
    rw (c.in_ok-push-in-Some.ensures.items, add-one)
    (one_cell_more (λ (x : Value). member_of (pieces x c.args.part.now) c.args.place.now) (cells_of c.args.texts.now) c.loop-i.members.items c.loop-i.i c.in-Some.text.now c.in_ok-piece_at-in-Some.field-0
    (omega arith) c.in-Some.ensures c.in_ok-piece_at-in-Some.ensures c.loop-i.invariant)
