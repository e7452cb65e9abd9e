use Rattle.std.proofs.Common.{◌≡◌, map, take}
use Rattle.kq_eval_row.specs.kq_value_conversions.Parts.{member_of}
use Rattle.kq_eval_row.specs.kq_value_string_functions.Texts.{pieces}
use Rattle.kq_store_column_view.specs.Vectors.{cells_of}
use Rattle.kq_eval_columns.proofs.splits.pieces_by.Given as goal

abbrev pub invariant-loop-i : goal.invariant-loop-i
invariant-loop-i l = l.members.items ≡ map (λ x. member_of (pieces x l.part) l.place) (take l.i (cells_of l.texts))
