use Rattle.std.proofs.Common.{◌<◌, ◌++◌, ◌∷◌, [], List, length, ap, ◌∙◌, arith}
use Rattle.std.proofs.lemmas.List.{take_all}
use Rattle.kq_value.specs.declared.value.Value.{Value}
use Rattle.kq_store_column_view.specs.Vectors.{cells_of}
use Rattle.kq_store_column.proofs.Joined.{behind_more}
use Rattle.kq_store_column.proofs.shared.push_copies.Goals as goal

pub loop-i-preserved : goal.loop-i-preserved
loop-i-preserved c =
    let cells = cells_of c.args.part.now in
    let i = c.loop-i.i in
    let v = c.in_ok-cell.field-0 in
    let within : i < length cells = omega arith in
    c.in_ok-push.ensures.items ∙ (λ t. c.loop-i.invariant t ++ v ∷ []) ∙ behind_more c.args.cells.now.items cells i v within c.in_ok-cell.ensures

pub returns : goal.returns
returns c = c.loop-i.invariant ∙ ap (λ (vs : List Value). c.args.cells.now.items ++ vs) (take_all c.loop-i.i (cells_of c.args.part.now) (omega arith))
