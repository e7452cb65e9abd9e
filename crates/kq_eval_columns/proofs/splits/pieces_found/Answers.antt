use Rattle.std.proofs.Common.{◌≡◌, length, arith}
use Rattle.kq_store_column_view.specs.Vectors.{cells_of}
use Rattle.kq_eval_columns.proofs.Pairing.{two_of}
use Rattle.kq_eval_columns.proofs.SplitMembers.{found_by}
use Rattle.kq_eval_columns.proofs.splits.pieces_found.Goals as goal

pub returns-in-Some : goal.returns-in-Some
returns-in-Some c =
    let a = c.texts-item.result in
    let b = c.parts-item.result in
    let n = c.args.count in
    let both = two_of c.args.vectors.now a b (omega arith) (omega arith) c.texts-item.is c.parts-item.is in
    let h : length (cells_of a) ≡ n = omega arith in
    let k : length (cells_of b) ≡ n = omega arith in
    found_by a b c.args.vectors.now _ c.args.place.now n _ c.pieces_by.result both h k c.in-Some.ensures c.pieces_by.ensures
