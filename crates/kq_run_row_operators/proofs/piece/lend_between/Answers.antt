use Rattle.std.proofs.Common.{◌≡◌, ◌≤◌, List, IfOk, IfSome, subst, sym, arith}
use Rattle.kq_eval_pieces.specs.Operators.{Row}
use Rattle.kq_eval_pieces.specs.Pieces.{column_of}
use Rattle.kq_store_column_view.specs.Vectors.{cells_of}
use Rattle.kq_run_row_operators.proofs.Places.{piece_again}
use Rattle.kq_run_row_operators.proofs.piece.lend_between.Goals as goal

pub returns-then-from-to : goal.returns-then-from-to
returns-then-from-to g c =
    let rows = g.R.Relation.rows c.args.relation.now in
    let low : c.args.from ≤ c.args.to = omega arith in
    let again = piece_again rows c.args.start c.args.end c.args.from c.args.to low c.requires.1 in
    subst (λ (rs : List Row). IfOk c.lend.result (λ o. IfSome o (λ v. cells_of v ≡ column_of c.args.j rs))) (sym again) c.lend.ensures
