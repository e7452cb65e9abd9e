use Rattle.std.proofs.Common.{◌≡◌, ℤ, Err, map, rules, subst, sym, w64, to_z, of_z}
use Rattle.std.proofs.lemmas.Int.{to_z-of_z}
use Rattle.kq_value.specs.Computed.{Answers, AnswersAs, Is, and_then, each}
use Rattle.kq_plan_expressions.specs.Terms.{term_of}
use Rattle.kq_eval_pieces.specs.Operators.{values_at}
use Rattle.kq_run_reshape.specs.MvExpand.{expanded}
use Rattle.kq_eval_pieces.specs.kq_eval_row.Val.{meaning, surroundings}
use Rattle.kq_run_row_operators.specs.declared.operator.Operator.{Operator}
use Rattle.kq_run_row_operators.specs.Operators.{applied, rowwise_of}
use Rattle.kq_run_row_operators.specs.Pieces.{rows_in}
use Rattle.kq_run_row_operators.proofs.Faults.{fault_seen}
use Rattle.kq_run_row_operators.proofs.apply.apply.Goals as goal

pub returns-in-Make : goal.returns-in-Make
returns-in-Make g c =
    let same : to_z w64 (of_z w64 c.args.now) ≡ c.args.now = search (rules, to_z-of_z) in
    let see = rows_in g.R.Relation.rows in
    let rows = rows_in g.R.Relation.rows c.args.piece in
    let f = λ (z : ℤ). values_at (map term_of c.in-Make.exprs.now) (surroundings z c.args.lets.now) in
    let fault = c.in-Err.fault in
    let failed = subst (λ (z : ℤ). Answers (each (f z) rows) (Err fault)) same c.in-Err.ensures in
    subst (λ (o : Operator). AnswersAs see (applied (rowwise_of o) (surroundings c.args.now c.args.lets.now) rows) (Err fault)) (sym c.in-Make.is) (fault_seen see (each (f c.args.now) rows) fault failed)

pub returns : goal.returns
returns g c =
    let same : to_z w64 (of_z w64 c.args.now) ≡ c.args.now = search (rules, to_z-of_z) in
    let see = rows_in g.R.Relation.rows in
    let rows = rows_in g.R.Relation.rows c.args.piece in
    let f = λ (z : ℤ). and_then (each (meaning (term_of c.in-MvExpand.expr.now) (surroundings z c.args.lets.now)) rows) (λ vs. Is (expanded c.in-MvExpand.at c.in-MvExpand.ty rows vs)) in
    let fault = c.in-Err-mv_expand.fault in
    let failed = subst (λ (z : ℤ). Answers (f z) (Err fault)) same c.in-Err-mv_expand.ensures in
    subst (λ (o : Operator). AnswersAs see (applied (rowwise_of o) (surroundings c.args.now c.args.lets.now) rows) (Err fault)) (sym c.in-MvExpand.is) (fault_seen see (f c.args.now) fault failed)
