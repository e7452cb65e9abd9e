use Rattle.std.proofs.Common.{◌≡◌, ℤ, Err, rules, subst, w64, to_z, of_z, Vec, Global}
use Rattle.std.proofs.lemmas.Int.{to_z-of_z}
use Rattle.kq_value.specs.declared.value.Value.{Value}
use Rattle.kq_value.specs.Computed.{AnswersAs, Is, each}
use Rattle.kq_plan_expressions.specs.Terms.{term_of}
use Rattle.kq_run_reshape.specs.MvExpand.{expanded}
use Rattle.kq_eval_pieces.specs.kq_eval_row.Val.{meaning, surroundings}
use Rattle.kq_run_row_operators.specs.Pieces.{rows_in}
use Rattle.kq_run_row_operators.proofs.Faults.{fault_first}
use Rattle.kq_run_row_operators.proofs.apply.mv_expand.Goals as goal

pub returns-in-Err : goal.returns-in-Err
returns-in-Err g c =
    let same : to_z w64 (of_z w64 c.args.now) ≡ c.args.now = search (rules, to_z-of_z) in
    let rows = rows_in g.R.Relation.rows c.args.piece in
    let f = λ (z : ℤ). meaning (term_of c.args.expr.now) (surroundings z c.args.lets.now) in
    let see = λ (v : Vec Value Global). v.items in
    let fault = c.in-Err.fault in
    let failed = subst (λ (z : ℤ). AnswersAs see (each (f z) rows) (Err fault)) same c.in-Err.ensures.values in
    fault_first see (each (f c.args.now) rows) (λ vs. Is (expanded c.args.at c.args.ty rows vs)) fault failed
