use Rattle.std.proofs.Common.{◌≡◌, ℤ, ap, sym, ◌∙◌, subst, rules, w64, to_z, of_z, Vec, Global}
use Rattle.std.proofs.lemmas.Int.{to_z-of_z}
use Rattle.kq_value.specs.declared.value.Value.{Value}
use Rattle.kq_value.specs.Computed.{AnswersAs, Is, each}
use Rattle.kq_plan_expressions.specs.Terms.{Term, term_of}
use Rattle.kq_eval_columns.specs.kq_eval_row.Val.{meaning, surroundings}
use Rattle.kq_eval_pieces.proofs.Mapped.{column_whole}
use Rattle.kq_eval_pieces.proofs.values.values_over.Goals as goal

pub returns-in_ok-cells_in-in-Some-clause-values : goal.returns-in_ok-cells_in-in-Some-clause-values
returns-in_ok-cells_in-in-Some-clause-values g c =
    let s = surroundings c.args.now c.args.lets.now in
    let rows = g.R.Relation.rows c.args.relation.now in
    ap (λ (t : Term). each (meaning t s) rows) c.in-Some.ensures ∙ column_whole s c.in-Some.j rows c.len.result c.len.ensures.count ∙ ap Is (sym c.in_ok-cells_in-in-Some.ensures)

pub returns-in-None-clause-values : goal.returns-in-None-clause-values
returns-in-None-clause-values g c =
    let same : to_z w64 (of_z w64 c.args.now) ≡ c.args.now = search (rules, to_z-of_z) in
    let see = λ (v : Vec Value Global). v.items in
    subst (λ (z : ℤ). AnswersAs see (each (meaning (term_of c.args.expr.now) (surroundings z c.args.lets.now)) (g.R.Relation.rows c.args.relation.now)) c.values_by_pieces.result) same c.values_by_pieces.ensures.values
