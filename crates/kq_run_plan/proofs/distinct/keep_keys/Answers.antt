use Rattle.std.proofs.Common.{◌≡◌, ◌+◌, ◌∙◌, ℤ, IfOk, ap, arith, length, map, rules, subst, sym, w64, to_z, of_z}
use Rattle.std.proofs.lemmas.Int.{to_z-of_z}
use Rattle.std.proofs.lemmas.List.{length-map}
use Rattle.kq_plan_expressions.specs.Terms.{column, term_of}
use Rattle.kq_run_gather.specs.kq_eval_row.Val.{surroundings}
use Rattle.kq_run_gather.specs.kq_run_row_operators.Operators.{rowwise_of}
use Rattle.kq_run_gather.specs.kq_run_row_operators.Ran.{ran}
use Rattle.kq_run_plan.specs.Ended.{EndsAs}
use Rattle.kq_run_plan.specs.Reshaped.{DiffersTo}
use Rattle.kq_run_plan.proofs.Different.{different_if}
use Rattle.kq_run_plan.proofs.distinct.keep_keys.Goals as goal

pub group_all-requires-clause-asked : goal.group_all-requires-clause-asked
group_all-requires-clause-asked g c =
    let keys = c.as_slice.result.now in
    let are : map term_of keys ≡ map column c.args.columns.now = ap (map term_of) c.as_slice.ensures.value ∙ c.in_ok-keys.ensures in
    let many : length c.args.columns.now ≡ length keys = sym (length-map c.args.columns.now column) ∙ ap length (sym are) ∙ length-map keys term_of in
    let none : length keys ≡ length keys + 0 = omega arith in
    c.requires.fields ∙ many ∙ none

pub returns : goal.returns
returns g c =
    let p = c.args.pipeline.now in
    let is = c.args.columns.now in
    let again = to_z w64 (of_z w64 p.moment) in
    let same : again ≡ p.moment = search (rules, to_z-of_z) in
    let keys : map term_of c.as_slice.result.now ≡ map column is = ap (map term_of) c.as_slice.ensures.value ∙ c.in_ok-keys.ensures in
    subst (λ (z : ℤ). IfOk c.group_all.result (EndsAs (DiffersTo is) (ran (map rowwise_of p.operators.now) (surroundings z p.lets.now) c.args.rows.now))) same
    (different_if is _ _ _ _ _ c.group_all.result c.requires.some keys c.group_all.ensures)
