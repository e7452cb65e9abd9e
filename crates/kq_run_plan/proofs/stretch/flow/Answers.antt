use Rattle.std.proofs.Common.{◌≡◌, ◌∙◌, ℤ, ap, map, refl, rules, subst, w64, to_z, of_z}
use Rattle.std.proofs.lemmas.Int.{to_z-of_z}
use Rattle.kq_plan.specs.Plans.{Stepping, stepping_of}
use Rattle.kq_run_gather.specs.kq_eval_row.Val.{surroundings}
use Rattle.kq_run_gather.specs.kq_run_row_operators.Operators.{rowwise_of}
use Rattle.kq_run_gather.specs.kq_run_row_operators.Ran.{ran}
use Rattle.kq_run_plan.specs.declared.outcome.Outcome.TheVariants as outcome
use Rattle.kq_run_gather.proofs.Stepped.{last_step}
use Rattle.kq_run_gather.specs.Steps.{operators_of}
use Rattle.kq_run_plan.specs.Stretches.{ComesTo, HasFields}
use Rattle.kq_run_plan.proofs.Stretched.{comes_failed, comes_gave, ends_so, failed_within}
use Rattle.kq_run_plan.proofs.stretch.flow.Goals as goal

pub close-requires-clause-columns : goal.close-requires-clause-columns
close-requires-clause-columns g c =
    subst (λ (s : Stepping). HasFields s.doing s.columns) (last_step c.args.stretch.now c.index-stretch-stretch.result c.requires.some c.index-stretch-stretch.is) c.requires.columns

pub returns-in-Gave : goal.returns-in-Gave
returns-in-Gave g c =
    let stretch = c.args.stretch.now in
    let lets = c.args.lets.now in
    let rows = c.args.rows.now in
    let last = c.index-stretch-stretch.result in
    let again = to_z w64 (of_z w64 c.args.now) in
    let same : to_z w64 (of_z w64 c.args.now) ≡ c.args.now = search (rules, to_z-of_z) in
    let ends = ends_so stretch last (surroundings again lets) c.args.ordered rows (map rowwise_of c.as_slice.result.now) (ran (map rowwise_of c.as_slice.result.now) (surroundings again lets) rows) c.keeps_order.result c.in_ok-ended.ended refl (ap (map rowwise_of) c.as_slice.ensures.value ∙ c.in_ok-operators.ensures) c.keeps_order.ensures c.in_ok-ended.ensures in
    let comes = comes_gave stretch last (surroundings again lets) c.args.ordered rows c.requires.some c.index-stretch-stretch.is c.in_ok-ended.ended c.in-Gave.outcome ends c.in-Gave.is in
    subst (λ (z : ℤ). ComesTo (map stepping_of stretch) (surroundings z lets) c.args.ordered (ran (operators_of (map stepping_of stretch)) (surroundings z lets) rows) c.in-Gave.outcome) same comes

pub stage_in-requires : goal.stage_in-requires
stage_in-requires g c =
    let stretch = c.args.stretch.now in
    let lets = c.args.lets.now in
    let rows = c.args.rows.now in
    let last = c.index-stretch-stretch.result in
    let again = to_z w64 (of_z w64 c.args.now) in
    let ends = ends_so stretch last (surroundings again lets) c.args.ordered rows (map rowwise_of c.as_slice.result.now) (ran (map rowwise_of c.as_slice.result.now) (surroundings again lets) rows) c.keeps_order.result c.in_ok-ended.ended refl (ap (map rowwise_of) c.as_slice.ensures.value ∙ c.in_ok-operators.ensures) c.keeps_order.ensures c.in_ok-ended.ensures in
    failed_within stretch last (surroundings again lets) c.args.ordered rows c.in_ok-ended.ended c.in-Failed.n ends c.in-Failed.is

pub returns : goal.returns
returns g c =
    let stretch = c.args.stretch.now in
    let lets = c.args.lets.now in
    let rows = c.args.rows.now in
    let last = c.index-stretch-stretch.result in
    let again = to_z w64 (of_z w64 c.args.now) in
    let same : to_z w64 (of_z w64 c.args.now) ≡ c.args.now = search (rules, to_z-of_z) in
    let ends = ends_so stretch last (surroundings again lets) c.args.ordered rows (map rowwise_of c.as_slice.result.now) (ran (map rowwise_of c.as_slice.result.now) (surroundings again lets) rows) c.keeps_order.result c.in_ok-ended.ended refl (ap (map rowwise_of) c.as_slice.ensures.value ∙ c.in_ok-operators.ensures) c.keeps_order.ensures c.in_ok-ended.ensures in
    let comes = comes_failed stretch last (surroundings again lets) c.args.ordered rows c.in_ok-ended.ended c.in-Failed.n c.stage_in.result ends c.in-Failed.is c.stage_in.ensures in
    subst (λ (z : ℤ). ComesTo (map stepping_of stretch) (surroundings z lets) c.args.ordered (ran (operators_of (map stepping_of stretch)) (surroundings z lets) rows) (outcome.Overflow c.stage_in.result)) same comes
