use Rattle.std.proofs.Common.{length, map, ap, refl, sym, ◌∙◌}
use Rattle.std.proofs.lemmas.List.{length-map}
use Rattle.kq_plan_expressions.specs.Terms.{term_of}
use Rattle.kq_run_gather.specs.Bodies.{alone}
use Rattle.kq_run_gather.specs.Steps.{operators_of}
use Rattle.kq_plan.specs.Plans.{aggregating_of, planned_of, stepping_of}
use Rattle.kq_run_gather.specs.kq_run_row_operators.Operators.{rowwise_of}
use Rattle.kq_run_gather.specs.kq_run_row_operators.Ran.{ran}
use Rattle.kq_view_fold.proofs.Folding.{arrives_so, columns_so}
use Rattle.kq_view_fold.proofs.group.arrived.Goals as goal

pub gather-requires-clause-asked : goal.gather-requires-clause-asked
gather-requires-clause-asked g c =
    let keys = c.keys_in.result.now in
    columns_so (planned_of c.args.body.now) (stepping_of c.last_step-last.result.now) c.last_step-last.ensures
    (map term_of keys) (map aggregating_of c.aggregates_in.result.now) c.as_slice-2.result.now c.keys_in.ensures c.aggregates_in.ensures c.as_slice-2.ensures.value
    c.requires.body (length keys) (sym (length-map keys term_of))

pub returns : goal.returns
returns g c =
    let os = map rowwise_of c.as_slice.result.now in
    arrives_so (planned_of c.args.body.now) (stepping_of c.last_step-last.result.now) c.last_step-last.ensures
    (map term_of c.keys_in.result.now) (map aggregating_of c.aggregates_in.result.now) c.as_slice-2.result.now c.keys_in.ensures c.aggregates_in.ensures c.as_slice-2.ensures.value
    os (ran os alone c.args.rows.now) c.args.rows.now c.gather.result
    (ap (map rowwise_of) c.as_slice.ensures.value ∙ c.in_ok-operators.ensures ∙ ap operators_of c.behind_source.ensures) refl c.gather.ensures
