use Rattle.std.proofs.Common.{◌≡◌, ◌-◌, List, Some, length, map, ap, sym, ◌∙◌, arith}
use Rattle.std.specs.List.{slice_get}
use Rattle.std.specs.Option.{option_copied}
use Rattle.std.proofs.lemmas.Option.{get_or_from_slice_get, slice_get_within}
use Rattle.kq_run_plan.proofs.kq_run_gather.Stepped.{last_step}
use Rattle.kq_run_plan.specs.kq_run_gather.Steps.{last_of}
use Rattle.kq_plan.specs.declared.plan.Step.{Step}
use Rattle.kq_plan.specs.Plans.{Stepping, stepping_of}
use Rattle.kq_engine_query.proofs.made.columns_made.Goals as goal

pub returns-in-Some : goal.returns-in-Some
returns-in-Some c =
    let steps = c.deref.result.now in
    let step = c.in-Some.step.now in
    let at : slice_get steps (length steps - 1) ≡ Some step = sym c.last.ensures.value ∙ ap option_copied c.in-Some.is in
    let within = slice_get_within steps (length steps - 1) step at in
    let last = last_step steps step (omega (arith, within)) (sym (get_or_from_slice_get steps (length steps - 1) step step at)) in
    c.as_slice.ensures.value ∙ ap (λ (s : Stepping). s.columns) (sym last) ∙ ap (λ (ss : List Step). (last_of (map stepping_of ss)).columns) c.deref.ensures.value
