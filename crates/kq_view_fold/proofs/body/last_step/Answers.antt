use Rattle.std.proofs.Common.{◌≡◌, ◌<◌, ◌-◌, ℕ, length, get_or, ap, sym, ◌∙◌, arith}
use Rattle.std.proofs.lemmas.List.{length-map}
use Rattle.kq_run_gather.proofs.Stepped.{last_step}
use Rattle.kq_plan.specs.Plans.{planned_of, stepping_of}
use Rattle.kq_view_fold.proofs.Bodied.{steps_many}
use Rattle.kq_view_fold.proofs.body.last_step.Goals as goal

pub returns : goal.returns
returns c =
    let steps = c.args.body.now.steps.items in
    let many = steps_many (planned_of c.args.body.now) c.requires in
    let long = length-map steps stepping_of in
    let some : 0 < length steps = omega (arith, many, long) in
    let len : c.len.result ≡ length steps = omega (arith, c.len.ensures) in
    sym (last_step steps c.index.result.now some (c.index.ensures ∙ ap (λ (n : ℕ). get_or steps (n - 1) c.index.result.now) len))
