use Rattle.std.proofs.Common.{◌-◌, List, drop, length, map, take, ap, ◌∙◌}
use Rattle.kq_plan.specs.declared.plan.Step.{Step}
use Rattle.kq_plan.specs.Plans.{stepping_of}
use Rattle.kq_view_fold.proofs.Bodied.{behind_is}
use Rattle.kq_view_fold.proofs.body.behind_source.Goals as goal

pub returns : goal.returns
returns c = ap (λ (ss : List Step). map stepping_of (take (length ss - 1) (drop 1 ss))) c.as_slice.ensures.value ∙ behind_is c.args.body.now.steps.items
