use Rattle.std.proofs.Common.{◌∙◌, ap, rules, sym}
use Rattle.kq_catalog.specs.Seen.{hist}
use Rattle.kq_catalog.proofs.Grown.{same_limits}
use Rattle.kq_engine.specs.Shared.{PassView}
use Rattle.kq_engine.proofs.Counting.{commits_counted, is_commit_event}
use Rattle.kq_engine.proofs.shared.Shared.close.Goals as goal

pub returns-clause-limits : goal.returns-clause-limits
returns-clause-limits c = same_limits _ _ (search rules)

pub returns-clause-made : goal.returns-clause-made
returns-clause-made c =
    commits_counted (hist c.close.result) ∙ c.close.ensures.added is_commit_event ∙ sym (commits_counted c.pass.inside.pass.added)
    ∙ ap (λ (p : PassView). p.made) c.pass.view_is
