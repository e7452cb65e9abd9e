use Rattle.std.proofs.Common.{◌∙◌, ◌+◌, ap}
use Rattle.kq_catalog_journal.specs.History.{cursor}
use Rattle.kq_engine.specs.Shared.{PassView}
use Rattle.kq_engine.proofs.Counting.{cursor-append}
use Rattle.kq_engine.proofs.shared.Shared.join.Goals as goal

pub returns-clause-made : goal.returns-clause-made
returns-clause-made c =
    let first = ap (λ (p : PassView). p.made) c.first.view_is in
    let second = ap (λ (p : PassView). p.made) c.second.view_is in
    ap cursor c.join.ensures.added ∙ cursor-append c.first.inside.pass.added c.second.inside.pass.added ∙ (λ i. first i + second i)
