use Rattle.std.proofs.Common.{◌≡◌, ◌∙◌, length, subst, sym, rules}
use Rattle.kq_catalog_journal.specs.declared.limits.Limits.{Limits}
use Rattle.kq_catalog_journal.specs.History.{log}
use Rattle.kq_catalog_journal.specs.Lawful.{AreLawful}
use Rattle.kq_catalog.specs.Grown.{numbers_of}
use Rattle.kq_catalog.specs.Seen.{hist}
use Rattle.kq_catalog.proofs.Grown.{same_limits}
use Rattle.kq_engine_prepare.specs.Fits.{event_by}
use Rattle.kq_engine.specs.Upkeeps.{IsChore, IsThere}
use Rattle.kq_engine.proofs.Upholding.{FinishesUpkeep-step, chore_found, seen_chore}
use Rattle.kq_engine.proofs.shared.Shared.finish_upkeep.Goals as goal

pub put_upkeep-outcome-requires : goal.put_upkeep-outcome-requires
put_upkeep-outcome-requires g c =
    let seen = c.pass.inside.pass.seen in
    let old = hist c.take-catalog.result in
    let there : IsThere (log seen) c.args.upkeep = rw (← c.pass.view_is) at c.requires.there in
    let is : IsChore seen c.args.upkeep c.args.found = rw (← c.pass.view_is) at c.requires.chore in
    chore_found old c.args.upkeep (length seen) c.args.found (seen_chore seen old c.args.upkeep c.args.found c.take-catalog.ensures.seen there is)

pub give-requires-clause-begins : goal.give-requires-clause-begins
give-requires-clause-begins g c =
    let seen = c.pass.inside.pass.seen in
    let old = hist c.take-catalog.result in
    let there : IsThere (log seen) c.args.upkeep = rw (← c.pass.view_is) at c.requires.there in
    let is : IsChore seen c.args.upkeep c.args.found = rw (← c.pass.view_is) at c.requires.chore in
    let up = c.put_upkeep-outcome.ensures.puts c.args.upkeep (length seen) (seen_chore seen old c.args.upkeep c.args.found c.take-catalog.ensures.seen there is) in
    rw c.take-catalog.ensures.pass (event_by c.args.by up.made, sym up.appended)

pub returns : goal.returns
returns g c =
    let limits = c.args.self.now.limits in
    let pass = c.pass.inside.pass in
    let seen = pass.seen in
    let taken = c.take-catalog.result in
    let put = c.put_upkeep-outcome.new.catalog in
    let there : IsThere (log seen) c.args.upkeep = rw (← c.pass.view_is) at c.requires.there in
    let is : IsChore seen c.args.upkeep c.args.found = rw (← c.pass.view_is) at c.requires.chore in
    let up = c.put_upkeep-outcome.ensures.puts c.args.upkeep (length seen) (seen_chore seen (hist taken) c.args.upkeep c.args.found c.take-catalog.ensures.seen there is) in
    let fixed : numbers_of taken.limits ≡ numbers_of limits = search rules in
    let lawful = subst (λ (l : Limits). AreLawful l (hist put)) (c.put_upkeep-outcome.ensures.limits ∙ same_limits _ _ fixed) c.place-pass-inside.ensures.sound.lawful in
    rw (← c.pass.view_is, c.give.ensures.pass, c.take-catalog.ensures.pass)
    (FinishesUpkeep-step limits pass.of seen (hist taken) (hist put) pass.added pass.worth pass.taken c.args.by c.args.upkeep c.put_upkeep-outcome.result c.take-catalog.ensures.seen lawful up)
