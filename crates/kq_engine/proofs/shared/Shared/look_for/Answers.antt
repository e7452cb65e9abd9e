use Rattle.std.proofs.Common.{◌≡◌, subst, rules}
use Rattle.kq_catalog_journal.specs.declared.limits.Limits.{Limits}
use Rattle.kq_catalog_journal.specs.Lawful.{AreLawful}
use Rattle.kq_catalog.specs.Grown.{numbers_of}
use Rattle.kq_catalog.specs.Seen.{hist}
use Rattle.kq_catalog.proofs.Grown.{same_limits}
use Rattle.kq_engine.proofs.Upholding.{there_later}
use Rattle.kq_engine.proofs.shared.Shared.look_for.Goals as goal

pub look-found-requires : goal.look-found-requires
look-found-requires g c = there_later c.pass.inside.pass.seen (hist c.take-catalog.result) c.args.upkeep c.take-catalog.ensures.seen (rw (← c.pass.view_is) at c.requires.there)

pub returns-clause-lawful : goal.returns-clause-lawful
returns-clause-lawful g c =
    let taken = c.take-catalog.result in
    let fixed : numbers_of taken.limits ≡ numbers_of c.args.self.now.limits = search rules in
    rw c.give.ensures.pass (subst (λ (l : Limits). AreLawful l (hist taken)) (same_limits _ _ fixed) c.place-pass-inside.ensures.sound.lawful)
