use Rattle.std.proofs.Common.{◌≡◌, subst, IfOk, rules}
use Rattle.kq_catalog_journal.specs.declared.limits.Limits.{Limits}
use Rattle.kq_catalog_journal.specs.Lawful.{AreLawful}
use Rattle.kq_catalog.specs.Grown.{numbers_of}
use Rattle.kq_catalog.specs.Seen.{hist}
use Rattle.kq_catalog.proofs.Grown.{same_limits}
use Rattle.kq_engine.proofs.shared.Shared.snapshot.Goals as goal

pub returns-clause-limits : goal.returns-clause-limits
returns-clause-limits g c =
    let fixed : numbers_of c.take-catalog.result.limits ≡ numbers_of c.args.self.now.limits = search rules in
    subst (λ (l : Limits). IfOk c.snapshot-snapshot.result (λ s. s.limits ≡ l)) (same_limits _ _ fixed) c.snapshot-snapshot.ensures.limits

pub returns-clause-lawful : goal.returns-clause-lawful
returns-clause-lawful g c =
    let taken = c.take-catalog.result in
    let fixed : numbers_of taken.limits ≡ numbers_of c.args.self.now.limits = search rules in
    rw c.give.ensures.pass (subst (λ (l : Limits). AreLawful l (hist taken)) (same_limits _ _ fixed) c.place-pass-inside.ensures.sound.lawful)
