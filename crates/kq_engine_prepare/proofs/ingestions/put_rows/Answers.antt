use Rattle.std.proofs.Common.{◌≡◌, None, refl, ap, ◌∙◌, rules}
use Rattle.kq_catalog_journal.specs.declared.batch.Batch.{Batch}
use Rattle.kq_catalog_journal.specs.declared.event.Commit.TheVariants as commits
use Rattle.kq_catalog_journal.specs.History.{NumberedTable, log}
use Rattle.kq_catalog_journal.specs.Tagged.{least_tagged}
use Rattle.kq_policy_run.specs.Quiet.{looked}
use Rattle.kq_engine_prepare.specs.declared.found.Barring.{Barring}
use Rattle.kq_engine_prepare.specs.Due.{Due, IsBatchDue, counted}
use Rattle.kq_engine_prepare.proofs.Keeping.{Finds-weaker, Offers-kept, made_due, untagged_due}
use Rattle.kq_engine_prepare.proofs.ingestions.put_rows.Goals as goal

pub returns-in_ok-looked-in-Ok-clause-due : goal.returns-in_ok-looked-in-Ok-clause-due
returns-in_ok-looked-in-Ok-clause-due c =
    let limits = c.args.snapshot.now.limits in
    let l = log c.args.snapshot.now.history in
    let own : Batch = record { table = c.args.number; rows = c.args.rows; tags = c.args.labels.tags } in
    let d = c.in-Ok.derived in
    let none : least_tagged l c.args.number c.args.labels.barring ≡ None = search rules in
    Finds-weaker (λ (due : Due). due ≡ counted limits l (commits.Ingest d.batches.items d.failures)) (λ (due : Due). IsBatchDue limits l own c.args.labels.barring due) c.put_derived.result
    (λ due is. untagged_due limits l own c.args.labels.barring due none (made_due limits l own d due c.in-Ok.ensures.made is)) c.put_derived.ensures.due

pub returns-in_ok-looked-in-Ok-clause-offers : goal.returns-in_ok-looked-in-Ok-clause-offers
returns-in_ok-looked-in-Ok-clause-offers c =
    let limits = c.args.snapshot.now.limits in
    let l = log c.args.snapshot.now.history in
    let own : Batch = record { table = c.args.number; rows = c.args.rows; tags = c.args.labels.tags } in
    let table : NumberedTable = record { number = c.args.number; table = c.args.table.now } in
    let b : Barring = record { table = c.args.number; widened = c.args.table.now.widened; tags = c.args.labels.barring; looked = c.in_ok-looked-in-Ok.looked; alone = c.is_alone.result } in
    let none : least_tagged l c.args.number c.args.labels.barring ≡ None = search rules in
    Offers-kept limits l table own b c.in-Ok.derived c.put_derived.result refl refl refl (c.in_ok-looked-in-Ok.ensures ∙ ap (looked l) c.as_slice-in-Ok.ensures.value) c.is_alone.ensures none c.in-Ok.ensures.made c.put_derived.ensures.offers
