use Rattle.std.proofs.Common.{◌<◌, ◌+◌, length, map, ap, sym, subst, arith}
use Rattle.std.proofs.lemmas.List.{length-map}
use Rattle.kq_catalog_journal.specs.declared.event.Commit.TheVariants.{Ingest}
use Rattle.kq_catalog_journal.specs.History.{log, cursor as cursor_of}
use Rattle.kq_catalog_journal.specs.Lawful.{LawfulCommit}
use Rattle.kq_catalog_journal.proofs.Bounded.{few_made_by, few_rows}
use Rattle.kq_catalog.specs.declared.intent.Intent.{Intent}
use Rattle.kq_catalog_journal.specs.Records.{extents_made}
use Rattle.kq_catalog.specs.Edits.{AreEdits}
use Rattle.kq_catalog.specs.Intents.{batch_of, commit_of}
use Rattle.kq_catalog.specs.Seen.{CatalogView, hist}
use Rattle.kq_catalog.proofs.Standing.{made_few}
use Rattle.kq_catalog.proofs.state.State.edits.Goals as goal

pub overflow_add-self-inside : goal.overflow_add-self-inside
overflow_add-self-inside c =
    let v : CatalogView = record { limits = c.self.inside.limits; history = c.self.inside.journal; held = c.self.inside.tables; policies = c.self.inside.policies; views = c.self.inside.views; failures = c.self.inside.failures } in
    let few = made_few v c.self.invariant.sound in
    let place = ap (λ (w : CatalogView). length (hist w)) c.self.view_is in
    omega (arith, c.self.invariant.made_count, few, place, c.place-place.ensures.place, c.place-place.ensures.small)

pub part_edits-requires-clause-ids : goal.part_edits-requires-clause-ids
part_edits-requires-clause-ids c =
    let v : CatalogView = record { limits = c.self.inside.limits; history = c.self.inside.journal; held = c.self.inside.tables; policies = c.self.inside.policies; views = c.self.inside.views; failures = c.self.inside.failures } in
    let now = c.args.self.now in
    let few = made_few v c.self.invariant.sound in
    let place = ap (λ (w : CatalogView). length (hist w)) c.self.view_is in
    let parts = c.in-Ingest.parts.items in
    let lawful : LawfulCommit now.limits (log (hist now)) (Ingest (map batch_of parts) c.in-Ingest.failures) = subst (λ (i : Intent). LawfulCommit now.limits (log (hist now)) (commit_of i)) c.in-Ingest.is c.requires in
    let one = few_made_by now.limits (log (hist now)) (Ingest (map batch_of parts) c.in-Ingest.failures) lawful in
    let small : c.self.inside.made + 1 + length parts < 18446744073709551616 = omega (arith, c.self.invariant.made_count, few, place, c.place-place.ensures.place, c.place-place.ensures.small, one, length-map parts batch_of) in
    small

pub part_edits-requires-clause-rows : goal.part_edits-requires-clause-rows
part_edits-requires-clause-rows c =
    let now = c.args.self.now in
    let parts = c.in-Ingest.parts.items in
    let lawful : LawfulCommit now.limits (log (hist now)) (Ingest (map batch_of parts) c.in-Ingest.failures) = subst (λ (i : Intent). LawfulCommit now.limits (log (hist now)) (commit_of i)) c.in-Ingest.is c.requires in
    let few = few_rows now.limits (log (hist now)) (map batch_of parts) c.in-Ingest.failures lawful in
    omega (arith, few)

pub returns-in-SetPolicy : goal.returns-in-SetPolicy
returns-in-SetPolicy c =
    let now = c.args.self.now in
    subst (λ (i : Intent). AreEdits (cursor_of (hist now) + 1) (1 + extents_made (hist now)) i c.policy_edits.result) (sym c.in-SetPolicy.is)
    (c.policy_edits.ensures (cursor_of (hist now) + 1) (1 + extents_made (hist now)))
