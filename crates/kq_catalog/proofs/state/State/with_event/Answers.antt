use Rattle.std.proofs.Common.{◌≡◌, ◌+◌, ℕ, Option, None, length, ◌++◌, ◌∷◌, [], refl, ap, sym, ◌∙◌, subst, arith}
use Rattle.std.specs.Option.{IfSome}
use Rattle.kq_catalog_indexes.specs.Places.{place_of}
use Rattle.kq_catalog_journal.specs.declared.event.Commit.{Commit}
use Rattle.kq_catalog_journal.specs.declared.event.Event.{Event}
use Rattle.kq_catalog_journal.specs.declared.event.Operation.TheVariants as operation
use Rattle.kq_catalog_journal.specs.Edits.{FitAll, edits_of}
use Rattle.kq_catalog_journal.specs.History.{log, cursor as cursor_of}
use Rattle.kq_catalog_journal.specs.Lawful.{LawfulCommit}
use Rattle.kq_catalog_journal.specs.Policies.{noted_by, policies_with}
use Rattle.kq_catalog_journal.specs.Records.{extents_made}
use Rattle.kq_catalog_journal.proofs.Bounded.{few_made_by}
use Rattle.kq_catalog_journal.specs.Tagged.{is_tagged_by}
use Rattle.kq_catalog_indexes.specs.Tags.{AddsTags}
use Rattle.kq_catalog.specs.Edits.{AreEdits, edits_by}
use Rattle.kq_catalog.specs.Held.{tables_in}
use Rattle.kq_catalog.specs.Intents.{commit_of, event_by, view_by}
use Rattle.kq_catalog.specs.Policies.{SetsStanding}
use Rattle.kq_catalog.specs.Seen.{CatalogView, Sound, hist}
use Rattle.kq_catalog.specs.Views.{HeldView, names_held, with_new}
use Rattle.kq_catalog.proofs.Standing.{bounded, changes_fit, count_policies, made_few, sets_standing, HoldsHistory-push}
use Rattle.kq_catalog.proofs.Viewing.{count_views, new_name}
use Rattle.kq_catalog.proofs.state.State.with_event.Goals as goal

pub with_all-requires : goal.with_all-requires
with_all-requires c =
    let v = c.args.self.now in
    let cs = c.in_ok-commit.field-0.changes.items in
    let sound : Sound v = subst Sound c.self.view_is c.self.invariant.sound in
    let staged : AreEdits (cursor_of (hist v) + 1) (1 + extents_made (hist v)) c.args.intent c.in_ok-commit.field-0 = c.in_ok-commit.ensures in
    subst (λ (w : CatalogView). FitAll (tables_in w.held) (edits_by cs)) (sym c.self.view_is) (changes_fit v (cursor_of (hist v) + 1) (1 + extents_made (hist v)) (commit_of c.args.intent) cs sound c.requires.lawful staged.edits)

pub rest_after-requires-clause-stands : goal.rest_after-requires-clause-stands
rest_after-requires-clause-stands c =
    let v : CatalogView = record { limits = c.self.inside.limits; history = c.self.inside.journal; held = c.self.inside.tables; policies = c.self.inside.policies; views = c.self.inside.views; failures = c.self.inside.failures } in
    let lawful : LawfulCommit v.limits (log (hist v)) (commit_of c.args.intent) = subst (λ (w : CatalogView). LawfulCommit w.limits (log (hist w)) (commit_of c.args.intent)) (sym c.self.view_is) c.requires.lawful in
    let staged : AreEdits (cursor_of (hist c.args.self.now) + 1) (1 + extents_made (hist c.args.self.now)) c.args.intent c.in_ok-commit.field-0 = c.in_ok-commit.ensures in
    subst (SetsStanding (length v.policies)) (sym staged.is) (sets_standing v (commit_of c.args.intent) c.self.invariant.sound lawful)

pub rest_after-requires-clause-few : goal.rest_after-requires-clause-few
rest_after-requires-clause-few c =
    let v : CatalogView = record { limits = c.self.inside.limits; history = c.self.inside.journal; held = c.self.inside.tables; policies = c.self.inside.policies; views = c.self.inside.views; failures = c.self.inside.failures } in
    let b = bounded v c.self.invariant.sound in
    omega (arith, count_policies v c.self.invariant.sound, b.few_tables, v.limits.few_tables)

pub rest_after-requires-clause-new : goal.rest_after-requires-clause-new
rest_after-requires-clause-new c =
    let v : CatalogView = record { limits = c.self.inside.limits; history = c.self.inside.journal; held = c.self.inside.tables; policies = c.self.inside.policies; views = c.self.inside.views; failures = c.self.inside.failures } in
    let lawful : LawfulCommit v.limits (log (hist v)) (commit_of c.args.intent) = subst (λ (w : CatalogView). LawfulCommit w.limits (log (hist w)) (commit_of c.args.intent)) (sym c.self.view_is) c.requires.lawful in
    let staged : AreEdits (cursor_of (hist c.args.self.now) + 1) (1 + extents_made (hist c.args.self.now)) c.args.intent c.in_ok-commit.field-0 = c.in_ok-commit.ensures in
    subst (λ (o : Option HeldView). IfSome o (λ (x : HeldView). place_of x.view.name (names_held v.views) ≡ None)) (sym staged.view)
    (new_name v.limits (hist v) (cursor_of (hist c.args.self.now) + 1) c.args.intent v.views c.self.invariant.sound.views lawful)

pub rest_after-requires-clause-few_views : goal.rest_after-requires-clause-few_views
rest_after-requires-clause-few_views c =
    let v : CatalogView = record { limits = c.self.inside.limits; history = c.self.inside.journal; held = c.self.inside.tables; policies = c.self.inside.policies; views = c.self.inside.views; failures = c.self.inside.failures } in
    let b = bounded v c.self.invariant.sound in
    omega (arith, count_views (hist v) v.views c.self.invariant.sound.views, b.few_views, v.limits.few_views)

pub overflow_add-self-inside : goal.overflow_add-self-inside
overflow_add-self-inside c =
    let v : CatalogView = record { limits = c.self.inside.limits; history = c.self.inside.journal; held = c.self.inside.tables; policies = c.self.inside.policies; views = c.self.inside.views; failures = c.self.inside.failures } in
    let b = bounded v c.self.invariant.sound in
    omega (arith, c.self.invariant.count, b.few_commits, c.self.inside.limits.few_commits)

pub overflow_add-result : goal.overflow_add-result
overflow_add-result c =
    let v : CatalogView = record { limits = c.self.inside.limits; history = c.self.inside.journal; held = c.self.inside.tables; policies = c.self.inside.policies; views = c.self.inside.views; failures = c.self.inside.failures } in
    let b = bounded v c.self.invariant.sound in
    omega (arith, c.self.invariant.count, b.few_commits, c.self.inside.limits.few_commits)

pub overflow_add-result-2 : goal.overflow_add-result-2
overflow_add-result-2 c =
    let now = c.args.self.now in
    let v : CatalogView = record { limits = c.self.inside.limits; history = c.self.inside.journal; held = c.self.inside.tables; policies = c.self.inside.policies; views = c.self.inside.views; failures = c.self.inside.failures } in
    let few = made_few v c.self.invariant.sound in
    let staged : AreEdits (cursor_of (hist now) + 1) (1 + extents_made (hist now)) c.args.intent c.in_ok-commit.field-0 = c.in_ok-commit.ensures in
    let place = ap (λ (w : CatalogView). length (hist w)) c.self.view_is in
    omega (arith, c.self.invariant.made_count, few, place, c.place-place.ensures.place, c.place-place.ensures.small, staged.made, few_made_by now.limits (log (hist now)) (commit_of c.args.intent) c.requires.lawful)

pub invariant_of-result : goal.invariant_of-result
invariant_of-result c =
    let now = c.args.self.now in
    let v : CatalogView = record { limits = c.self.inside.limits; history = c.self.inside.journal; held = c.self.inside.tables; policies = c.self.inside.policies; views = c.self.inside.views; failures = c.self.inside.failures } in
    let commit = commit_of c.args.intent in
    let made = c.in_ok-commit.field-0 in
    let cs = made.changes.items in
    let staged : AreEdits (cursor_of (hist now) + 1) (1 + extents_made (hist now)) c.args.intent made = c.in_ok-commit.ensures in
    let lawful : LawfulCommit v.limits (log (hist v)) commit = subst (λ (w : CatalogView). LawfulCommit w.limits (log (hist w)) commit) (sym c.self.view_is) c.requires.lawful in
    let edits : edits_by cs ≡ edits_of (cursor_of (hist v) + 1) (1 + extents_made (hist v)) commit =
    subst (λ (w : CatalogView). edits_by cs ≡ edits_of (cursor_of (hist w) + 1) (1 + extents_made (hist w)) commit) (sym c.self.view_is) staged.edits in
    let journal : c.in_ok-journal.journal ≡ hist v ++ event_by c.args.by c.args.intent ∷ [] =
    c.in_ok-journal.ensures ∙ ap (λ (k : Commit). let e : Event = record { by = c.args.by; operation = operation.Commit k } in hist now ++ e ∷ []) staged.is
    ∙ ap (λ (w : CatalogView). hist w ++ event_by c.args.by c.args.intent ∷ []) (sym c.self.view_is) in
    let index = c.self.inside.tags in
    let tags = c.in_ok-rest.rest.tags in
    let adds : AddsTags index (λ t tag. is_tagged_by t tag commit) (c.self.inside.cursor + 1) tags =
    subst (λ (k : Commit). AddsTags index (λ t tag. is_tagged_by t tag k) (c.self.inside.cursor + 1) tags) staged.is c.in_ok-rest.ensures.tags in
    let views : c.in_ok-rest.rest.views ≡ with_new v.views (view_by (cursor_of (hist v) + 1) c.args.intent) =
    c.in_ok-rest.ensures.views ∙ ap (with_new v.views) staged.view ∙ ap (λ (w : CatalogView). with_new v.views (view_by (cursor_of (hist w) + 1) c.args.intent)) (sym c.self.view_is) in
    let policies : c.in_ok-rest.rest.policies ≡ policies_with commit v.policies = c.in_ok-rest.ensures.policies ∙ ap (λ (k : Commit). policies_with k v.policies) staged.is in
    let failures : c.in_ok-rest.rest.failures ≡ v.failures ++ noted_by (cursor_of (hist v) + 1) commit =
    c.in_ok-rest.ensures.failures ∙ ap (λ (k : Commit). v.failures ++ noted_by (c.self.inside.cursor + 1) k) staged.is ∙ ap (λ (n : ℕ). v.failures ++ noted_by (n + 1) commit) c.self.invariant.count in
    rw (journal, c.in_ok-tables.ensures, policies, views, failures)
    (HoldsHistory-push v c.self.inside.cursor c.self.inside.made made.made (event_by c.args.by c.args.intent) c.args.intent cs index tags c.self.invariant lawful c.requires.begins refl edits staged.made adds)
