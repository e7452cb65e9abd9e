use Rattle.std.proofs.Common.{◌≡◌, ◌<◌, ◌++◌, ◌∷◌, [], ap, sym, ◌∙◌, subst, arith}
use Rattle.kq_catalog_journal.specs.History.{view_cursor}
use Rattle.kq_catalog.specs.Seen.{CatalogView, hist}
use Rattle.kq_catalog.specs.Views.{WasFolded, fold_event}
use Rattle.kq_catalog.proofs.Viewing.{HoldsHistory-fold, count_views, fold_stands}
use Rattle.kq_catalog.proofs.state.State.with_fold.Goals as goal

pub with_fold-requires : goal.with_fold-requires
with_fold-requires c =
    let v : CatalogView = record { limits = c.self.inside.limits; history = c.self.inside.journal; held = c.self.inside.tables; policies = c.self.inside.policies; views = c.self.inside.views; failures = c.self.inside.failures } in
    let folded : WasFolded (hist v) c.args.view c.args.to c.args.part = subst (λ (w : CatalogView). WasFolded (hist w) c.args.view c.args.to c.args.part) (sym c.self.view_is) c.requires.folded in
    let stands = (fold_stands (hist v) c.args.view c.args.to c.args.part folded).0 in
    omega (arith, stands, count_views (hist v) v.views c.self.invariant.sound.views)

pub invariant_of-result : goal.invariant_of-result
invariant_of-result c =
    let v : CatalogView = record { limits = c.self.inside.limits; history = c.self.inside.journal; held = c.self.inside.tables; policies = c.self.inside.policies; views = c.self.inside.views; failures = c.self.inside.failures } in
    let folded : WasFolded (hist v) c.args.view c.args.to c.args.part = subst (λ (w : CatalogView). WasFolded (hist w) c.args.view c.args.to c.args.part) (sym c.self.view_is) c.requires.folded in
    let ahead : view_cursor (hist v) c.args.view < c.args.to = subst (λ (w : CatalogView). view_cursor (hist w) c.args.view < c.args.to) (sym c.self.view_is) c.requires.ahead in
    let journal : c.in_ok-journal.journal ≡ hist v ++ fold_event c.args.by c.args.view c.args.to ∷ [] =
    c.in_ok-journal.ensures ∙ ap (λ (w : CatalogView). hist w ++ fold_event c.args.by c.args.view c.args.to ∷ []) (sym c.self.view_is) in
    rw (journal, c.in_ok-tables.ensures, c.in_ok-rest.ensures.policies, c.in_ok-rest.ensures.views ∙ c.in_ok-views.ensures, c.in_ok-rest.ensures.failures, c.in_ok-rest.ensures.tags)
    (HoldsHistory-fold v c.self.inside.cursor c.self.inside.made c.args.by c.args.view c.args.to c.args.part c.self.inside.tags c.self.invariant folded ahead)
