use Rattle.std.proofs.Common.{◌≡◌, ◌∙◌, ap, subst}
use Rattle.std.specs.Option.{is_some}
use Rattle.kq_catalog_journal.specs.History.{log, names_of_views, views}
use Rattle.kq_catalog_journal.specs.kq_value_text_sets.Names.{is_among}
use Rattle.kq_catalog.specs.Seen.{CatalogView, Sound, hist}
use Rattle.kq_catalog.specs.Views.{names_held}
use Rattle.kq_catalog.proofs.Viewing.{names_are, placed}
use Rattle.kq_catalog.proofs.state.State.is_view.Goals as goal

pub returns : goal.returns
returns c =
    let v = c.args.self.now in
    let sound : Sound v = subst Sound c.self.view_is c.self.invariant.sound in
    let name = c.args.name.now in
    let names : names_held c.self.inside.views ≡ names_of_views (views (log (hist v))) = ap (λ (w : CatalogView). names_held w.views) c.self.view_is ∙ names_are (hist v) v.views sound.views in
    c.is_some.ensures ∙ ap is_some c.find.ensures ∙ placed name (names_held c.self.inside.views) ∙ ap (is_among name) names
