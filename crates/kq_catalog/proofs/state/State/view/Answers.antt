use Rattle.std.proofs.Common.{◌≡◌, ◌∙◌, Some, ap, sym, subst}
use Rattle.std.specs.List.{slice_get}
use Rattle.std.specs.Option.{option_map}
use Rattle.kq_catalog_indexes.specs.Places.{place_of}
use Rattle.kq_catalog_journal.specs.History.{Viewed, log, names_of_views, views}
use Rattle.kq_catalog.specs.Seen.{CatalogView, Sound, hist}
use Rattle.kq_catalog.specs.Views.{names_held}
use Rattle.kq_catalog.proofs.Viewing.{names_are, place_within, view_held}
use Rattle.kq_catalog.proofs.state.State.view.Goals as goal

pub get-requires : goal.get-requires
get-requires c = place_within c.args.name.now c.self.inside.views c.in-Some.number (sym c.find.ensures ∙ c.in-Some.is)

pub returns-in-Some : goal.returns-in-Some
returns-in-Some c =
    let v = c.args.self.now in
    let sound : Sound v = subst Sound c.self.view_is c.self.invariant.sound in
    let name = c.args.name.now in
    let n = c.in-Some.number in
    let names : names_held c.self.inside.views ≡ names_of_views (views (log (hist v))) = ap (λ (w : CatalogView). names_held w.views) c.self.view_is ∙ names_are (hist v) v.views sound.views in
    let at : slice_get v.views n ≡ Some c.get.result.now = ap (λ (w : CatalogView). slice_get w.views n) (sym c.self.view_is) ∙ c.get.ensures in (
      ap (place_of name) (sym names) ∙ sym c.find.ensures ∙ c.in-Some.is,
      ap (option_map (λ (x : Viewed). x.view)) (view_held (hist v) v.views n c.get.result.now sound.views at) ∙ ap Some (sym c.view.ensures),
    )

pub returns-in-None : goal.returns-in-None
returns-in-None c =
    let v = c.args.self.now in
    let sound : Sound v = subst Sound c.self.view_is c.self.invariant.sound in
    let names : names_held c.self.inside.views ≡ names_of_views (views (log (hist v))) = ap (λ (w : CatalogView). names_held w.views) c.self.view_is ∙ names_are (hist v) v.views sound.views in
    ap (place_of c.args.name.now) (sym names) ∙ sym c.find.ensures ∙ c.in-None.is
