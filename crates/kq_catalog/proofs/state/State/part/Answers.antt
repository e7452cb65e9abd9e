use Rattle.std.proofs.Common.{◌≡◌, ◌∙◌, Some, length, ap, sym, subst, arith}
use Rattle.std.specs.List.{slice_get}
use Rattle.kq_run_groups.specs.Groups.{Grouping}
use Rattle.kq_catalog_journal.specs.History.{Viewed}
use Rattle.kq_catalog.specs.Seen.{CatalogView, Sound, hist}
use Rattle.kq_catalog.specs.Views.{HoldsPart, viewed_of}
use Rattle.kq_catalog.proofs.Viewing.{count_views, some_same, view_held}
use Rattle.kq_catalog.proofs.state.State.part.Goals as goal

pub get-requires : goal.get-requires
get-requires c =
    let v = c.args.self.now in
    let sound : Sound v = subst Sound c.self.view_is c.self.invariant.sound in
    let same : length c.self.inside.views ≡ length v.views = ap (λ (w : CatalogView). length w.views) c.self.view_is in
    omega (arith, c.requires, same, count_views (hist v) v.views sound.views)

pub returns : goal.returns
returns c = λ x stands.
    let v = c.args.self.now in
    let sound : Sound v = subst Sound c.self.view_is c.self.invariant.sound in
    let at : slice_get v.views c.args.view ≡ Some c.get.result.now = ap (λ (w : CatalogView). slice_get w.views c.args.view) (sym c.self.view_is) ∙ c.get.ensures in
    let same : viewed_of c.get.result.now ≡ x = some_same (sym (view_held (hist v) v.views c.args.view c.get.result.now sound.views at) ∙ stands) in
    subst (λ (g : Grouping). HoldsPart (hist v) c.args.view x.view g) (sym c.part.ensures)
    (subst (λ (y : Viewed). HoldsPart (hist v) c.args.view y.view c.get.result.now.part) same (sound.views.each c.args.view c.get.result.now at).part)
