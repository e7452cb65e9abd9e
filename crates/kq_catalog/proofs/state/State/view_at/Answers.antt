use Rattle.std.proofs.Common.{◌≡◌, ◌∙◌, Some, length, option_map, ap, sym, subst, arith}
use Rattle.std.specs.List.{slice_get}
use Rattle.std.proofs.lemmas.Option.{slice_get_past}
use Rattle.kq_catalog_journal.specs.History.{Viewed, log, views}
use Rattle.kq_catalog.specs.Seen.{CatalogView, Sound, hist}
use Rattle.kq_catalog.proofs.Viewing.{count_views, view_held}
use Rattle.kq_catalog.proofs.state.State.view_at.Goals as goal

pub returns-then-number-len : goal.returns-then-number-len
returns-then-number-len c =
    let v = c.args.self.now in
    let sound : Sound v = subst Sound c.self.view_is c.self.invariant.sound in
    let at : slice_get v.views c.args.number ≡ Some c.get.result.now = ap (λ (w : CatalogView). slice_get w.views c.args.number) (sym c.self.view_is) ∙ c.get.ensures in
    ap Some c.view.ensures ∙ sym (ap (option_map (λ (x : Viewed). x.view)) (view_held (hist v) v.views c.args.number c.get.result.now sound.views at))

pub returns-else-number-len : goal.returns-else-number-len
returns-else-number-len c =
    let v = c.args.self.now in
    let sound : Sound v = subst Sound c.self.view_is c.self.invariant.sound in
    let same : length c.self.inside.views ≡ length v.views = ap (λ (w : CatalogView). length w.views) c.self.view_is in
    sym (ap (option_map (λ (x : Viewed). x.view)) (slice_get_past (views (log (hist v))) c.args.number (omega (arith, same, count_views (hist v) v.views sound.views, c.len.ensures, c.if-number-len.false))))
