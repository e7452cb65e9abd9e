use Rattle.std.proofs.Common.{◌∙◌, length, ap, subst, arith}
use Rattle.kq_catalog.specs.Seen.{CatalogView, Sound, hist}
use Rattle.kq_catalog.proofs.Standing.{bounded}
use Rattle.kq_catalog.proofs.Viewing.{count_views}
use Rattle.kq_catalog.proofs.state.State.view_count.Goals as goal

pub overflow_cast-result : goal.overflow_cast-result
overflow_cast-result c =
    let v : CatalogView = record { limits = c.self.inside.limits; history = c.self.inside.journal; held = c.self.inside.tables; policies = c.self.inside.policies; views = c.self.inside.views; failures = c.self.inside.failures } in
    let b = bounded v c.self.invariant.sound in
    omega (arith, c.len.ensures, count_views (hist v) v.views c.self.invariant.sound.views, b.few_views, c.self.inside.limits.few_views)

pub returns : goal.returns
returns c =
    let v = c.args.self.now in
    let sound : Sound v = subst Sound c.self.view_is c.self.invariant.sound in
    c.len.ensures ∙ ap (λ (w : CatalogView). length w.views) c.self.view_is ∙ count_views (hist v) v.views sound.views
