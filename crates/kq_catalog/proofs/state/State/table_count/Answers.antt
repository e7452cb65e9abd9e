use Rattle.std.proofs.Common.{◌∙◌, length, ap, subst, arith}
use Rattle.kq_catalog.specs.Seen.{CatalogView, Sound}
use Rattle.kq_catalog.proofs.Standing.{bounded, count_held}
use Rattle.kq_catalog.proofs.state.State.table_count.Goals as goal

pub overflow_cast-result : goal.overflow_cast-result
overflow_cast-result c =
    let v : CatalogView = record { limits = c.self.inside.limits; history = c.self.inside.journal; held = c.self.inside.tables; policies = c.self.inside.policies; views = c.self.inside.views; failures = c.self.inside.failures } in
    let b = bounded v c.self.invariant.sound in
    omega (arith, c.len.ensures, count_held v c.self.invariant.sound, b.few_tables, c.self.inside.limits.few_tables)

pub returns : goal.returns
returns c =
    let v = c.args.self.now in
    let sound : Sound v = subst Sound c.self.view_is c.self.invariant.sound in
    c.len.ensures ∙ ap (λ (w : CatalogView). length w.held) c.self.view_is ∙ count_held v sound
