use Rattle.std.proofs.Common.{◌≡◌, length, ap, ◌∙◌, subst}
use Rattle.kq_engine_prepare.specs.Found.{IsReady}
use Rattle.kq_engine.specs.Shared.{PassView}
use Rattle.kq_engine.proofs.Sharing.{Concludes-answered}
use Rattle.kq_engine.proofs.shared.Shared.conclude.Goals as goal

pub returns-in-Says : goal.returns-in-Says
returns-in-Says g c =
    let pass = c.args.pass.now in
    let limits = c.args.self.now.limits in
    let work = c.args.work.now in
    let ready = subst (IsReady limits pass.seen work.now work.command) c.in-Says.is c.requires.ready in
    let at : c.pass.inside.seen ≡ length pass.seen = c.pass.invariant.1 ∙ ap (λ (p : PassView). length p.seen) c.pass.view_is in
    rw (c.answered.ensures, at) (Concludes-answered limits pass work c.in-Says.reply c.requires.fresh ready)
