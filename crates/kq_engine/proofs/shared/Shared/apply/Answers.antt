use Rattle.std.proofs.Common.{◌≡◌, ◌∙◌, ap, length}
use Rattle.kq_engine.specs.Shared.{PassView}
use Rattle.kq_engine.proofs.Sharing.{Applies-concluded, Applies-refused}
use Rattle.kq_engine.proofs.shared.Shared.apply.Goals as goal

pub returns-in-Ok : goal.returns-in-Ok
returns-in-Ok g c =
    let limits = c.args.self.now.limits in
    let mid = c.prepare.new.pass in
    Applies-concluded limits c.args.pass.now mid c.conclude.new.pass c.args.work.now c.conclude.result c.prepare.ensures.seen c.prepare.ensures.pass c.conclude.ensures

pub returns-in-Err : goal.returns-in-Err
returns-in-Err g c =
    let new = c.prepare.new.pass in
    let at : c.pass.inside.seen ≡ length new.seen = c.pass.invariant.1 ∙ ap (λ (p : PassView). length p.seen) c.pass.view_is in
    rw (c.refused.ensures, at) (Applies-refused c.args.self.now.limits c.args.pass.now new c.args.work.now c.in-Err.refusal c.prepare.ensures.seen c.prepare.ensures.pass c.in-Err.ensures.refused c.in-Err.ensures.memory)
