use Rattle.std.proofs.Common.{◌≡◌, ◌∙◌, ℕ, ap, false, length, subst, sym}
use Rattle.kq_engine.specs.declared.work.Outcome.{Outcome}
use Rattle.kq_engine.specs.Shared.{PassView}
use Rattle.kq_engine.specs.Upkeeps.{FitsEach, KeepsUp}
use Rattle.kq_engine.proofs.Upholding.{KeepsUp-finished, KeepsUp-fits, KeepsUp-told, there_later}
use Rattle.kq_engine.proofs.shared.Shared.keep_up.Goals as goal

pub finish_upkeep-requires-clause-of : goal.finish_upkeep-requires-clause-of
finish_upkeep-requires-clause-of g c = ap (λ (p : PassView). p.of) c.prepare_upkeep.ensures.pass ∙ c.requires.of

pub finish_upkeep-requires-clause-there : goal.finish_upkeep-requires-clause-there
finish_upkeep-requires-clause-there g c = there_later c.args.pass.now.seen c.prepare_upkeep.new.pass.seen c.args.upkeep c.prepare_upkeep.ensures.seen c.requires.there

pub returns-in-Ok : goal.returns-in-Ok
returns-in-Ok g c =
    let limits = c.args.self.now.limits in
    let keeps = KeepsUp-finished limits c.args.pass.now c.prepare_upkeep.new.pass c.finish_upkeep.new.pass c.args.by c.args.upkeep c.finish_upkeep.result c.in-Ok.ensures.seen c.in-Ok.ensures.pass c.in-Ok.ensures.wanted c.finish_upkeep.ensures in
    record { keeps = keeps; fits = KeepsUp-fits limits c.args.pass.now c.finish_upkeep.new.pass c.args.by c.args.upkeep c.finish_upkeep.result keeps }

pub returns-in-Err : goal.returns-in-Err
returns-in-Err g c =
    let limits = c.args.self.now.limits in
    let new = c.prepare_upkeep.new.pass in
    let told : Outcome = record { place = length new.seen; own = false; reply = c.in-Err.reply } in
    let at : c.pass.inside.seen ≡ length new.seen = c.pass.invariant.1 ∙ ap (λ (p : PassView). length p.seen) c.pass.view_is in
    let is : c.answered.result ≡ told = c.answered.ensures ∙ ap (λ (n : ℕ). let o : Outcome = record { place = n; own = false; reply = c.in-Err.reply } in o) at in
    let keeps = KeepsUp-told limits c.args.pass.now new c.args.by c.args.upkeep c.in-Err.reply c.in-Err.ensures.seen c.in-Err.ensures.pass c.in-Err.ensures.lawful c.in-Err.ensures.told in
    record {
      keeps = subst (KeepsUp limits c.args.pass.now new c.args.by c.args.upkeep) (sym is) keeps;
      fits = subst (FitsEach limits new.seen c.args.by c.args.upkeep) (sym is) (KeepsUp-fits limits c.args.pass.now new c.args.by c.args.upkeep told keeps);
    }
