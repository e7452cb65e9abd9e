use Rattle.std.proofs.Common.{IfOk, subst, sym}
use Rattle.kq_read_commands.specs.declared.command.Command.{Command}
use Rattle.kq_engine_prepare.specs.Found.{IsFound, IsGoodText}
use Rattle.kq_engine_prepare.proofs.Lasting.{Found-change}
use Rattle.kq_engine_prepare.proofs.on_snapshot.find.Goals as goal

pub returns-in-Change-clause-found : goal.returns-in-Change-clause-found
returns-in-Change-clause-found g c =
    let now = c.args.snapshot.now in
    let good = subst IsGoodText c.in-Change.is c.requires.good in
    subst (λ (x : Command). IfOk c.find_change.result (IsFound now.limits now.history c.args.now x)) (sym c.in-Change.is)
    (Found-change now.limits now.history c.args.now c.in-Change.change c.find_change.result good c.find_change.ensures.due c.find_change.ensures.offers)
