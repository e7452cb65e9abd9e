use Rattle.std.proofs.Common.{IfOk, subst, sym}
use Rattle.kq_run_gather.specs.Joined.{AreAlike, JoinTo}
use Rattle.kq_run_gather.specs.declared.arriving.Arrived.{Arrived}
use Rattle.kq_run_gather.specs.declared.arriving.Arrived.TheVariants as arrived
use Rattle.kq_run_gather.proofs.both.behind_groups.Goals as goal

pub merged-requires : goal.merged-requires
merged-requires c = subst (λ (b : Arrived). AreAlike (arrived.Groups c.args.groups) b) c.in-Groups.is c.requires

pub returns-in-Groups : goal.returns-in-Groups
returns-in-Groups c = subst (λ (b : Arrived). IfOk c.merged.result (JoinTo (arrived.Groups c.args.groups) b)) (sym c.in-Groups.is) c.merged.ensures
