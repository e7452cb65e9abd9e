use Rattle.std.proofs.Common.{refl, subst, sym}
use Rattle.kq_run_gather.specs.Joined.{Alike, AreAlike, JoinTo}
use Rattle.kq_run_gather.specs.declared.arriving.Arrived.{Arrived}
use Rattle.kq_run_gather.specs.declared.arriving.Arrived.TheVariants as arrived
use Rattle.kq_run_parallel.proofs.joining.behind_groups.Goals as goal

pub merged-requires-clause-whole : goal.merged-requires-clause-whole
merged-requires-clause-whole g c κs within =
    let a : Alike c.args.groups c.in-Groups.others = subst (λ (b : Arrived). AreAlike (arrived.Groups c.args.groups) b) c.in-Groups.is c.requires in
    a.whole

pub merged-requires-clause-other_whole : goal.merged-requires-clause-other_whole
merged-requires-clause-other_whole g c κs within =
    let a : Alike c.args.groups c.in-Groups.others = subst (λ (b : Arrived). AreAlike (arrived.Groups c.args.groups) b) c.in-Groups.is c.requires in
    a.other

pub merged-requires-clause-width : goal.merged-requires-clause-width
merged-requires-clause-width g c κs within =
    let a : Alike c.args.groups c.in-Groups.others = subst (λ (b : Arrived). AreAlike (arrived.Groups c.args.groups) b) c.in-Groups.is c.requires in
    a.width

pub merged-requires-clause-shapes : goal.merged-requires-clause-shapes
merged-requires-clause-shapes g c κs within =
    let a : Alike c.args.groups c.in-Groups.others = subst (λ (b : Arrived). AreAlike (arrived.Groups c.args.groups) b) c.in-Groups.is c.requires in
    a.shapes

pub returns-in_ok-all-in-Groups : goal.returns-in_ok-all-in-Groups
returns-in_ok-all-in-Groups g c =
    subst (λ (b : Arrived). JoinTo (arrived.Groups c.args.groups) b (arrived.Groups c.in_ok-all-in-Groups.all)) (sym c.in-Groups.is) (c.in_ok-all-in-Groups.all, refl, c.in_ok-all-in-Groups.ensures)
