use Rattle.std.proofs.Common.{Bool, MatchBool, subst}
use Rattle.kq_engine.specs.Upkeeps.{IsIdle, IsWanted}
use Rattle.kq_engine.proofs.Upholding.{there_later}
use Rattle.kq_workers.proofs.Going.{HasChores-none, HasChores-one, TakesOne-granted}
use Rattle.kq_workers.proofs.Keeping.{kept_idle, kept_chore}
use Rattle.kq_workers.proofs.round.tend.Goals as goal

pub chore-requires-clause-there : goal.chore-requires-clause-there
chore-requires-clause-there g c = there_later c.args.snapshot.now.history c.args.worker.now.pass.seen c.args.upkeep c.requires.since.begins c.requires.there

pub returns-then-is_wanted-clause-chores : goal.returns-then-is_wanted-clause-chores
returns-then-is_wanted-clause-chores g c =
    let post = c.args.post.now in
    let h = c.args.snapshot.now.history in
    let wanted : IsWanted h c.args.upkeep = subst (λ (b : Bool). MatchBool b (IsWanted h c.args.upkeep) (IsIdle h c.args.upkeep)) c.if-is_wanted.true c.is_wanted.ensures in
    HasChores-one post.shared.now.limits post.actor h c.args.worker.now c.chore.new.worker c.args.upkeep wanted c.chore.ensures

pub returns-then-is_wanted-clause-kept : goal.returns-then-is_wanted-clause-kept
returns-then-is_wanted-clause-kept g c = λ none.
    let post = c.args.post.now in
    let old = c.args.worker.now in
    let new = c.chore.new.worker in
    let granted = TakesOne-granted post.shared.now.limits post.actor old new c.args.upkeep c.chore.ensures none in
    kept_chore post.shared.now.limits c.args.snapshot.now.history old.pass new.pass _ c.args.upkeep c.chore.ensures.outcome c.requires.since.begins c.chore.ensures.chore.keeps granted

pub returns-else-is_wanted-clause-kept : goal.returns-else-is_wanted-clause-kept
returns-else-is_wanted-clause-kept g c = λ none.
    let h = c.args.snapshot.now.history in
    let idle : IsIdle h c.args.upkeep = subst (λ (b : Bool). MatchBool b (IsWanted h c.args.upkeep) (IsIdle h c.args.upkeep)) c.if-is_wanted.false c.is_wanted.ensures in
    kept_idle c.args.post.now.shared.now.limits h c.args.worker.now.pass.seen c.args.upkeep c.requires.since c.requires.there idle

pub returns-else-is_wanted-clause-chores : goal.returns-else-is_wanted-clause-chores
returns-else-is_wanted-clause-chores g c = let post = c.args.post.now in HasChores-none post.shared.now.limits post.actor c.args.snapshot.now.history c.args.worker.now
