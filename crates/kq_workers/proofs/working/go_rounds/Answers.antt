use Rattle.std.proofs.Common.{◌∙◌}
use Rattle.kq_workers.proofs.Going.{HasRounds-push, SoFar-carries, SoFar-push}
use Rattle.kq_workers.proofs.Keeping.{AreKept-earlier}
use Rattle.kq_workers.proofs.working.go_rounds.Goals as goal

pub round-moved-requires : goal.round-moved-requires
round-moved-requires g c = let post = c.args.post.now in (SoFar-carries post.shared.now.limits post.actor c.args.worker.now c.loop.worker c.loop.invariant.so_far).of ∙ c.requires

pub returns-then-load-clause-rounds : goal.returns-then-load-clause-rounds
returns-then-load-clause-rounds g c =
    let post = c.args.post.now in
    HasRounds-push post.shared.now.limits post.actor c.args.worker.now c.loop.worker c.round-moved.new.worker c.loop.invariant.so_far c.round-moved.ensures.round

pub returns-then-load-clause-kept : goal.returns-then-load-clause-kept
returns-then-load-clause-kept g c = λ none.
    let post = c.args.post.now in
    let old = c.args.worker.now in
    let before = c.loop.worker in
    let begins = (SoFar-carries post.shared.now.limits post.actor old before c.loop.invariant.so_far).seen in
    AreKept-earlier old.pass.seen before.pass.seen c.round-moved.new.worker.pass.seen begins (c.round-moved.ensures.kept none)

pub loop-preserved : goal.loop-preserved
loop-preserved g c =
    let post = c.args.post.now in
    record {
      can_next = tt;
      is_finite = tt;
      so_far = SoFar-push post.shared.now.limits post.actor c.args.worker.now c.loop.worker c.round-moved.new.worker c.loop.invariant.so_far c.round-moved.ensures.round;
    }
