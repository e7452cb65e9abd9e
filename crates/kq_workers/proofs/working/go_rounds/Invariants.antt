use Rattle.kq_workers.proofs.Going.{SoFar}
use Rattle.kq_workers.proofs.working.go_rounds.Given as goal

abbrev pub invariant-loop : goal.invariant-loop
invariant-loop g l = record {
  can_next : (goal.iterator-loop g).can_next l.iterator';
  is_finite : (goal.iterator-loop g).is_finite l.iterator';
  so_far : SoFar l.post.shared.now.limits l.post.actor l.fn.worker l.worker;
}
