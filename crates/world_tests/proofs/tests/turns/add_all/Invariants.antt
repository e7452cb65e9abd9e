use Rattle.std.proofs.Common.{◌≡◌, ◌+◌, ◌≤◌, length}
use Rattle.kq_lock.specs.Passes.{IsIdle}
use Rattle.world_tests.proofs.tests.turns.add_all.Given as goal

abbrev pub invariant-loop-x : goal.invariant-loop-x
invariant-loop-x g l = record {
  of : l.pass.of ≡ l.fn.pass.of;
  idle : IsIdle l.pass;
  worth : l.pass.worth ≡ l.fn.pass.worth;
  added : length l.pass.added ≡ length l.fn.pass.added + l.count;
  count : l.count ≤ l.x;
}
