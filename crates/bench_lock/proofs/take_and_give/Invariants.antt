use Rattle.std.proofs.Common.{◌≡◌}
use Rattle.kq_lock.specs.Passes.{IsIdle}
use Rattle.bench_lock.proofs.take_and_give.Given as goal

abbrev pub invariant-loop : goal.invariant-loop
invariant-loop g l = record {
  of : l.pass.of ≡ l.fn.pass.of;
  idle : IsIdle l.pass;
  worth : l.pass.worth ≡ l.fn.pass.worth;
}
