use Rattle.std.proofs.Common.{arith}
use Rattle.kq_run_groups.proofs.Gathering.{Lengthens-more}
use Rattle.kq_run_groups.proofs.gathered.lengthen.Goals as goal

pub loop-alloc-preserved : goal.loop-alloc-preserved
loop-alloc-preserved c =
    let n = c.in_ok-grow.ensures.ok.count in
    let test = c.loop-alloc-test.true in
    let is = c.len.ensures in (
      omega (arith, n, test, is),
      Lengthens-more c.args.states.now c.loop-alloc.states c.grow.new.self c.loop-alloc.invariant.1 c.loop-alloc.invariant.2 c.grow.ensures.shape c.in_ok-grow.ensures.ok,
      (let old = c.loop-alloc.invariant.2 in omega (arith, n, old)),
    )
