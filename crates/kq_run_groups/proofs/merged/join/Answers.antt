use Rattle.std.proofs.Common.{refl, ◌∙◌}
use Rattle.kq_run_groups.proofs.Merging.{TakesOver-none, TakesOver-step}
use Rattle.kq_run_groups.proofs.merged.join.Goals as goal

pub loop-i-init : goal.loop-i-init
loop-i-init c = record { shape = (refl, refl); done = TakesOver-none _ _ _ }

pub loop-i-preserved : goal.loop-i-preserved
loop-i-preserved c =
    let was = c.loop-i.invariant.shape in
    let shape = c.merge.ensures.shape in
    record {
      shape = (shape.0 ∙ was.0, shape.1 ∙ was.1);
      done = TakesOver-step c.args.states.now.kind c.loop-i.states.kind c.args.numbers.now c.args.places.now c.loop-i.i c.args.other.now.kept c.args.states.now.kept c.loop-i.states.kept c.merge.new.self.kept
          c.loop-i-test.true c.requires.along was.0 c.loop-i.invariant.done c.in_ok-merge.ensures.ok;
    }
