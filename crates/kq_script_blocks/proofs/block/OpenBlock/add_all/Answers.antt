use Rattle.std.proofs.Common.{◌++◌, take, get_or, subst, arith, Some, None, ◌∙◌}
use Rattle.kq_script_blocks.specs.Open.{AddsByte, open_run, open_line}
use Rattle.kq_script_blocks.proofs.Scripts.{adds_next, none_given}
use Rattle.kq_script_blocks.proofs.block.OpenBlock.add_all.Goals as goal

pub returns-in-Some-clause-adds : goal.returns-in-Some-clause-adds
returns-in-Some-clause-adds c = λ looked h.
    let so_far = c.loop-i.invariant.adds looked h in
    let bytes = looked ++ take c.loop-i.i c.args.bytes.now in
    adds_next c.args.self.now.limit c.add.new.self looked c.args.bytes.now c.loop-i.i (Some c.in-Some.item) (omega arith) so_far.1
    (subst (λ m. AddsByte m c.add.new.self (open_run bytes) (open_line bytes) (get_or c.args.bytes.now c.loop-i.i 0) (Some c.in-Some.item)) c.loop-i.invariant.limit (c.in-Some.ensures.adds (open_run bytes) (open_line bytes) so_far.0))

pub loop-i-preserved : goal.loop-i-preserved
loop-i-preserved c = record {
  limit = c.in_default.ensures.limit ∙ c.loop-i.invariant.limit;
  count = omega (arith, c.in_default.ensures.count);
  adds = λ looked h.
      let so_far = c.loop-i.invariant.adds looked h in
      let bytes = looked ++ take c.loop-i.i c.args.bytes.now in
      let next =
      adds_next c.args.self.now.limit c.add.new.self looked c.args.bytes.now c.loop-i.i None (omega arith) so_far.1
      (subst (λ m. AddsByte m c.add.new.self (open_run bytes) (open_line bytes) (get_or c.args.bytes.now c.loop-i.i 0) None) c.loop-i.invariant.limit (c.in_default.ensures.adds (open_run bytes) (open_line bytes) so_far.0)) in
      (next.0, none_given c.args.self.now.limit _ _ next.1);
}
