use Rattle.std.proofs.Common.{◌≡◌, min, length, arith, sym, ◌∙◌}
use Rattle.std.proofs.lemmas.Grind.{common_steps}
use Rattle.kq_value.proofs.Steps.{slice_cmp-end}
use Rattle.kq_value.specs.Values.{value_cmp}
use Rattle.kq_value.proofs.row.compare.Goals as goal

pub returns : goal.returns
returns c =
    let at_end : c.loop-i.i ≡ min (length c.args.a.now) (length c.args.b.now) = omega arith in
    let e = slice_cmp-end value_cmp c.args.a.now c.args.b.now c.loop-i.i at_end in
    rw c.cmp.ensures (sym (c.loop-i.invariant ∙ e))

pub returns-then-ne : goal.returns-then-ne
returns-then-ne c = grind (arith, common_steps)

pub loop-i-preserved : goal.loop-i-preserved
loop-i-preserved c = grind (arith, common_steps)
