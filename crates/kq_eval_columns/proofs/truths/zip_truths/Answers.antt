use Rattle.std.proofs.Common.{◌<◌, length, false, arith, add-one, ap}
use Rattle.std.proofs.lemmas.List.{map-append}
use Rattle.kq_value.specs.Computed.{Is}
use Rattle.kq_value.specs.declared.value.Value.TheVariants.{Bool as Truth}
use Rattle.kq_eval_kernels.specs.Pairs.{without_overflow}
use Rattle.kq_eval_columns.proofs.Loops.{goes_on, comes_to_end}
use Rattle.kq_eval_columns.proofs.Pairing.{pairs_next, pairs_end}
use Rattle.kq_eval_columns.proofs.truths.zip_truths.Goals as goal

pub loop-i-preserved : goal.loop-i-preserved
loop-i-preserved g c =
    let xs = c.args.a.now in
    let ys = c.args.b.now in
    let i = c.loop-i.i in
    let h : i < length xs = omega arith in
    let k : i < length ys = omega arith in
    rw (c.in_ok-push.ensures.items, add-one, map-append)
    (goes_on _ _ _ _ _ _ c.loop-i.invariant (pairs_next Truth (without_overflow g.O.TruthOperator.operator) false false xs ys i h k) (ap Is c.at.ensures))

pub returns : goal.returns
returns g c = comes_to_end _ _ _ c.loop-i.invariant (pairs_end Truth (without_overflow g.O.TruthOperator.operator) c.args.a.now c.args.b.now c.loop-i.i (omega arith))
