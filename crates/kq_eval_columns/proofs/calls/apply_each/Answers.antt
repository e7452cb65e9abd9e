use Rattle.std.proofs.Common.{◌<◌, arith, add-one}
use Rattle.kq_eval_row.specs.Applied.{applied}
use Rattle.kq_eval_columns.specs.Seen.{shortest}
use Rattle.kq_eval_columns.proofs.Arguments.{next_row, no_row}
use Rattle.kq_eval_columns.proofs.Loops.{goes_on, comes_to_end}
use Rattle.kq_eval_columns.proofs.calls.apply_each.Goals as goal

pub loop-i-preserved : goal.loop-i-preserved
loop-i-preserved c =
    let i = c.loop-i.i in
    let h : i < shortest c.args.vectors.now c.args.count = omega arith in
    rw (c.in_ok-push.ensures.items, add-one)
    (goes_on _ _ _ _ _ _ c.loop-i.invariant (next_row (applied c.args.function c.args.piece.now) c.args.vectors.now c.args.count i h) c.in_ok-apply_at.ensures)

pub returns : goal.returns
returns c = comes_to_end _ _ _ c.loop-i.invariant (no_row (applied c.args.function c.args.piece.now) c.args.vectors.now c.args.count c.loop-i.i (omega arith))
