use Rattle.std.proofs.Common.{◌≡◌, ◌<◌, length, get_or, arith, add-one}
use Rattle.kq_eval_columns.proofs.Rows.{firsts}
use Rattle.kq_eval_columns.proofs.gather.are_all.Goals as goal

pub loop-i-preserved : goal.loop-i-preserved
loop-i-preserved c =
    let places = c.args.places.now in
    let i = c.loop-i.i in
    let h : i < length places = omega arith in
    let e : get_or places i 0 ≡ i = omega arith in
    rw (add-one) (firsts places i h e c.loop-i.invariant)
