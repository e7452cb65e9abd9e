use Rattle.std.proofs.Common.{◌<◌, arith, below_more}
use Rattle.std.proofs.lemmas.List.Elements.{All-from_get_or}
use Rattle.kq_eval_pieces.proofs.reads.width_of.Goals as goal
use Rattle.kq_eval_pieces.proofs.reads.width_of.Goals.{then-j-width+in_ok-width, else-j-width}

pub loop-j-preserved : goal.loop-j-preserved
loop-j-preserved c =
    elim c.if-j-width.branch [
      | then-j-width+in_ok-width w ↦ (let more = w.in_ok-width.ensures.ok in below_more _ _ (λ k h. let old = c.loop-j.invariant k h in omega (arith, more)) (omega (arith, more)))
      | else-j-width w ↦ below_more _ _ (λ k h. let old = c.loop-j.invariant k h in omega arith) (omega arith)
    ]

pub returns : goal.returns
returns c = All-from_get_or (λ j. j < c.loop-j.width) c.args.reads.now 0 (λ k h. c.loop-j.invariant k (omega arith))
