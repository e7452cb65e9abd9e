use Rattle.std.proofs.Common.{arith, ap, subst, sym, ◌∙◌, suc, ◌+◌, add-one, ◌≡◌}
use Rattle.kq_value.specs.declared.value.Value.{Value}
use Rattle.kq_value.specs.Computed.{Computed, Is, Answers}
use Rattle.kq_eval_row.specs.Seen.{seen}
use Rattle.kq_eval_row.proofs.Chosen.{chosen-more, chosen-at, chosen-last, present-more}
use Rattle.kq_eval_row.proofs.rows.+eval.Goals as goal

pub eval_chosen-returns-then-branch : goal.eval_chosen-returns-then-branch
eval_chosen-returns-then-branch t c =
    let at = rw add-one at c.index-then-branch.ensures in
    let is = c.loop-i.invariant.1 ∙ chosen-at c.args.exprs.now.items c.loop-i.i c.index.result.now c.index-then-branch.result.now (seen c.args.around) c.args.row.now
    (omega arith) c.index.ensures at (c.in_ok-is_chosen.ensures ∙ ap Is c.if-branch.true) in
    subst (λ (o : Computed Value). Answers o c.eval_around.result) (sym is) c.eval_around.ensures

pub eval_chosen-loop-i-preserved : goal.eval_chosen-loop-i-preserved
eval_chosen-loop-i-preserved t c =
    let two : c.loop-i.i + 2 ≡ suc (suc c.loop-i.i) = omega arith in (
      omega arith,
      rw two (c.loop-i.invariant.1 ∙ chosen-more c.args.exprs.now.items c.loop-i.i c.index.result.now (seen c.args.around) c.args.row.now
          (omega arith) c.index.ensures (c.in_ok-is_chosen.ensures ∙ ap Is c.if-branch.false)),
    )

pub eval_chosen-returns-then-i-len : goal.eval_chosen-returns-then-i-len
eval_chosen-returns-then-i-len t c =
    let is = c.loop-i.invariant.1 ∙ chosen-last c.args.exprs.now.items c.loop-i.i c.index-then-i-len.result.now (seen c.args.around) c.args.row.now (omega arith) (omega arith) c.index-then-i-len.ensures in
    subst (λ (o : Computed Value). Answers o c.eval_around-then-i-len.result) (sym is) c.eval_around-then-i-len.ensures

pub eval_present-loop-i-preserved : goal.eval_present-loop-i-preserved
eval_present-loop-i-preserved t c =
    rw add-one (c.loop-i.invariant ∙ present-more c.args.exprs.now.items c.loop-i.i c.index.result.now c.in_ok-value.value (seen c.args.around) c.args.row.now
    (omega arith) c.index.ensures c.in_ok-value.ensures (sym c.is_present.ensures ∙ c.if-is_present.false))
