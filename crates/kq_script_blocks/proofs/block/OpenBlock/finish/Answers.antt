use Rattle.std.proofs.Common.{sym, ◌∙◌, ap, subst, ◌++◌, ◌∷◌, []}
use Rattle.kq_script_blocks.specs.Script.{block_of}
use Rattle.kq_script_blocks.specs.Open.{IsOpen, AreItem}
use Rattle.kq_script_blocks.specs.declared.block.OpenBlock.{OpenBlock}
use Rattle.kq_script_blocks.proofs.Blocks.{shows_blank-open}
use Rattle.kq_script_blocks.proofs.block.OpenBlock.finish.Goals as goal
use Rattle.kq_script_blocks.proofs.block.OpenBlock.finish.Goals.{then-not-is_blank, else-not-is_blank}

pub returns-clause-last : goal.returns-clause-last
returns-clause-last c = λ run line h.
    let blank = shows_blank-open c.args.self.now run line h in
    elim c.if-not-is_blank.branch [
      | then-not-is_blank w ↦
          let ended = subst (λ b. IsOpen b (run ++ line ∷ []) []) (sym w.self-is) (w.end_line.ensures.ends run line h) in
          let limit = ap (λ (b : OpenBlock). b.limit) w.self-is ∙ w.end_line.ensures.limit in
          rw (sym blank, sym w.if-not-is_blank.ensures)
          (subst (λ m. AreItem m c.close.result (block_of m (run ++ line ∷ []))) limit (c.close.ensures.item (run ++ line ∷ []) [] ended))
      | else-not-is_blank w ↦
          rw (sym blank, sym w.if-not-is_blank.ensures)
          (subst (λ b. AreItem b.limit c.close.result (block_of b.limit run)) w.self-is (c.close.ensures.item run line (subst (λ b. IsOpen b run line) (sym w.self-is) h)))
    ]
