use Rattle.std.proofs.Common.{◌≡◌, ℕ, List, get_or, subst, sym}
use Rattle.kq_value_text_sets.proofs.KeptLemmas.{AreDistinct-push}
use Rattle.kq_value_text_sets.proofs.kept.distinct.Goals as goal

pub loop-text-preserved : goal.loop-text-preserved
loop-text-preserved c =
    let texts = c.args.texts.now in
    let i = c.loop-text.text-index in
    AreDistinct-push texts i c.loop-text.seen.keys c.insert.new.self.keys c.as_str.result c.loop-text-test.true
    (subst (λ (t : List ℕ). t ≡ get_or texts i t) (sym c.as_str.ensures) c.text-item.is) c.in_ok-insert.ensures.keys c.loop-text.invariant
