use Rattle.std.proofs.Common.{ℕ, List, [], ◌∷◌, ◌++◌, Some, sym, ap, ◌∙◌}
use Rattle.kq_store_ingest.proofs.TagLemmas.{strings_of-missing, strings_of-more}
use Rattle.kq_store_ingest.proofs.tags.strings.Goals as goal

pub returns-in-None : goal.returns-in-None
returns-in-None c = strings_of-missing c.args.items.now c.loop-item.item-index c.item-item.result c.loop-item-test.true c.item-item.is c.in-None.ensures

pub loop-item-preserved : goal.loop-item-preserved
loop-item-preserved c =
    let items = c.args.items.now in
    let i = c.loop-item.item-index in
    let texts = c.loop-item.texts in
    strings_of-more items i c.item-item.result texts c.in-Some.text.now c.loop-item-test.true c.item-item.is c.in-Some.ensures c.loop-item.invariant
    ∙ ap Some (sym (c.in_ok-push-in-Some.ensures.ok ∙ ap (λ (t : List ℕ). texts ++ t ∷ []) c.in_ok-from_str-in-Some.ensures))
