use Rattle.std.proofs.Common.{◌++◌, ◌∷◌, [], Bool, List, false, replicate, ap, ◌∙◌, append_assoc}
use Rattle.std.proofs.lemmas.List.{replicate_more}
use Rattle.kq_store_column.proofs.numbers.add_plain.Goals as goal

pub loop-n-preserved : goal.loop-n-preserved
loop-n-preserved c =
    let old = c.args.nulls.now.items in
    let n = c.loop-n._n in
    c.in_ok-push.ensures.items ∙ (λ t. c.loop-n.invariant t ++ false ∷ []) ∙ append_assoc old (replicate n false) (false ∷ []) ∙ ap (λ (bs : List Bool). old ++ bs) (replicate_more n false)
