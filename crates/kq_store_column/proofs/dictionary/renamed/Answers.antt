use Rattle.std.proofs.Common.{◌<◌, ◌++◌, ◌∷◌, [], ℕ, List, All, length, map, get_or, sym, subst, ◌∙◌, ap, arith}
use Rattle.std.proofs.lemmas.List.{map-append, take_all, take_more}
use Rattle.std.proofs.lemmas.List.Elements.{All-push}
use Rattle.kq_store_column.proofs.dictionary.renamed.Goals as goal

pub loop-code-preserved : goal.loop-code-preserved
loop-code-preserved c =
    let new = c.args.new.now in
    let old = c.args.old.now in
    let i = c.loop-code.code-index in
    let inv = c.loop-code.invariant in
    let h : i < length old = omega arith in
    let k : ℕ = get_or old i 0 in
    let within : k < length new = omega arith in
    rw (c.in_ok-push.ensures.items, take_more old i 0 h) (record {
      known = All-push (λ x. x < length new) _ k inv.known within;
      codes = (λ t. inv.codes t ++ get_or new k 0 ∷ []) ∙ sym (map-append (λ x. get_or new x 0) _ (k ∷ []));
    })

pub returns-clause-known : goal.returns-clause-known
returns-clause-known c = subst (λ (cs : List ℕ). All (λ x. x < length c.args.new.now) cs) (take_all c.loop-code.code-index c.args.old.now (omega arith)) c.loop-code.invariant.known

pub returns-clause-codes : goal.returns-clause-codes
returns-clause-codes c = c.loop-code.invariant.codes ∙ ap (map (λ x. get_or c.args.new.now x 0)) (take_all c.loop-code.code-index c.args.old.now (omega arith))
