use Rattle.std.proofs.Common.{◌≡◌, ◌+◌, ◌++◌, ◌∷◌, ◌∙◌, FitsSigned, [], ap, arith, get_or, map, pos, rules, sym, take, w64}
use Rattle.std.proofs.lemmas.Int.{to_z-of_z}
use Rattle.std.proofs.lemmas.List.{map_more, take_all}
use Rattle.kq_run_groups.proofs.codes.widened.Goals as goal

pub loop-code-preserved : goal.loop-code-preserved
loop-code-preserved c =
    let codes = c.args.codes.now in
    let i = c.loop-code.code-index in
    let more : map pos (take (i + 1) codes) ≡ map pos (take i codes) ++ pos (get_or codes i 0) ∷ [] = map_more pos codes i 0 c.loop-code-test.true in
    let fits : FitsSigned w64 c.from.result = search rules in
    c.in_ok-push.ensures.items ∙ (λ t. c.loop-code.invariant t ++ (to_z-of_z w64 c.from.result fits ∙ c.from.ensures) t ∷ []) ∙ sym more

pub returns : goal.returns
returns c = c.loop-code.invariant ∙ ap (map pos) (take_all c.loop-code.code-index c.args.codes.now (omega arith))
