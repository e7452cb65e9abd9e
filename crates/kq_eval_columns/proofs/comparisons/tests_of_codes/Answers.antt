use Rattle.std.proofs.Common.{◌≡◌, ◌<◌, ℕ, List, map, length, get_or, [], ◌∷◌, ◌++◌, arith, add-one, ap, subst, ◌∙◌}
use Rattle.std.proofs.lemmas.List.{map-append, take_all}
use Rattle.kq_value.specs.declared.value.Value.{Value}
use Rattle.kq_eval_row.specs.Val.{cell_of}
use Rattle.kq_eval_columns.specs.Seen.{beside_one, paired, truths_of}
use Rattle.kq_eval_columns.proofs.Rows.{map_next, item_cell}
use Rattle.kq_eval_columns.proofs.comparisons.tests_of_codes.Goals as goal

pub loop-code-preserved : goal.loop-code-preserved
loop-code-preserved c =
    let words = c.args.words.now in
    let codes = c.args.codes.now in
    let i = c.loop-code.code-index in
    let h : i < length codes = omega arith in
    let code : ℕ = get_or codes i 0 in
    let k : code < length words = omega arith in
    let p = ap (λ (x : Value). paired c.args.function x c.args.value.now) (item_cell words code c.index-words-code.result k c.index-words-code.is) ∙ c.in-Some.ensures in
    rw (c.in_ok-push-in-Some.ensures.items, add-one, map-append, map_next (cell_of words) codes i 0 h, map-append) (λ j. c.loop-code.invariant j ++ p j ∷ [])

pub returns : goal.returns
returns c =
    subst (λ (xs : List ℕ). beside_one c.args.function c.args.value.now (map (cell_of c.args.words.now) xs) ≡ truths_of c.loop-code.truths.items) (take_all c.loop-code.code-index c.args.codes.now (omega arith)) c.loop-code.invariant
