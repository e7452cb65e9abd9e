use Rattle.std.proofs.Common.{◌≡◌, cond, ltb, ℕ, length, length-drop, length-take, Some, None, sym, subst, ◌∙◌, arith, rules}
use Rattle.std.specs.Prelude.{◌==◌}
use Rattle.std.proofs.lemmas.Iterator.{YieldsList-from_slice}
use Rattle.std.proofs.lemmas.Iterator.Search.{position_from_yields_List}
use borrow.Author.Tests.{tests}
use Rattle.kq_read_literals.specs.Raw.{HasRaw}
use Rattle.kq_read_literals.proofs.RawLemmas.{found_opening, has_raw, no_opening_found, opening_inside, opening_of, sliced_is}
use Rattle.kq_read_literals.proofs.raw.raw_text.Goals as goal

pub unreachable-requires : goal.unreachable-requires
unreachable-requires c =
    let found : c.position.result ≡ cond (ltb (opening_of c.args.bytes.now) (length c.args.bytes.now)) (Some (opening_of c.args.bytes.now)) None = position_from_yields_List (λ x. x == 40) _ _ c.position.result c.position.ensures.ran (YieldsList-from_slice c.args.bytes.now cc) (λ x b q k. search (rules, tests)) in
    no_opening_found c.requires.0 c.args.bytes.now c.requires.1 (sym c.in-None.is ∙ found)

pub slice_bounds-result-count : goal.slice_bounds-result-count
slice_bounds-result-count c =
    let found : c.position.result ≡ cond (ltb (opening_of c.args.bytes.now) (length c.args.bytes.now)) (Some (opening_of c.args.bytes.now)) None = position_from_yields_List (λ x. x == 40) _ _ c.position.result c.position.ensures.ran (YieldsList-from_slice c.args.bytes.now cc) (λ x b q k. search (rules, tests)) in
    let place = found_opening c.args.bytes.now c.in-Some.opening (sym c.in-Some.is ∙ found) in
    omega (arith, opening_inside c.requires.0 c.args.bytes.now c.requires.1, length-take {A = ℕ}, length-drop {A = ℕ})

pub returns-clause-value : goal.returns-clause-value
returns-clause-value c =
    let found : c.position.result ≡ cond (ltb (opening_of c.args.bytes.now) (length c.args.bytes.now)) (Some (opening_of c.args.bytes.now)) None = position_from_yields_List (λ x. x == 40) _ _ c.position.result c.position.ensures.ran (YieldsList-from_slice c.args.bytes.now cc) (λ x b q k. search (rules, tests)) in
    sliced_is c.args.bytes.now c.in-Some.opening (found_opening c.args.bytes.now c.in-Some.opening (sym c.in-Some.is ∙ found))

pub returns-clause-between : goal.returns-clause-between
returns-clause-between c = λ word h.
    let found : c.position.result ≡ cond (ltb (opening_of c.args.bytes.now) (length c.args.bytes.now)) (Some (opening_of c.args.bytes.now)) None = position_from_yields_List (λ x. x == 40) _ _ c.position.result c.position.ensures.ran (YieldsList-from_slice c.args.bytes.now cc) (λ x b q k. search (rules, tests)) in
    subst (λ raw. HasRaw word c.args.bytes.now raw) (sym (sliced_is c.args.bytes.now c.in-Some.opening (found_opening c.args.bytes.now c.in-Some.opening (sym c.in-Some.is ∙ found)))) (has_raw word c.args.bytes.now h)
