use Rattle.std.proofs.Common.{◌≡◌, ℕ, length-drop, ◌+◌, ◌-◌, cond, ltb, length, take, drop, Some, None, sym, ◌∙◌, arith, rules, refl}
use Rattle.std.specs.Prelude.{◌==◌}
use Rattle.std.specs.List.{position_or_len}
use Rattle.std.proofs.lemmas.List.{take_all}
use Rattle.std.proofs.lemmas.Iterator.{YieldsList-from_slice}
use Rattle.std.proofs.lemmas.Iterator.Search.{position_from_yields_List}
use borrow.Author.Tests.{tests}
use Rattle.kq_value_time.proofs.PartLemmas.{cut_at, cut_none}
use Rattle.kq_value_time.proofs.digits.cut.Goals as goal

pub returns-in_err-at : goal.returns-in_err-at
returns-in_err-at c =
    let found : c.position.result ≡ cond (ltb (position_or_len (λ x. x == c.args.separator) c.args.text.now) (length c.args.text.now)) (Some (position_or_len (λ x. x == c.args.separator) c.args.text.now)) None = position_from_yields_List (λ x. x == c.args.separator) _ _ c.position.result c.position.ensures.ran (YieldsList-from_slice c.args.text.now cc) (λ x b q k. search (rules, tests)) in
    let none = cut_none c.args.separator c.args.text.now _ refl (sym c.in_err-at.was ∙ found) in
    rw c.from_residual.ensures none

pub returns : goal.returns
returns c =
    let found : c.position.result ≡ cond (ltb (position_or_len (λ x. x == c.args.separator) c.args.text.now) (length c.args.text.now)) (Some (position_or_len (λ x. x == c.args.separator) c.args.text.now)) None = position_from_yields_List (λ x. x == c.args.separator) _ _ c.position.result c.position.ensures.ran (YieldsList-from_slice c.args.text.now cc) (λ x b q k. search (rules, tests)) in
    let rest : take (length c.args.text.now - (c.in_ok-at.at + 1)) (drop (c.in_ok-at.at + 1) c.args.text.now) ≡ drop (c.in_ok-at.at + 1) c.args.text.now = take_all _ _ (omega (arith, length-drop {A = ℕ})) in
    rw rest (cut_at c.args.separator c.args.text.now c.in_ok-at.at _ refl (sym c.in_ok-at.was ∙ found))
