use Rattle.std.proofs.Common.{◌≡◌, ◌-◌, ℕ, List, length, map, take, drop, subst, arith}
use Rattle.std.specs.Prelude.{IsTrue, ◌↔◌}
use Rattle.std.specs.Char.{to_ascii_lowercase}
use Rattle.std.proofs.lemmas.List.{take_all, length-drop}
use Rattle.kq_value_strings.proofs.Cases.{stands_within}
use Rattle.kq_value_strings.proofs.compare.stands_at.Goals as goal

pub returns-then-part-rest : goal.returns-then-part-rest
returns-then-part-rest c =
    let s = c.args.text.now in
    let t = c.args.part.now in
    let tail : take (length s - c.args.at) (drop c.args.at s) ≡ drop c.args.at s = take_all (length s - c.args.at) (drop c.args.at s) (omega (arith, length-drop c.args.at s)) in
    rw c.in-Ignored.is
    (stands_within to_ascii_lowercase s t c.args.at c.eq_ignore_ascii_case.result
    (subst (λ (xs : List ℕ). IsTrue c.eq_ignore_ascii_case.result ↔ (map to_ascii_lowercase (take (length t) xs) ≡ map to_ascii_lowercase t)) tail c.eq_ignore_ascii_case.ensures.test))
