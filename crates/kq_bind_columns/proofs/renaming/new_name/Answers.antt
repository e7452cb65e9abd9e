use Rattle.std.proofs.Common.{◌≡◌, ℕ, zero, suc, ◌<◌, false, nat_eq, List, [], ◌∷◌, length, get_or, drop, refl, ap, ◌∙◌, arith, add-one, rules}
use Rattle.std.proofs.lemmas.List.{drop_all}
use Rattle.kq_bind_columns.specs.Chosen.{new_name}
use Rattle.kq_bind_columns.proofs.renaming.new_name.Goals as goal

no_names : (is : List ℕ) (k : ℕ) (old : List ℕ) → new_name is [] k old ≡ old
no_names [] k old = refl
no_names (i ∷ is) k old = refl

other_number : (is : List ℕ) (names : List (List ℕ)) (i k : ℕ) (old : List ℕ) → i < length is → i < length names → nat_eq (get_or is i 0) k ≡ false
    → new_name (drop i is) (drop i names) k old ≡ new_name (drop (suc i) is) (drop (suc i) names) k old
other_number [] names i k old h l e = absurd (omega arith)
other_number (j ∷ is) [] i k old h l e = absurd (omega arith)
other_number (j ∷ is) (n ∷ names) zero k old h l e = rw e refl
other_number (j ∷ is) (n ∷ names) (suc i) k old h l e = other_number is names i k old (omega arith) (omega arith) e

pub returns-then-i-names : goal.returns-then-i-names
returns-then-i-names c =
    let is = drop c.loop-i.i c.args.numbers.now in
    let none = ap (λ names. new_name is names c.args.number c.args.old.now) (drop_all c.loop-i.i c.args.names.now c.if-i-names.true) in
    let kept = c.loop-i.invariant ∙ none ∙ no_names is c.args.number c.args.old.now in
    rw kept c.clone_in.ensures

pub loop-i-preserved : goal.loop-i-preserved
loop-i-preserved c =
    let i = c.loop-i.i in
    let other : nat_eq (get_or c.args.numbers.now i 0) c.args.number ≡ false = search rules in
    c.loop-i.invariant ∙ rw add-one (other_number c.args.numbers.now c.args.names.now i c.args.number c.args.old.now c.loop-i-test.true c.if-i-names.false other)
