-- A take of rows in no order.
use Rattle.std.proofs.Common.{◌≡◌, ℕ, zero, suc, min, false, List, [], ◌∷◌, length, take, refl, arith}
use Rattle.kq_value.proofs.SameLemmas.{NoOftener-take}
use Rattle.kq_run_plan.specs.declared.outcome.Outcome.TheVariants as outcome
use Rattle.kq_run_plan.specs.Operators.{Taken}
use Rattle.kq_run_plan.specs.Outcomes.{Row}

length-take_min : (n : ℕ) (rows : List Row) → length (take n rows) ≡ min n (length rows)
length-take_min zero [] = omega arith
length-take_min zero (x ∷ rows) = omega arith
length-take_min (suc n) [] = omega arith
length-take_min (suc n) (x ∷ rows) = omega (arith, length-take_min n rows)

pub Taken-first : (n : ℕ) (rows : List Row) → Taken false rows n (outcome.Table false (take n rows))
Taken-first n rows = (take n rows, length-take_min n rows, NoOftener-take n rows, refl)
