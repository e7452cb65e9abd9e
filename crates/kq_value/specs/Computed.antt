-- What an evaluation comes to.
use Rattle.std.specs.Prelude.{◌≡◌, List, [], ◌∷◌, Result, Ok, Err}
use Rattle.kq_value.specs.declared.fault.EvalFault.{EvalFault}
use Rattle.kq_value.specs.declared.fault.EvalFault.TheVariants as fault

-- a value, or an overflow where a result is outside its type
pub data Computed (A : Type 0) : Type 0 where
  Is : A → Computed A
  Overflow : Computed A

-- the next, where the first is a value
abbrev pub and_then : {A B : Type 0} → Computed A → (A → Computed B) → Computed B
and_then (Is x) f = f x
and_then Overflow f = Overflow

-- the value of each, in order, or an overflow where one overflows
abbrev pub each : {A B : Type 0} → (A → Computed B) → List A → Computed (List B)
each f [] = Is []
each f (x ∷ xs) = and_then (f x) (λ y. and_then (each f xs) (λ ys. Is (y ∷ ys)))

-- the answer is what the evaluation comes to, unless memory ran out
abbrev pub Answers : {A : Type 0} → Computed A → Result A EvalFault → Type 0
Answers c (Ok x) = c ≡ Is x
Answers c (Err fault.Overflow) = c ≡ Overflow
Answers c (Err fault.Memory) = Unit {0}

-- the same of an answer that is seen as something else
abbrev pub AnswersAs : {A B : Type 0} → (A → B) → Computed B → Result A EvalFault → Type 0
AnswersAs see c (Ok x) = c ≡ Is (see x)
AnswersAs see c (Err fault.Overflow) = c ≡ Overflow
AnswersAs see c (Err fault.Memory) = Unit {0}
