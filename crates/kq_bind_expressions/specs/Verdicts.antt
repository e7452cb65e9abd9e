-- What is bound, or the first fault.
use Rattle.std.specs.Prelude.{◌≡◌, ℕ, List, [], ◌∷◌, Option, Some, None, Result, Ok, Err}
use Rattle.kq_bind_expressions.specs.declared.fault.BindFault.{BindFault}
use Rattle.kq_bind_expressions.specs.declared.fault.BindFault.TheVariants as fault

-- a literal that isn't supported, a name that stands for nothing, or a type that doesn't fit, and the place of it
pub data Fault : Type 0 where
  unsupported : ℕ → Fault
  unknown : ℕ → Fault
  mistyped : ℕ → Fault

abbrev pub Verdict : Type 0 → Type 0
Verdict A = Result A Fault

-- the next, where the first is bound
abbrev pub and_then : {A B : Type 0} → Verdict A → (A → Verdict B) → Verdict B
and_then (Ok x) f = f x
and_then (Err e) f = Err e

-- all of them, or the first fault among them
abbrev pub all_of : {A : Type 0} → List (Verdict A) → Verdict (List A)
all_of [] = Ok []
all_of (v ∷ vs) = and_then v (λ x. and_then (all_of vs) (λ xs. Ok (x ∷ xs)))

abbrev pub or_fault : {A : Type 0} → Fault → Option A → Verdict A
or_fault e (Some x) = Ok x
or_fault e None = Err e

-- what isn't supported comes before every other fault
abbrev pub supported_or : {A : Type 0} → Option ℕ → Verdict A → Verdict A
supported_or (Some at) v = Err (unsupported at)
supported_or None v = v

-- the answer is the verdict, unless memory ran out
abbrev pub AnswersVerdict : {A B : Type 0} → (A → B) → Verdict B → Result A BindFault → Type 0
AnswersVerdict view v (Ok x) = v ≡ Ok (view x)
AnswersVerdict view v (Err (fault.Unsupported at)) = v ≡ Err (unsupported at)
AnswersVerdict view v (Err (fault.Unknown at)) = v ≡ Err (unknown at)
AnswersVerdict view v (Err (fault.Mistyped at)) = v ≡ Err (mistyped at)
AnswersVerdict view v (Err fault.Memory) = Unit {0}
