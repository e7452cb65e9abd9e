-- Which type a term has.
use Rattle.std.specs.Prelude.{◌≡◌, ℕ, zero, suc, List, [], ◌∷◌, Some}
use Rattle.kq_plan_expressions.specs.Terms.{Term, literal, column, cell, call, Terms, no_term, and_term}
use Rattle.kq_plan_functions.specs.Table.{typing, given}
use Rattle.kq_plan_functions.specs.kq_value.Field.{Field}
use Rattle.kq_plan_functions.specs.kq_value.Ty.{Ty}
use Rattle.kq_plan_functions.specs.kq_value.Typed.{type_of, IsProper}

-- there is one of this number, and it has this type
abbrev pub IsPlace : List Field → ℕ → Ty → Type 0
IsPlace [] i t = ⊥
IsPlace (c ∷ cs) zero t = c.ty ≡ t
IsPlace (c ∷ cs) (suc i) t = IsPlace cs i t

-- over these scalar lets and columns: each call has arguments of types for which its rule gives the call's type, as they stand
abbrev mutual
  pub Has : List Field → List Field → Term → Ty → Type 0
  Has lets cs (literal v) t = type_of v ≡ t
  Has lets cs (column i) t = IsPlace cs i t
  Has lets cs (cell i) t = IsPlace lets i t
  Has lets cs (call f es) t = (ts : List Ty) × Have lets cs es ts × (given (typing f) ts ≡ Some t)

  pub Have : List Field → List Field → Terms → List Ty → Type 0
  Have lets cs no_term [] = Unit {0}
  Have lets cs no_term (t ∷ ts) = ⊥
  Have lets cs (and_term e es) [] = ⊥
  Have lets cs (and_term e es) (t ∷ ts) = Has lets cs e t × Have lets cs es ts

-- each literal within is one that a row may hold
abbrev mutual
  pub HoldsProper : Term → Type 0
  HoldsProper (literal v) = IsProper v
  HoldsProper (column i) = Unit {0}
  HoldsProper (cell i) = Unit {0}
  HoldsProper (call f es) = AllHoldProper es

  pub AllHoldProper : Terms → Type 0
  AllHoldProper no_term = Unit {0}
  AllHoldProper (and_term e es) = HoldsProper e × AllHoldProper es
