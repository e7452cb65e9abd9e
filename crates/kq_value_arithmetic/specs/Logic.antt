-- The three values of truth: true, false and null.
use Rattle.std.specs.Prelude.{Bool, true, false, not, ◌||◌, ◌&&◌, if◌then◌else◌, List, [], ◌∷◌}
use Rattle.kq_value.specs.declared.ty.Ty.TheVariants as ty
use Rattle.kq_value.specs.declared.value.Value.{Value}
use Rattle.kq_value.specs.declared.value.Value.TheVariants.{Null, Bool as Truth}
use Rattle.kq_value_arithmetic.specs.Comparing.{at_most, at_least}

abbrev pub is_yes : Value → Bool
is_yes (Truth true) = true
is_yes v = false

abbrev pub is_no : Value → Bool
is_no (Truth false) = true
is_no v = false

-- KQL reference, 'Logical operators': `and` is false where a side is false, else true where both are, else null
abbrev pub conjunction : Value → Value → Value
conjunction a b = if is_no a || is_no b then Truth false else (if is_yes a && is_yes b then Truth true else Null ty.Bool)

-- the same: `or` is true where a side is true, else false where both are, else null
abbrev pub disjunction : Value → Value → Value
disjunction a b = if is_yes a || is_yes b then Truth true else (if is_no a && is_no b then Truth false else Null ty.Bool)

-- KQL reference, not(), and what the operators that begin with ! make of the answer of the one without it
abbrev pub negation : Value → Value
negation (Truth b) = Truth (not b)
negation v = Null ty.Bool

-- KQL reference, the in operators: the `or` of the equalities
abbrev pub in_list : (Value → Value → Value) → Value → List Value → Value
in_list equality x [] = Truth false
in_list equality x (v ∷ vs) = disjunction (equality x v) (in_list equality x vs)

-- KQL reference, the between operator
abbrev pub between_of : Value → Value → Value → Value
between_of x a b = conjunction (at_least x a) (at_most x b)
