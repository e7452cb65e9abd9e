-- An operator or a function at what is bound.
use Rattle.std.specs.Prelude.{ℕ, Bool, true, List, map, Option, Some, None, Ok, Err}
use Rattle.kq_bind_expressions.specs.Verdicts.{Verdict, mistyped, and_then, all_of}
use Rattle.kq_plan_expressions.specs.Terms.{Term, Bound, call, terms_of, no_term, and_term}
use Rattle.kq_plan_functions.specs.declared.function.Function.{Function}
use Rattle.kq_plan_functions.specs.declared.function.Function.TheVariants as f
use Rattle.kq_plan_functions.specs.Table.{chosen, TypedCall}
use Rattle.kq_value.specs.declared.ty.Ty.{Ty}
use Rattle.kq_value.specs.declared.ty.Ty.TheVariants as ty

-- an int as the long of its value, where ints are widened
abbrev pub as_taken : Bool → Bound → Term
as_taken true (e, ty.Int) = call f.ToLong (and_term e no_term)
as_taken w x = x.0

abbrev pub type_of : Bound → Ty
type_of x = x.1

abbrev pub called_as : Function → ℕ → List Bound → Option TypedCall → Verdict Bound
called_as f at given (Some c) = Ok (call f (terms_of (map (as_taken c.0) given)), c.1)
called_as f at given None = Err (mistyped at)

-- the call, where a line of the table takes what is given
abbrev pub applied : Function → ℕ → List Bound → Verdict Bound
applied f at given = called_as f at given (chosen f (map type_of given))

-- the first fault is an operand's, from left to right, or else the operator's own at its place
abbrev pub apply : Function → ℕ → List (Verdict Bound) → Verdict Bound
apply f at operands = and_then (all_of operands) (applied f at)
