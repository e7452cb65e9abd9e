-- Which value, and which row, an aggregate takes.
use Rattle.std.specs.Prelude.{◌≡◌, Bool, true, false, List, [], ◌∷◌, if◌then◌else◌, Option, Some, None}
use Rattle.std.specs.List.{All, Contains}
use Rattle.std.specs.declared.cmp.Ordering.{Ordering}
use Rattle.std.specs.Option.{option_cmp}
use Rattle.std.specs.Ordering.{is_gt, bool_cmp, on, flip_args}
use Rattle.kq_value.specs.Typed.{is_null}
use Rattle.kq_value.specs.Values.{value_cmp}
use Rattle.kq_value.specs.declared.ty.Ty.TheVariants as ty
use Rattle.kq_value.specs.declared.value.Value.{Value}
use Rattle.kq_value.specs.declared.value.Value.TheVariants.{Null, Text}
use Rattle.kq_run_aggregates.specs.declared.kind.Side.{Side}
use Rattle.kq_run_aggregates.specs.declared.kind.Side.TheVariants as side
use Rattle.kq_run_aggregates.specs.declared.kind.Choice.{Choice}
use Rattle.kq_run_aggregates.specs.declared.kind.Choice.TheVariants as choice

-- the first argument
abbrev pub first_of : List Value → Value
first_of [] = Null ty.Long
first_of (v ∷ vs) = v

-- among values that aren't null, the one that is taken comes last
abbrev pub side_cmp : Side → Value → Value → Ordering
side_cmp side.Greatest = value_cmp
side_cmp side.Least = flip_args value_cmp

-- a value, or none for a null
abbrev pub unless_null : Value → Option Value
unless_null v = if is_null v then None else Some v

-- what a row is taken by: its first argument, or none where that is null
abbrev pub key_of : List Value → Option Value
key_of row = unless_null (first_of row)

-- whether a cell is null or empty
abbrev pub is_empty : Value → Bool
is_empty (Text []) = true
is_empty v = is_null v

-- a row of one cell, which is null or empty
abbrev pub is_hollow : List Value → Bool
is_hollow (v ∷ []) = is_empty v
is_hollow row = false

-- the order in which the row that is taken comes last: no key before all keys, and hollow rows before all others
abbrev pub choice_cmp : Choice → List Value → List Value → Ordering
choice_cmp (choice.By s) = on key_of (option_cmp (side_cmp s))
choice_cmp choice.Any = flip_args (on is_hollow bool_cmp)

-- nothing of none, and else one of them after which none comes
abbrev pub IsLast : {X : Type 0} → (X → X → Ordering) → List X → Option X → Type 0
IsLast cmp xs None = xs ≡ []
IsLast cmp xs (Some x) = Contains xs x × All (λ y. is_gt (cmp y x) ≡ false) xs
