-- Lists of rows that have each row equally often.
use Rattle.std.specs.Prelude.{◌≡◌, ◌≤◌, ℕ, ◌+◌, List, [], ◌∷◌, if◌then◌else◌}
use Rattle.kq_value.specs.declared.value.Value.{Value}
use Rattle.kq_value.specs.Values.{is_same_row}

-- how often a row stands in a list
abbrev pub times : List Value → List (List Value) → ℕ
times r [] = 0
times r (s ∷ rows) = (if is_same_row r s then 1 else 0) + times r rows

-- each row stands equally often in both
pub record Same (a b : List (List Value)) : Type 0 where
  pub each : (r : List Value) → times r a ≡ times r b

-- no row stands oftener in the first
pub record NoOftener (a b : List (List Value)) : Type 0 where
  pub each : (r : List Value) → times r a ≤ times r b
