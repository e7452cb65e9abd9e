-- Rows under the ids of records.
use Rattle.std.specs.Prelude.{ℕ, ◌+◌, List, [], ◌∷◌}
use Rattle.kq_value.specs.declared.value.Value.{Value}
use Rattle.kq_value.specs.declared.record.Record.{Record}

-- rows that one commit gives a table, under the ordinals from a number on
abbrev pub numbered : ℕ → ℕ → List (List Value) → List Record
numbered cursor ordinal [] = []
numbered cursor ordinal (r ∷ rows) = record { id = record { cursor = cursor; ordinal = ordinal }; row = r } ∷ numbered cursor (ordinal + 1) rows
