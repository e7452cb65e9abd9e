-- Names that stand twice.
use Rattle.std.specs.Prelude.{ℕ, Bool, List, [], ◌∷◌, ◌++◌, length, Option, Some, None, nat_eq, map, if◌then◌else◌}
use Rattle.std.specs.List.{list_any}
use Rattle.std.specs.Cmp.Lexicographic.{pointwise}
use Rattle.kq_value.specs.declared.schema.Field.{Field}

abbrev pub is_among : List ℕ → List (List ℕ) → Bool
is_among name = list_any (λ other. pointwise nat_eq other name)

-- the place, from 0, of the first name that stands before it too
abbrev pub repeat_after : List (List ℕ) → List (List ℕ) → Option ℕ
repeat_after before [] = None
repeat_after before (name ∷ names) = if is_among name before then Some (length before) else repeat_after (before ++ name ∷ []) names

abbrev pub repeat_of : List (List ℕ) → Option ℕ
repeat_of = repeat_after []

abbrev pub names_of : List Field → List (List ℕ)
names_of = map (λ (f : Field). f.name)
