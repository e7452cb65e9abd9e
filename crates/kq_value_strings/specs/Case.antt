-- A text as a search sees it.
use Rattle.std.specs.Prelude.{◌≡◌, ℕ, ◌+◌, ◌<◌, ◌≤◌, List, slice_index}
use Rattle.std.specs.Char.{to_ascii_lowercase}
use Rattle.std.specs.Str.{str_to_ascii_lowercase}
use Rattle.kq_value_strings.specs.declared.case.Case.{Case}
use Rattle.kq_value_strings.specs.declared.case.Case.TheVariants.{Exact, Ignored}

abbrev pub in_case : Case → List ℕ → List ℕ
in_case Exact s = s
in_case Ignored s = str_to_ascii_lowercase s

-- a byte, as the case sees it
abbrev pub folded : Case → ℕ → ℕ
folded Exact c = c
folded Ignored c = to_ascii_lowercase c

-- the byte at a place
abbrev pub seen : Case → List ℕ → ℕ → ℕ
seen by s k = slice_index (in_case by s) k

-- the bytes of t from place a up to b stand in s, where t begins at the place i
abbrev pub StandsBetween : Case → List ℕ → List ℕ → ℕ → ℕ → ℕ → Type 0
StandsBetween by s t i a b = (k : ℕ) → a ≤ k → k < b → seen by t k ≡ seen by s (i + k)

-- the byte of t at its place j stands in s, where t begins at the place i
abbrev pub HasByte : Case → List ℕ → List ℕ → ℕ → ℕ → Type 0
HasByte by s t j i = seen by t j ≡ seen by s (i + j)
