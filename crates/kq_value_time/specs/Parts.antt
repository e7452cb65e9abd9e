-- Numbers and parts, as they are read.
use Rattle.std.specs.Prelude.{◌≡◌, ◌<◌, ℕ, ◌*◌, ◌/◌, ◌%◌, ◌^◌, ◌&&◌, ◌==◌, min, List, [], ◌∷◌, length, if◌then◌else◌, Option, Some, None}
use Rattle.std.specs.Str.Parse.{digits_value}
use Rattle.kq_value_formats.specs.Numerals.{is_numeral}
use Rattle.kq_value_time.specs.declared.digits.Parts.{Parts}
use Rattle.kq_value_time.specs.declared.digits.Parts.TheVariants.{One, Two, Three, More}

-- the greatest u64 stands for all numbers that are greater
abbrev pub capped : ℕ → ℕ
capped n = min n 18446744073709551615

-- these are the pieces, of which only three are kept
abbrev pub IsParts : Parts → List (List ℕ) → Type 0
IsParts (One a) pieces = pieces ≡ a.now ∷ []
IsParts (Two a b) pieces = pieces ≡ a.now ∷ b.now ∷ []
IsParts (Three a b c) pieces = pieces ≡ a.now ∷ b.now ∷ c.now ∷ []
IsParts More pieces = 3 < length pieces

-- decimals of a unit, where they are a whole number of ticks
abbrev pub part_ticks : ℕ → List ℕ → Option ℕ
part_ticks unit decimals =
    let n = digits_value 10 decimals * unit in
    if is_numeral decimals && (n % 10 ^ length decimals == 0) then Some (n / 10 ^ length decimals) else None
