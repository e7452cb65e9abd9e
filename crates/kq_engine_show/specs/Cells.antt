-- Columns and cells of what is shown.
use Rattle.std.specs.Prelude.{ℕ, ◌^◌, pos, List, Option, Some, None, nat_lt, if◌then◌else◌}
use Rattle.kq_value.specs.declared.schema.Field.{Field}
use Rattle.kq_value.specs.declared.ty.Ty.{Ty}
use Rattle.kq_value.specs.declared.ty.Ty.TheVariants as ty
use Rattle.kq_value.specs.declared.value.Value.{Value}
use Rattle.kq_value.specs.declared.value.Value.TheVariants.{Null, Long}

abbrev pub column : List ℕ → Ty → Field
column name type = record { name = name; ty = type }

-- the number as a long, or null past the longs
abbrev pub number_cell : ℕ → Value
number_cell n = if nat_lt n (2 ^ 63) then Long (pos n) else Null ty.Long

-- null where there is none
abbrev pub number_or_null : Option ℕ → Value
number_or_null (Some n) = number_cell n
number_or_null None = Null ty.Long
