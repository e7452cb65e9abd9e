-- The rows that an expansion makes.
use Rattle.std.specs.Prelude.{ℕ, ◌+◌, nat_lt, List, [], ◌∷◌, ◌++◌, length, map, slice_set, Option, Some, None, if◌then◌else◌}
use Rattle.kq_value_conversions.specs.Converted.{as_text, as_long, as_int, as_bool, as_moment, as_span, as_dynamic}
use Rattle.kq_value.specs.Seen.{dyn_of, tree_of}
use Rattle.kq_value.specs.Tree.{Tree, array, bag, Entries, no_entries, entry, items_of}
use Rattle.kq_value.specs.declared.dynamic.Dyn.TheVariants as dyn
use Rattle.kq_value.specs.declared.ty.Ty.{Ty}
use Rattle.kq_value.specs.declared.ty.Ty.TheVariants as ty
use Rattle.kq_value.specs.declared.value.Value.{Value}
use Rattle.kq_value.specs.declared.value.Value.TheVariants.{Dynamic}

-- the entries of a bag, as bags of one entry
abbrev pub single_entries : Entries → List Tree
single_entries no_entries = []
single_entries (entry k t es) = bag (entry k t no_entries) ∷ single_entries es

abbrev pub as_value : Tree → Value
as_value t = Dynamic (dyn_of t)

abbrev pub or_null : List Value → List Value
or_null [] = Dynamic dyn.Null ∷ []
or_null (v ∷ vs) = v ∷ vs

-- the items of an array, the entries of a bag, or null where there are none; anything else is its one part
abbrev pub parts : Tree → List Value
parts (array ts) = or_null (map as_value (items_of ts))
parts (bag es) = or_null (map as_value (single_entries es))
parts t = as_value t ∷ []

abbrev pub parts_of : Value → List Value
parts_of (Dynamic d) = parts (tree_of d)
parts_of v = v ∷ []

-- a part as a value of the type that is said, by the conversion to it
abbrev pub part_as : Option Ty → Value → Value
part_as None v = v
part_as (Some ty.Long) v = as_long v
part_as (Some ty.Int) v = as_int v
part_as (Some ty.Text) v = as_text v
part_as (Some ty.Bool) v = as_bool v
part_as (Some ty.Moment) v = as_moment v
part_as (Some ty.Span) v = as_span v
part_as (Some ty.Dynamic) v = as_dynamic v

-- the row with this cell in place of the one at a place, or behind the last
abbrev pub with_cell : List Value → ℕ → Value → List Value
with_cell row at v = if nat_lt at (length row) then slice_set row at v else row ++ v ∷ []

-- how many cells it has then
abbrev pub width_with : ℕ → ℕ → ℕ
width_with width at = if nat_lt at width then width else width + 1

-- the row with each part of the value
abbrev pub with_parts : ℕ → Option Ty → List Value → Value → List (List Value)
with_parts at t row v = map (λ p. with_cell row at (part_as t p)) (parts_of v)

-- the rows, each with the parts of the value beside it
abbrev pub expanded : ℕ → Option Ty → List (List Value) → List Value → List (List Value)
expanded at t [] vs = []
expanded at t (r ∷ rows) [] = []
expanded at t (r ∷ rows) (v ∷ vs) = with_parts at t r v ++ expanded at t rows vs
