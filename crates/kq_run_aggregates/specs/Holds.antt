-- What aggregates keep of rows of arguments, and the cells that come of it.
use Rattle.std.specs.Prelude.{◌≡◌, ◌≤◌, ◌<◌, ℕ, ℤ, pos, ◌+ℤ◌, Bool, true, not, ◌&&◌, nat_lt, List, [], ◌∷◌, length, map, filter, if◌then◌else◌, Option, Some, None, unwrap_or}
use Rattle.std.specs.List.{All, Contains, IsDistinct}
use Rattle.std.specs.declared.cmp.Ordering.{Ordering}
use Rattle.kq_value_arithmetic.specs.Numbers.{number_of, number_in}
use Rattle.kq_value.specs.Computed.{Computed, Is, and_then}
use Rattle.kq_value_conversions.specs.Converted.{in_range}
use Rattle.kq_value.specs.Seen.{dyn_of}
use Rattle.kq_value.specs.Tree.{Tree, null, array, tree_depth}
use Rattle.kq_value.specs.Typed.{is_null, missing_of}
use Rattle.kq_value.specs.Values.{is_same}
use Rattle.kq_value.specs.declared.ty.Ty.{Ty}
use Rattle.kq_value.specs.declared.ty.Ty.TheVariants as ty
use Rattle.kq_value.specs.declared.value.Value.{Value}
use Rattle.kq_value.specs.declared.value.Value.TheVariants.{Long, Dynamic}
use Rattle.kq_value_conversions.specs.kq_value_formats.Conversions.{item_of}
use Rattle.kq_value_conversions.specs.kq_value_formats.Members.{trees_from_list}
use Rattle.kq_run_aggregates.specs.Ranks.{first_of, side_cmp, key_of, is_hollow, IsLast}
use Rattle.kq_run_aggregates.specs.declared.kind.Kind.{Kind}
use Rattle.kq_run_aggregates.specs.declared.kind.Kind.TheVariants as kind
use Rattle.kq_run_aggregates.specs.declared.kind.Side.TheVariants as side

-- what is kept of the rows of a group
pub data Kept : Type 0 where
  counted : ℕ → Kept
  summed : ℤ → Kept
  extreme : Option Value → Kept
  chosen : Option (List Value) → Kept
  collected : List Value → Kept

-- the first argument of each row
abbrev pub firsts : List (List Value) → List Value
firsts rows = map first_of rows

-- ---- sums

abbrev pub amount : Value → ℤ
amount v = unwrap_or (number_of v) (pos 0)

-- the exact sum of the values that aren't null
abbrev pub total : List Value → ℤ
total [] = pos 0
total (v ∷ vs) = amount v +ℤ total vs

-- ---- the least and the greatest

abbrev pub is_present : Value → Bool
is_present v = not (is_null v)

abbrev pub present : List Value → List Value
present vs = filter is_present vs

-- ---- rows

-- one of the rows, whose key is what is kept of all keys; one of no key only where no row has any
abbrev pub IsTakenBy : (Value → Value → Ordering) → List (List Value) → Option (List Value) → Type 0
IsTakenBy cmp rows None = rows ≡ []
IsTakenBy cmp rows (Some row) = Contains rows row × IsLast cmp (present (firsts rows)) (key_of row)

-- any one of the rows; a hollow one only where all are
abbrev pub IsAnyOf : List (List Value) → Option (List Value) → Type 0
IsAnyOf rows None = rows ≡ []
IsAnyOf rows (Some row) = Contains rows row × (is_hollow row ≡ true → All (λ r. is_hollow r ≡ true) rows)

-- ---- sets

-- an item of an array; one that nests as deep as none within an array may is null
abbrev pub shallow : Tree → Tree
shallow t = if nat_lt (tree_depth t) 127 then t else null

-- a value as an item of a set
abbrev pub tree_in : Value → Tree
tree_in v = shallow (item_of (in_range v))

-- whether a value is one of a set: no null, nor a dynamic that counts as null there
abbrev pub is_element : Value → Bool
is_element v = not (is_null v) && nat_lt (tree_depth (item_of v)) 127

abbrev pub elements : List Value → List Value
elements vs = filter is_element vs

-- different ones of the values, all of them where they are fewer than n, and else n
pub record IsSetOf (n : ℕ) (vs set : List Value) : Type 0 where
  pub distinct : IsDistinct is_same set
  pub within : All (Contains vs) set
  pub bounded : length set ≤ n
  pub complete : length set < n → All (Contains set) vs

-- ---- all aggregates

-- this is kept of these rows, by the aggregate
abbrev pub Holds : Kind → List (List Value) → Kept → Type 0
Holds kind.Count rows (counted n) = n ≡ length rows
Holds kind.Sum rows (summed z) = z ≡ total (firsts rows)
Holds kind.Min rows (extreme o) = IsLast (side_cmp side.Least) (present (firsts rows)) o
Holds kind.Max rows (extreme o) = IsLast (side_cmp side.Greatest) (present (firsts rows)) o
Holds kind.ArgMax rows (chosen o) = IsTakenBy (side_cmp side.Greatest) rows o
Holds kind.ArgMin rows (chosen o) = IsTakenBy (side_cmp side.Least) rows o
Holds kind.TakeAny rows (chosen o) = IsAnyOf rows o
Holds (kind.MakeSet n) rows (collected vs) = IsSetOf n (elements (firsts rows)) vs
Holds k rows kept = ⊥

-- a sum of timespans is a timespan, and any other a long
abbrev pub sum_in : List Ty → ℤ → Computed Value
sum_in (ty.Span ∷ ts) z = number_in ty.Span z
sum_in ts z = number_in ty.Long z

abbrev pub set_of : List Value → Value
set_of vs = Dynamic (dyn_of (array (trees_from_list (map tree_in vs))))

-- the cells that come of what was kept, in columns of these types: for nothing a null or an empty string in each
abbrev pub finished : List Ty → Kept → Computed (List Value)
finished ts (counted n) = Is (Long (pos n) ∷ [])
finished ts (summed z) = and_then (sum_in ts z) (λ v. Is (v ∷ []))
finished ts (extreme None) = Is (map missing_of ts)
finished ts (extreme (Some v)) = Is (v ∷ [])
finished ts (chosen None) = Is (map missing_of ts)
finished ts (chosen (Some row)) = Is row
finished ts (collected vs) = Is (set_of vs ∷ [])

-- the aggregate may give these cells, or an overflow, over these rows
abbrev pub Cell : Kind → List Ty → List (List Value) → Computed (List Value) → Type 0
Cell k ts rows c = (kept : Kept) × Holds k rows kept × (finished ts kept ≡ c)
