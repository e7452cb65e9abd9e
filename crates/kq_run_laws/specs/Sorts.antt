-- Rows in order of their keys, as a sort gives them.
use Rattle.std.specs.Prelude.{◌≡◌, ◌⊎◌, ℕ, Bool, true, false, List, [], ◌∷◌, map, take}
use Rattle.std.specs.List.{All, AllPairs}
use Rattle.std.specs.List.Sorted.{IsPermutation}
use Rattle.std.specs.declared.cmp.Ordering.TheVariants.{Less}
use Rattle.kq_value.specs.Computed.{Is}
use Rattle.kq_run_sort.specs.Orders.{Row, keys_at}
use Rattle.kq_plan.specs.Plans.{Sorting}
use Rattle.kq_run_gather.specs.kq_eval_row.Val.{Surroundings}
use Rattle.kq_value.specs.declared.ty.Ty.{Ty}
use Rattle.kq_value.specs.declared.value.Value.{Value}
use Rattle.kq_value.specs.declared.value.Value.TheVariants as cell
use Rattle.kq_value.specs.Values.{value_cmp}

abbrev pub IsNull : Value → Type 0
IsNull v = (t : Ty) × (v ≡ cell.Null t)

-- the lesser goes first, or the greater where rows descend
abbrev pub IsOrdered : Bool → Value → Value → Type 0
IsOrdered false v w = value_cmp v w ≡ Less
IsOrdered true v w = value_cmp w v ≡ Less

-- of two values of a key the null goes first or last, as the key says, and else the values decide
pub data GoesFirst (k : Sorting) (v w : Value) : Type 0 where
  null_first : k.nulls_first ≡ true → IsNull v → (IsNull w → ⊥) → GoesFirst k v w
  null_last : k.nulls_first ≡ false → (IsNull v → ⊥) → IsNull w → GoesFirst k v w
  by_value : (IsNull v → IsNull w) → (IsNull w → IsNull v) → IsOrdered k.descending v w → GoesFirst k v w

-- of two rows, by the values of their keys, the first that differ decide
abbrev pub GoesBefore : List Sorting → Row → Row → Type 0
GoesBefore (k ∷ ks) (v ∷ vs) (w ∷ ws) = GoesFirst k v w ⊎ ((v ≡ w) × GoesBefore ks vs ws)
GoesBefore _ _ _ = ⊥

-- the values of its keys, and the row
abbrev pub Keyed : Type 0
Keyed = Row × Row

abbrev pub keys_of : Keyed → Row
keys_of p = p.0

abbrev pub row_of : Keyed → Row
row_of p = p.1

abbrev pub IsKeyed : List Sorting → Surroundings → Keyed → Type 0
IsKeyed ks s p = keys_at ks s (row_of p) ≡ Is (keys_of p)

-- the second need not go before the first; where neither goes before the other, they may stand either way
abbrev pub MayPrecede : List Sorting → Keyed → Keyed → Type 0
MayPrecede ks p q = GoesBefore ks (keys_of q) (keys_of p) → ⊥

-- the same rows, each of which has its keys, and none behind one that it goes before
pub record IsInKeyOrder (ks : List Sorting) (s : Surroundings) (rows out : List Row) : Type 0 where
  pub moved : IsPermutation rows out
  pub pairs : List Keyed
  pub are : map row_of pairs ≡ out
  pub keyed : All (IsKeyed ks s) pairs
  pub up : AllPairs (MayPrecede ks) pairs

-- the first n rows of one such order by a key, or all where there are fewer
abbrev pub IsFirst : ℕ → Sorting → Surroundings → List Row → List Row → Type 0
IsFirst n k s rows few = (out : List Row) × IsInKeyOrder (k ∷ []) s rows out × (few ≡ take n out)
