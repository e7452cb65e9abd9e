-- Bags by their members.
use Rattle.std.specs.Prelude.{◌<◌, ◌^◌, ℕ, List, [], ◌∷◌, map, slice_get, unwrap_or}
use Rattle.std.specs.List.{range_with_len}
use Rattle.kq_value.specs.Bags.{IsBag}
use Rattle.kq_value.specs.Seen.{tree_of}
use Rattle.kq_value.specs.Tree.{Entries, no_entries, entry}
use Rattle.kq_value.specs.declared.dynamic.Dyn.{Dyn}
use Rattle.kq_value.specs.declared.dynamic.Dyn.TheVariants as dyn
use Rattle.kq_value.specs.declared.value.Value.{Value}
use Rattle.kq_value.specs.declared.value.Value.TheVariants.{Dynamic}
use Rattle.kq_store_column_view.specs.declared.bags.Part.{Part}

-- the member that the bag at a place has at the key, and null past the end
abbrev pub member_in : Part → ℕ → Dyn
member_in p i = unwrap_or (slice_get p.members.items i) dyn.Null

-- each key with its member at a place
abbrev pub entries_at : List Part → ℕ → Entries
entries_at [] i = no_entries
entries_at (p ∷ ps) i = entry p.key (tree_of (member_in p i)) (entries_at ps i)

abbrev pub bag_at : List Part → ℕ → Value
bag_at parts i = Dynamic (dyn.Bag (entries_at parts i))

-- so many bags, from the first members on
abbrev pub bags_in : List Part → ℕ → List Value
bags_in parts count = map (bag_at parts) (range_with_len 0 count)

-- the keys are those of a bag, whose members nest no deeper than they may
pub record AreBags (parts : List Part) (count : ℕ) : Type 0 where
  pub bags : (i : ℕ) → i < count → IsBag (entries_at parts i)
  pub small : count < 2 ^ 63
