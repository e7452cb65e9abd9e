-- What the operators and functions of dynamics give.
use Rattle.std.specs.Prelude.{ℕ, ◌+◌, ◌-◌, ℤ, pos, negsuc, List, [], ◌∷◌, length, slice_get, nat_le, if◌then◌else◌, Option, Some, None}
use Rattle.std.specs.declared.cmp.Ordering.{Ordering}
use Rattle.std.specs.Ordering.{is_le, nat_cmp, on, then_cmp}
use Rattle.kq_value.specs.Tree.{Tree, null, long, string, array, bag, Trees, no_items, item, items_of, keys_of}
use Rattle.kq_value.specs.Bags.{value_at}
use Rattle.kq_value.specs.TreeOrder.{tree_cmp}

-- the value at a key of a bag
abbrev pub at_key : Tree → List ℕ → Option Tree
at_key (bag es) key = value_at key es
at_key t key = None

-- the item at an index of an array, counted from the end where negative
abbrev pub item_at : List Tree → ℤ → Option Tree
item_at ts (pos i) = slice_get ts i
item_at ts (negsuc back) = if nat_le (back + 1) (length ts) then slice_get ts (length ts - (back + 1)) else None

abbrev pub at_index : Tree → ℤ → Option Tree
at_index (array ts) index = item_at (items_of ts) index
at_index t index = None

-- the number of an array's items
abbrev pub array_length : Tree → Option ℕ
array_length (array ts) = Some (length (items_of ts))
array_length t = None

-- a list as an array
abbrev pub trees_from_list : List Tree → Trees
trees_from_list [] = no_items
trees_from_list (t ∷ ts) = item t (trees_from_list ts)

abbrev pub strings : List (List ℕ) → Trees
strings [] = no_items
strings (text ∷ texts) = item (string text) (strings texts)

-- the keys of a bag, in byte order
abbrev pub bag_keys : Tree → Option Tree
bag_keys (bag es) = Some (array (strings (keys_of es)))
bag_keys t = None

-- numbers, then strings, then other items but nulls, then nulls
abbrev pub sorting_rank : Tree → ℕ
sorting_rank (long z) = 0
sorting_rank (string s) = 1
sorting_rank null = 3
sorting_rank t = 2

-- by this rank, and then by the total order
abbrev pub sorting_cmp : Tree → Tree → Ordering
sorting_cmp = then_cmp (on sorting_rank nat_cmp) tree_cmp

-- an item put before the first that isn't less, and so each item put in its place
abbrev pub put_in_order : Tree → List Tree → List Tree
put_in_order t [] = t ∷ []
put_in_order t (u ∷ us) = if is_le (sorting_cmp t u) then t ∷ u ∷ us else u ∷ put_in_order t us

abbrev pub in_order : List Tree → List Tree
in_order [] = []
in_order (t ∷ ts) = put_in_order t (in_order ts)

abbrev pub array_sort_asc : Tree → Option Tree
array_sort_asc (array ts) = Some (array (trees_from_list (in_order (items_of ts))))
array_sort_asc t = None
