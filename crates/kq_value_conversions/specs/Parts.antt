-- The parts of dynamics, as cells.
use Rattle.std.specs.Prelude.{pos, Option, option_map, unwrap_or}
use Rattle.kq_value_formats.specs.Members.{at_key, at_index, array_length, array_sort_asc, bag_keys}
use Rattle.kq_value.specs.Tree.{Tree, null}
use Rattle.kq_value.specs.Seen.{tree_of, dyn_of}
use Rattle.kq_value.specs.declared.ty.Ty.TheVariants as ty
use Rattle.kq_value.specs.declared.dynamic.Dyn.TheVariants as dyn
use Rattle.kq_value.specs.declared.value.Value.{Value}
use Rattle.kq_value.specs.declared.value.Value.TheVariants.{Null, Long, Text, Dynamic}

-- the dynamic that was found, or the null of dynamics
abbrev pub or_null : Option Tree → Value
or_null found = Dynamic (dyn_of (unwrap_or found null))

-- KQL reference, dynamic object accessors: the value at a key of a bag, or the item at an index of an array, from the end where the index is
-- negative; null where nothing is there
abbrev pub member_of : Value → Value → Value
member_of (Dynamic d) (Text key) = or_null (at_key (tree_of d) key)
member_of (Dynamic d) (Long index) = or_null (at_index (tree_of d) index)
member_of v w = Dynamic dyn.Null

-- KQL reference, array_length(): the number of items of an array, and null of anything else
abbrev pub array_length_of : Value → Value
array_length_of (Dynamic d) = unwrap_or (option_map (λ n. Long (pos n)) (array_length (tree_of d))) (Null ty.Long)
array_length_of v = Null ty.Long

-- KQL reference, array_sort_asc(): the items in ascending order with the nulls last, and null of anything but an array
abbrev pub sorted_of : Value → Value
sorted_of (Dynamic d) = or_null (array_sort_asc (tree_of d))
sorted_of v = Dynamic dyn.Null

-- KQL reference, bag_keys(): the keys of a bag as an array, and null of anything else
abbrev pub keys_of : Value → Value
keys_of (Dynamic d) = or_null (bag_keys (tree_of d))
keys_of v = Dynamic dyn.Null
