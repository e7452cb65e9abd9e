-- The entries of an update policy that a text writes as JSON, and what is wrong with the whole.
use Rattle.std.specs.Prelude.{ℕ, Bool, true, false, if◌then◌else◌, nat_lt, List, [], ◌∷◌, length, codes, Option, Some, None, option_map, option_and_then}
use Rattle.std.specs.Option.{option_map_or}
use Rattle.serde_json.specs.Data.{Data, Items, no_items, item}
use Rattle.serde_json.specs.Find.{as_array, as_bool, as_str, get}
use Rattle.serde_json.specs.Read.{read}
use Rattle.kq_policy_entries.specs.declared.written.Written.{Written}
use Rattle.kq_policy_entries.specs.declared.json_fault.JsonFault.{JsonFault}
use Rattle.kq_policy_entries.specs.declared.json_fault.JsonFault.TheVariants.{NoArray, Full}

-- What an object has under a name is what `serde_json` keeps there: where the name stands more than once, the last counts.
-- What is no object has nothing under any name.

-- the string under a name; none where nothing stands there, or something else
abbrev pub string_at : List ℕ → Data → Option (List ℕ)
string_at name d = option_and_then as_str (get name d)

-- the bool under a name, or `otherwise` where nothing stands there; none where something else does, as null
abbrev pub bool_at : List ℕ → Bool → Data → Option Bool
bool_at name otherwise d = option_map_or as_bool (get name d) (Some otherwise)

-- the entry of these members, where it has them all
abbrev pub entry_from : Option Bool → Option (List ℕ) → Option (List ℕ) → Option Bool → Option Bool → Option Written
entry_from (Some enabled) (Some source) (Some query) (Some transactional) (Some propagate) =
    Some (record { enabled = enabled; source = source; query = query; transactional = transactional; propagate = propagate })
entry_from enabled source query transactional propagate = None

-- the entry that an object writes; other members are ignored
unfoldable pub entry_of : Data → Option Written
entry_of d =
    entry_from (bool_at (codes "IsEnabled") true d) (string_at (codes "Source") d) (string_at (codes "Query") d)
    (bool_at (codes "IsTransactional") false d) (bool_at (codes "PropagateIngestionProperties") false d)

-- of each element of an array, the entry that it is, or none
abbrev pub elements_of : Items → List (Option Written)
elements_of no_items = []
elements_of (item d ds) = entry_of d ∷ elements_of ds

-- the elements of a text that is a JSON array, or none of another text
unfoldable pub entries_of : List ℕ → Option (List (Option Written))
entries_of text = option_map elements_of (option_and_then as_array (read text))

-- what is wrong with the whole, whatever its elements are: it is no array, or one of more than `limit` elements
abbrev pub fault_among : ℕ → Option (List (Option Written)) → Option JsonFault
fault_among limit None = Some NoArray
fault_among limit (Some entries) = if nat_lt limit (length entries) then Some (Full limit) else None

abbrev pub fault_of : ℕ → List ℕ → Option JsonFault
fault_of limit text = fault_among limit (entries_of text)
