-- Texts and the entries that they write.
use Rattle.std.proofs.Common.{◌≡◌, true, false, [], ◌∷◌, Some, None, refl}
use Rattle.std.specs.Prelude.{codes}
use Rattle.serde_json.proofs.OnLiterals.{serde_json_on_literals}
use Rattle.kq_policy_entries.specs.PolicyTexts.{entry_of, entries_of, fault_of}
use Rattle.kq_policy_entries.specs.declared.json_fault.JsonFault.TheVariants.{NoArray, Full}

missing_members : entries_of (codes "[{\"Query\": \"A | count\", \"Source\": \"A\"}]")
    ≡ Some (Some (record { enabled = true; source = codes "A"; query = codes "A | count"; transactional = false; propagate = false }) ∷ [])
unfolding serde_json_on_literals entry_of entries_of
missing_members = refl

all_members : entries_of (codes "[{\"IsEnabled\":false,\"Source\":\"A\",\"Query\":\"B\",\"IsTransactional\":true,\"PropagateIngestionProperties\":true}]")
    ≡ Some (Some (record { enabled = false; source = codes "A"; query = codes "B"; transactional = true; propagate = true }) ∷ [])
unfolding serde_json_on_literals entry_of entries_of
all_members = refl

-- the last counts, whatever stands before it, and a name in another case is another name
same_name_twice : entries_of (codes "[{\"Source\":1,\"source\":2,\"Source\":\"B\",\"Query\":\"A\",\"Query\":\"C\"}]")
    ≡ Some (Some (record { enabled = true; source = codes "B"; query = codes "C"; transactional = false; propagate = false }) ∷ [])
unfolding serde_json_on_literals entry_of entries_of
same_name_twice = refl

-- null, a number, an object without a source and an empty array
no_entries : entries_of (codes "[{\"Source\":\"A\",\"Query\":\"A\",\"IsEnabled\":null},7,{\"Query\":\"A\"},[]]") ≡ Some (None ∷ None ∷ None ∷ None ∷ [])
unfolding serde_json_on_literals entry_of entries_of
no_entries = refl

empty_array : entries_of (codes " [ ] ") ≡ Some []
unfolding serde_json_on_literals entries_of
empty_array = refl

one_too_many : fault_of 1 (codes "[7, 7]") ≡ Some (Full 1)
unfolding serde_json_on_literals entry_of entries_of
one_too_many = refl

no_json : fault_of 1 (codes "[7, 7") ≡ Some NoArray
unfolding serde_json_on_literals entries_of
no_json = refl

no_array : fault_of 0 (codes "{}") ≡ Some NoArray
unfolding serde_json_on_literals entries_of
no_array = refl
