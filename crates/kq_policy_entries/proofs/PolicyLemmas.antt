-- The entries of a text that is a JSON array, and the fault of one that is too long.
use Rattle.std.proofs.Common.{◌≡◌, ◌<◌, ◌≤◌, ℕ, suc, true, false, List, [], ◌∷◌, length, map, nat_lt, Some, None, refl, ap, arith}
use Rattle.std.proofs.lemmas.Bool.Decides.{nat_tests}
use Rattle.serde_json.specs.Find.{as_array}
use Rattle.serde_json.specs.Read.{read}
use Rattle.serde_json.specs.View.{view, items_view}
use Rattle.serde_json.specs.declared.value.Value.{Value}
use Rattle.kq_policy_entries.specs.PolicyTexts.{elements_of, entries_of, entry_of, fault_of}
use Rattle.kq_policy_entries.specs.declared.json_fault.JsonFault.TheVariants.{Full}

pub elements_of-items_view : (values : List Value) → elements_of (items_view values) ≡ map (λ value. entry_of (view value)) values
elements_of-items_view [] = refl
elements_of-items_view (value ∷ values) = ap (λ entries. entry_of (view value) ∷ entries) (elements_of-items_view values)

length-elements_of : (values : List Value) → length (elements_of (items_view values)) ≡ length values
length-elements_of [] = refl
length-elements_of (value ∷ values) = ap suc (length-elements_of values)

entries_of-array : (text : List ℕ) (array : Value) (values : List Value) → read text ≡ Some (view array) → Some (items_view values) ≡ as_array (view array)
    → entries_of text ≡ Some (elements_of (items_view values))
unfolding entries_of
entries_of-array text array values is holds = rw (is, ← holds) refl

pub fault_of-long : (limit : ℕ) (text : List ℕ) (array : Value) (values : List Value) → read text ≡ Some (view array) → Some (items_view values) ≡ as_array (view array)
    → limit < length values → fault_of limit text ≡ Some (Full limit)
fault_of-long limit text array values is holds long =
    let size = length-elements_of values in
    let over : nat_lt limit (length (elements_of (items_view values))) ≡ true = grind (arith, nat_tests) in
    rw (entries_of-array text array values is holds, over) refl

pub fault_of-within : (limit : ℕ) (text : List ℕ) (array : Value) (values : List Value) → read text ≡ Some (view array) → Some (items_view values) ≡ as_array (view array)
    → length values ≤ limit → fault_of limit text ≡ None
fault_of-within limit text array values is holds within =
    let size = length-elements_of values in
    let over : nat_lt limit (length (elements_of (items_view values))) ≡ false = grind (arith, nat_tests) in
    rw (entries_of-array text array values is holds, over) refl
