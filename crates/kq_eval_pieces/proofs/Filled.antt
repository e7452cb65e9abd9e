-- A row that is filled cell by cell.
use Rattle.std.proofs.Common.{◌≡◌, ◌+◌, ℕ, List, [], ◌∷◌, ◌++◌, Option, Some, length, take, inl, inr, sym, ap, ◌∙◌, length-append}
use Rattle.std.specs.List.{slice_get}
use Rattle.std.proofs.lemmas.List.{take_all, take_more}
use Rattle.std.proofs.lemmas.Option.{get_or_from_slice_get, slice_get_cases, slice_get_within}
use Rattle.kq_value.specs.declared.value.Value.{Value}

-- one cell more
pub cell_next : (r row : List Value) (v : Value) → row ≡ take (length row) r → slice_get r (length row) ≡ Some v → row ++ v ∷ [] ≡ take (length (row ++ v ∷ [])) r
cell_next r row v is got =
    let n = length row in
    let within = slice_get_within r n v got in
    let long : length (row ++ v ∷ []) ≡ n + 1 = length-append row (v ∷ []) in
    (λ t. is t ++ sym (get_or_from_slice_get r n v v got) t ∷ []) ∙ sym (take_more r n v within) ∙ ap (λ (k : ℕ). take k r) (sym long)

-- past the last cell
pub cells_end : (r row : List Value) (o : Option Value) → row ≡ take (length row) r → o ≡ slice_get r (length row) → ((v : Value) → o ≡ Some v → ⊥) → row ≡ r
cells_end r row o is at none =
    elim (slice_get_cases r (length row)).1 [
      | inl got ↦ absurd (none got.0 (at ∙ got.2))
      | inr past ↦ is ∙ take_all (length row) r past.0
    ]
