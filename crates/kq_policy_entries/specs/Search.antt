-- What a search goes through: the tables that were found, and of those the open ones, whose sources are still to be looked at.
use Rattle.std.specs.Prelude.{◌≡◌, ◌≢◌, ◌⊎◌, ◌+◌, ℕ, Bool, true, false, List, [], ◌∷◌, ◌++◌, length, slice_index_or, set, if◌then◌else◌, Contains}
use Rattle.kq_catalog_journal.specs.declared.policy.Entry.{Entry}

-- an entry among these has this source
pub record HasSource (entries : List Entry) (source : ℕ) : Type 0 where
  pub entry : Entry
  pub stands : Contains entries entry
  pub names : entry.source ≡ source

-- whether a table was found; what is no table needn't be
abbrev pub is_marked : List Bool → ℕ → Bool
is_marked marked table = slice_index_or marked table true

-- the number of tables that weren't
abbrev pub unmarked : List Bool → ℕ
unmarked [] = 0
unmarked (true ∷ bs) = unmarked bs
unmarked (false ∷ bs) = unmarked bs + 1

-- with one table found
abbrev pub marked_with : List Bool → ℕ → List Bool
marked_with marked table = if is_marked marked table then marked else set marked table true

abbrev pub open_with : List Bool → List ℕ → ℕ → List ℕ
open_with marked open_ones table = if is_marked marked table then open_ones else open_ones ++ table ∷ []

-- the sources of entries were added to what was found and what is open; the target isn't among them
pub record AddsSources (entries : List Entry) (target : ℕ) (marked : List Bool) (open_ones : List ℕ) (marked_after : List Bool) (open_after : List ℕ) : Type 0 where
  pub count : unmarked marked_after + length open_after ≡ unmarked marked + length open_ones
  pub kept : (t : ℕ) → is_marked marked t ≡ true → is_marked marked_after t ≡ true
  pub stay : (t : ℕ) → Contains open_ones t → Contains open_after t
  pub fresh : (t : ℕ) → is_marked marked_after t ≡ true → (is_marked marked t ≡ true) ⊎ Contains open_after t
  pub came : (t : ℕ) → Contains open_after t → Contains open_ones t ⊎ HasSource entries t
  pub all : (s : ℕ) → HasSource entries s → (s ≢ target) × (is_marked marked_after s ≡ true)
