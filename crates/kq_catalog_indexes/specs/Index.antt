-- What an index of names holds.
use Rattle.std.specs.Prelude.{◌≡◌, ◌<◌, ◌≤◌, ℕ, List, length, Some}
use Rattle.std.specs.List.{All, AllWithin, HoldsAt, Contains}
use Rattle.std.specs.List.Sorted.{IsSortedByKey}
use Rattle.std.specs.declared.cmp.Ordering.{Ordering}
use Rattle.std.specs.declared.cmp.Ordering.TheVariants.{Less, Greater}
use Rattle.std.specs.Ordering.{nat_cmp}
use Rattle.std.specs.Cmp.Lexicographic.{slice_cmp}
use Rattle.kq_catalog_indexes.specs.declared.entry.Entry.{Entry}
use Rattle.kq_catalog_indexes.specs.Places.{place_of}

abbrev pub name_cmp : List ℕ → List ℕ → Ordering
name_cmp = slice_cmp nat_cmp

-- no name comes before one that stands before it
abbrev pub AreSorted : List Entry → Type 0
AreSorted entries = IsSortedByKey (λ (e : Entry). e.name) name_cmp entries

-- the entry at the place has the name
pub record HasNameAt (name : List ℕ) (entries : List Entry) (at : ℕ) : Type 0 where
  pub within : at < length entries
  pub same : HoldsAt (λ (e : Entry). e.name ≡ name) entries at

-- lesser names stand before the place, and greater ones from there on
pub record IsGapFor (name : List ℕ) (entries : List Entry) (at : ℕ) : Type 0 where
  pub within : at ≤ length entries
  pub before : AllWithin (λ (e : Entry). name_cmp e.name name ≡ Less) entries 0 at
  pub behind : AllWithin (λ (e : Entry). name_cmp e.name name ≡ Greater) entries at (length entries)

-- the entry's number is the place of its name
abbrev pub IsPlaced : List (List ℕ) → Entry → Type 0
IsPlaced names e = place_of e.name names ≡ Some e.number

-- the entries are sorted, and are just the names with their places
pub record IsIndex (names : List (List ℕ)) (entries : List Entry) : Type 0 where
  pub sorted : AreSorted entries
  pub placed : All (IsPlaced names) entries
  pub whole : (name : List ℕ) (k : ℕ) → place_of name names ≡ Some k → Contains entries (record { name = name; number = k })
