-- What each step on a word tells the seat that makes it: the seat before, the number found or stored, the seat after.
use Rattle.std.specs.Prelude.{◌≡◌, ◌==◌, ℕ, false, List, [], ◌∷◌, Option, Some, All, MatchBool}
use mathlib.Core.List.{IsPrefix}
use Rattle.atomic_table.specs.Table.{Me, Step}
use Rattle.kq_lock.specs.declared.view.View.{View}
use Rattle.kq_lock.specs.Views.{taking_view, counted_view, given_view}

module _ {S E : Type 0} where
  -- the seat has no slot, and its view doesn't hold
  abbrev pub HasNothing : Me (Option S) (View E) → Type 0
  HasNothing m = (m.0.holds ≡ false) × (m.1 ≡ [])

  -- the seat has the slot, with this value in it
  abbrev pub HasValue : Me (Option S) (View E) → S → Type 0
  HasValue m x = m.1 ≡ (0, Some x) ∷ []

module _ {S E : Type 0} (history : S → List E) (fixed : S → List ℕ) where
  -- `won take`: the slot goes out with a value that begins with all that was seen
  abbrev pub Takes : Me (Option S) (View E) → Me (Option S) (View E) → Type 0
  Takes m w = (x : S) × (w ≡ (taking_view m.0 (history x), (0, Some x) ∷ [])) × IsPrefix m.0.seen (history x) × (fixed x ≡ m.0.fixed)

  -- that, where the turn was 0, and else `lost take`
  abbrev pub TakesOrNot : Step (Option S) → Me (Option S) (View E) → ℕ → Me (Option S) (View E) → Type 0
  TakesOrNot _ m found w = MatchBool (found == 0) (Takes m w) (w ≡ m)

module _ {S E : Type 0} (history : S → List E) where
  -- `count store`, at the value in the seat's slot
  abbrev pub Counts : Step (Option S) → Me (Option S) (View E) → ℕ → Me (Option S) (View E) → Type 0
  Counts _ m _ w = (x : S) → HasValue m x → w ≡ (counted_view m.0 (history x), m.1)

module _ {S E : Type 0} where
  -- `turn store`: the slot comes home
  abbrev pub GivesBack : Step (Option S) → Me (Option S) (View E) → ℕ → Me (Option S) (View E) → Type 0
  GivesBack _ m _ w = w ≡ (given_view m.0, [])

  -- `count load`: all that was seen begins one history
  abbrev pub Learns : Step (Option S) → Me (Option S) (View E) → ℕ → Me (Option S) (View E) → Type 0
  Learns _ m _ w = (w ≡ m) × ((h : List E) × IsPrefix m.0.seen h × All (λ old. IsPrefix old h) m.0.olds)
