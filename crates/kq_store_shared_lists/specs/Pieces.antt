-- The items of pieces.
use Rattle.std.specs.Prelude.{◌≡◌, ◌<◌, ◌≤◌, ◌^◌, ◌+◌, ℕ, List, ◌++◌, length, map, take, Some}
use Rattle.std.specs.List.{All, flat_map, slice_get}
use Rattle.std.specs.Arc.{arc_value}
use Rattle.kq_store_shared_lists.specs.declared.piece.Piece.{Piece, Leaf, Pair'}
use Rattle.kq_store_shared_lists.specs.declared.parts.Part.{Part}

abbrev pub piece_items : {T : Type 0} → Piece T → List T
piece_items (Leaf handles) = map arc_value handles.items
piece_items (Pair' p left count q right) = piece_items left ++ piece_items right

-- the numbers in the piece are those of the items on the left
abbrev pub HasCounts : {T : Type 0} → Piece T → Type 0
HasCounts (Leaf handles) = Unit {0}
HasCounts (Pair' p left count q right) = (count ≡ length (piece_items left)) × HasCounts left × HasCounts right

abbrev pub part_items : {T : Type 0} → Part T → List T
part_items p = piece_items (arc_value p.piece)

-- the items of parts, one after another
abbrev pub items_in : {T : Type 0} → List (Part T) → List T
items_in parts = flat_map (λ p. part_items p) parts

-- the part knows how many items it has
pub record IsCounted {T : Type 0} (p : Part T) : Type 0 where
  pub len : p.len ≡ length (part_items p)
  pub counts : HasCounts (arc_value p.piece)

abbrev pub AreCounted : {T : Type 0} → List (Part T) → Type 0
AreCounted parts = All (λ p. IsCounted p) parts

-- a place in the items of parts lies in this part, or behind them all, and this far in it
pub record LeadsTo {T : Type 0} (parts : List (Part T)) (at index rest : ℕ) : Type 0 where
  pub within : index ≤ length parts
  pub before : length (items_in (take index parts)) + rest ≡ at
  pub inside : (p : Part T) → slice_get parts index ≡ Some p → rest < length (part_items p)

-- the length is that of all items, and its parts know theirs
pub record IsWhole {T : Type 0} (parts : List (Part T)) (tail : List T) (len : ℕ) : Type 0 where
  pub counted : AreCounted parts
  pub total : len ≡ length (items_in parts ++ tail)
  pub small : len < 2 ^ 63
