-- The entries of trees, and where they stand.
use Rattle.std.specs.Prelude.{◌≡◌, ℕ, ◌+◌, ◌/◌, ◌%◌, ◌^◌, ◌<◌, Bool, true, false, not, List, ◌++◌, None, nat_eq}
use Rattle.kq_catalog_indexes.specs.declared.tag_entry.Entry.{Entry}
use Rattle.kq_catalog_indexes.specs.declared.tag_tree.Tree.{Tree, Leaf, Fork'}
use Rattle.kq_catalog_indexes.specs.Tags.{cursor_at, key_hash}

abbrev pub entries_of : Tree → List Entry
entries_of (Leaf entries) = entries.items
entries_of (Fork' p left q right) = entries_of left ++ entries_of right

-- whether a hash goes to the right at a level
abbrev pub goes_right : ℕ → ℕ → Bool
goes_right level hash = nat_eq (hash / 2 ^ level % 2) 1

-- whether an entry goes there
abbrev pub is_right : ℕ → Entry → Bool
is_right level e = goes_right level (key_hash e.table e.tag)

-- entries that all go to one side find nothing of the other
pub record IsSide (level : ℕ) (right : Bool) (entries : List Entry) : Type 0 where
  pub none : (t : ℕ) (tag : List ℕ) → goes_right level (key_hash t tag) ≡ not right → cursor_at entries t tag ≡ None

-- at each fork a bit is left, and what goes to one side stands there
abbrev pub ArePlaced : ℕ → Tree → Type 0
ArePlaced level (Leaf entries) = Unit {0}
ArePlaced level (Fork' p left q right) = (level < 64) × IsSide level false (entries_of left) × IsSide level true (entries_of right) × ArePlaced (level + 1) left × ArePlaced (level + 1) right

-- two lists of entries find the same
pub record FindAlike (one other : List Entry) : Type 0 where
  pub is : (t : ℕ) (tag : List ℕ) → cursor_at one t tag ≡ cursor_at other t tag
