-- What an index of tags finds, and an index with more.
use Rattle.std.specs.Prelude.{◌≡◌, ℕ, ◌/◌, ◌^◌, Bool, ◌&&◌, List, [], ◌∷◌, Option, Some, None, nat_eq, bit_xor, if◌then◌else◌}
use Rattle.std.specs.Cmp.Lexicographic.{pointwise}
use Rattle.std.specs.Option.{option_or}
use Rattle.kq_value.specs.Hash.{seed, step, bytes_hash}
use Rattle.kq_catalog_indexes.specs.declared.tag_entry.Entry.{Entry}

-- whether a tag of a table is another, by the tables' numbers
abbrev pub is_key : ℕ → List ℕ → ℕ → List ℕ → Bool
is_key t tag u other = nat_eq t u && pointwise nat_eq tag other

-- the cursor of a tag of a table
abbrev pub cursor_at : List Entry → ℕ → List ℕ → Option ℕ
cursor_at [] t tag = None
cursor_at (e ∷ es) t tag = if is_key e.table e.tag t tag then Some e.cursor else cursor_at es t tag

-- a cursor, where there is one to give
abbrev pub given_if : Bool → ℕ → Option ℕ
given_if given cursor = if given then Some cursor else None

-- what had a cursor keeps it, and of the rest those that pass a test get this one
pub record AddsTags (old : List Entry) (test : ℕ → List ℕ → Bool) (cursor : ℕ) (new : List Entry) : Type 0 where
  pub is : (t : ℕ) (tag : List ℕ) → cursor_at new t tag ≡ option_or (cursor_at old t tag) (given_if (test t tag) cursor)

-- where a tag of a table is looked for
abbrev pub key_hash : ℕ → List ℕ → ℕ
key_hash t tag = let h = bytes_hash (step seed t) tag in bit_xor h (h / 2 ^ 32)
