-- The different keys of rows, by number, and how they are found.
use Rattle.std.specs.Prelude.{◌≡◌, ◌<◌, ◌≤◌, ◌+◌, ◌-◌, ◌*◌, ◌%◌, ◌^◌, ℕ, min, List, [], ◌∷◌, ◌++◌, Option, Some, None, bit_and, get_or, length, map}
use Rattle.std.specs.List.{All}
use Rattle.kq_store_rows.specs.Chunks.{HasWidth, row_at}
use Rattle.kq_run_aggregates.specs.Alone.{alone}
use Rattle.kq_store_column_view.specs.Vectors.{cell_of}
use Rattle.kq_value.specs.declared.value.Value.{Value}
use Rattle.kq_value.specs.Hash.{hash_of}
use Rattle.kq_value.specs.Same.{times}
use Rattle.kq_run_groups.specs.declared.key_table.KeyTable.{KeyTable}

-- the hashes of the cells, one after another
abbrev pub hash_from : ℕ → List Value → ℕ
hash_from h [] = h
hash_from h (v ∷ vs) = hash_from (((h * 0x9e37_79b9_7f4a_7c15) % 2 ^ 64 + hash_of v) % 2 ^ 64) vs

abbrev pub key_hash : List Value → ℕ
key_hash key = hash_from 0 key

-- the head of the chain of a hash: its lowest bits, where the heads are a power of two
abbrev pub head_of : ℕ → ℕ → ℕ
head_of heads hash = bit_and hash (heads - 1)

-- no two keys are equal, and each is a link of the chain behind the head of its hash
pub record IsTable (t : KeyTable) : Type 0 where
  pub some : 0 < t.heads
  pub hashed : t.hashes.items ≡ map key_hash t.keys
  pub filed : t.chain ≡ record { heads = t.heads; added = map (head_of t.heads) t.hashes.items }
  pub wide : All (HasWidth t.width) t.keys
  pub apart : (k : List Value) → times k t.keys ≤ 1
  pub few : length t.keys < 2 ^ 32

-- these are the numbers of the rows among the keys
abbrev pub AreNumbers : List (List Value) → List ℕ → List (List Value) → Type 0
AreNumbers keys [] [] = Unit {0}
AreNumbers keys [] (r ∷ rows) = ⊥
AreNumbers keys (n ∷ ns) [] = ⊥
AreNumbers keys (n ∷ ns) (r ∷ rows) = (n < length keys) × (row_at keys n ≡ r) × AreNumbers keys ns rows

-- rows got these numbers: to the keys that were there came last those of the rows that weren't, each once
pub record Numbers (old new : List (List Value)) (numbers : List ℕ) (rows : List (List Value)) : Type 0 where
  pub are : AreNumbers new numbers rows
  pub added : List (List Value)
  pub whole : new ≡ old ++ added
  pub counts : (k : List Value) → times k new ≡ min 1 (times k old + times k rows)

-- a number that is noted for a code is that of its word
abbrev pub AreKnown : List (List Value) → List Value → List (Option ℕ) → Type 0
AreKnown keys words known = (c n : ℕ) → get_or known c None ≡ Some n → (n < length keys) × (row_at keys n ≡ alone (cell_of words c))
