-- The hash of a value.
use Rattle.std.specs.Prelude.{ℕ, ◌*◌, ◌/◌, ◌%◌, ◌^◌, ℤ, Bool, true, false, List, [], ◌∷◌, bit_xor}
use Rattle.std.specs.Int.{cast_unsigned, w64}
use Rattle.kq_value.specs.Tree.{Tree, null, bool, long, string, array, bag, Trees, no_items, item, Entries, no_entries, entry}
use Rattle.kq_value.specs.Seen.{tree_of}
use Rattle.kq_value.specs.Values.{value_kind}
use Rattle.kq_value.specs.declared.value.Value.{Value}
use Rattle.kq_value.specs.declared.value.Value.TheVariants.{Null, Long, Int, Text, Bool as Truth, Moment, Span, Dynamic}

-- one step of FNV-1a: the word goes in by xor, and a product of 64 bits follows
abbrev pub step : ℕ → ℕ → ℕ
step h w = (bit_xor h w * 0x100_0000_01b3) % 2 ^ 64

-- the upper bits go into the lower ones
abbrev pub fold_down : ℕ → ℕ
fold_down h = bit_xor h (h / 2 ^ 33)

-- the finish of MurmurHash3: each bit of the state moves half of the bits of the result
abbrev pub finish : ℕ → ℕ
finish h = fold_down ((fold_down ((fold_down h * 0xff51_afd7_ed55_8ccd) % 2 ^ 64) * 0xc4ce_b9fe_1a85_ec53) % 2 ^ 64)

-- where FNV-1a begins
abbrev pub seed : ℕ
seed = 0xcbf2_9ce4_8422_2325

-- a number of 64 signed bits, as its bits
abbrev pub word : ℤ → ℕ
word z = cast_unsigned w64 z

abbrev pub bit : Bool → ℕ
bit true = 1
bit false = 0

abbrev pub bytes_hash : ℕ → List ℕ → ℕ
bytes_hash h [] = h
bytes_hash h (b ∷ bs) = bytes_hash (step h b) bs

-- each value goes in as its kind and what is in it; the end of an array or a bag is a kind of its own
abbrev mutual
  pub tree_hash : ℕ → Tree → ℕ
  tree_hash h null = step h 0
  tree_hash h (bool b) = step (step h 1) (bit b)
  tree_hash h (long z) = step (step h 2) (word z)
  tree_hash h (string bs) = bytes_hash (step h 3) bs
  tree_hash h (array ts) = trees_hash (step h 4) ts
  tree_hash h (bag es) = entries_hash (step h 5) es

  pub trees_hash : ℕ → Trees → ℕ
  trees_hash h no_items = step h 6
  trees_hash h (item t ts) = trees_hash (tree_hash h t) ts

  pub entries_hash : ℕ → Entries → ℕ
  entries_hash h no_entries = step h 6
  entries_hash h (entry k t es) = entries_hash (tree_hash (bytes_hash (step h 3) k) t) es

-- what is in a value, after its kind
abbrev pub content_hash : ℕ → Value → ℕ
content_hash h (Null t) = h
content_hash h (Long z) = step h (word z)
content_hash h (Int z) = step h (word z)
content_hash h (Text bs) = bytes_hash h bs
content_hash h (Truth b) = step h (bit b)
content_hash h (Moment z) = step h (word z)
content_hash h (Span z) = step h (word z)
content_hash h (Dynamic d) = tree_hash h (tree_of d)

abbrev pub hash_of : Value → ℕ
hash_of v = finish (content_hash (step seed (value_kind v)) v)

-- the hashes of the cells, one after another
abbrev pub cells_hash : ℕ → List Value → ℕ
cells_hash h [] = h
cells_hash h (v ∷ vs) = cells_hash (step h (hash_of v)) vs

abbrev pub row_hash : List Value → ℕ
row_hash vs = finish (cells_hash seed vs)
