-- Bags.
use Rattle.std.specs.Prelude.{◌≡◌, ◌<◌, ℕ, List, nat_eq, if◌then◌else◌, Option, Some, None}
use Rattle.std.specs.declared.cmp.Ordering.TheVariants.{Less}
use Rattle.std.specs.Ordering.{nat_cmp}
use Rattle.std.specs.Cmp.Lexicographic.{pointwise, slice_cmp}
use Rattle.kq_value.specs.Tree.{Tree, Entries, no_entries, entry, entries_depth}

-- the key stands before the first of the entries
abbrev pub IsBefore : List ℕ → Entries → Type 0
IsBefore k no_entries = Unit {0}
IsBefore k (entry l t es) = slice_cmp nat_cmp k l ≡ Less

-- the keys stand in byte order, each once
abbrev pub KeysAscend : Entries → Type 0
KeysAscend no_entries = Unit {0}
KeysAscend (entry k t es) = IsBefore k es × KeysAscend es

-- what is true of every bag
pub record IsBag (es : Entries) : Type 0 where
  pub keys_ascend : KeysAscend es
  pub shallow : entries_depth es < 127

-- one more entry at the end
abbrev pub push_entry : Entries → List ℕ → Tree → Entries
push_entry no_entries k t = entry k t no_entries
push_entry (entry l u es) k t = entry l u (push_entry es k t)

-- the key stands after the last of the entries
abbrev pub IsAfter : List ℕ → Entries → Type 0
IsAfter k no_entries = Unit {0}
IsAfter k (entry l t no_entries) = slice_cmp nat_cmp l k ≡ Less
IsAfter k (entry l t (entry j u es)) = IsAfter k (entry j u es)

-- the value at a key
abbrev pub value_at : List ℕ → Entries → Option Tree
value_at k no_entries = None
value_at k (entry l t es) = if pointwise nat_eq l k then Some t else value_at k es
