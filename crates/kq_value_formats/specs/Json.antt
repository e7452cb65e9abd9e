-- The written forms of dynamics.
use Rattle.std.specs.Prelude.{ℕ, ℤ, pos, negsuc, List, Option, Some, option_map, option_and_then, unwrap_or}
use Rattle.serde_json.specs.Data as json
use Rattle.serde_json.specs.Data.{Num, Data, Items, Members}
use Rattle.serde_json.specs.Find.{as_i64}
use Rattle.serde_json.specs.Read.{read}
use Rattle.serde_json.specs.Written.{compact_text}
use Rattle.kq_value.specs.Tree.{Tree, null, bool, long, string, array, bag, Trees, no_items, item, Entries, no_entries, entry}

-- JSON data as a dynamic, where each number is whole and of 64 signed bits
abbrev mutual
  pub tree_from : Data → Option Tree
  tree_from json.null = Some null
  tree_from (json.boolean b) = Some (bool b)
  tree_from (json.number n) = option_map long (as_i64 n)
  tree_from (json.string s) = Some (string s)
  tree_from (json.array ds) = option_map array (trees_from ds)
  tree_from (json.object ms) = option_map bag (entries_from ms)

  pub trees_from : Items → Option Trees
  trees_from json.no_items = Some no_items
  trees_from (json.item d ds) = option_and_then (λ t. option_map (item t) (trees_from ds)) (tree_from d)

  pub entries_from : Members → Option Entries
  entries_from json.no_members = Some no_entries
  entries_from (json.member k d ms) = option_and_then (λ t. option_map (entry k t) (entries_from ms)) (tree_from d)

abbrev pub num_from : ℤ → Num
num_from (pos n) = json.unsigned n
num_from (negsuc n) = json.negative (negsuc n)

-- a dynamic as JSON data
abbrev mutual
  pub data_from : Tree → Data
  data_from null = json.null
  data_from (bool b) = json.boolean b
  data_from (long z) = json.number (num_from z)
  data_from (string s) = json.string s
  data_from (array ts) = json.array (items_from ts)
  data_from (bag es) = json.object (members_from es)

  pub items_from : Trees → Items
  items_from no_items = json.no_items
  items_from (item t ts) = json.item (data_from t) (items_from ts)

  pub members_from : Entries → Members
  members_from no_entries = json.no_members
  members_from (entry k t es) = json.member k (data_from t) (members_from es)

-- the dynamic that a text writes as JSON
unfoldable pub json_of : List ℕ → Option Tree
json_of text = option_and_then tree_from (read text)

-- any other text is kept as a dynamic string
abbrev pub dynamic_of : List ℕ → Tree
dynamic_of text = unwrap_or (json_of text) (string text)

-- compact JSON, a bag's keys in byte order
unfoldable pub dynamic_text : Tree → List ℕ
dynamic_text t = compact_text (data_from t)
