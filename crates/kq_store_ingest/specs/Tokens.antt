-- The dynamic that JSON is before its keys are put in order.
use Rattle.std.specs.Prelude.{ℕ, List, Option, option_and_then}
use Rattle.std.specs.Ordering.{nat_cmp, match_ordering}
use Rattle.std.specs.Cmp.Lexicographic.{slice_cmp}
use Rattle.json.specs.Json as json
use Rattle.serde_json.specs.Data.{Members}
use Rattle.serde_json.specs.Read.{of_json, of_items, of_members}
use Rattle.kq_value.specs.Tree.{Tree, Trees, Entries, no_entries, entry}
use Rattle.kq_value_formats.specs.Json.{tree_from, trees_from, entries_from}

-- a value of JSON as a dynamic
abbrev pub tree_in : json.Json → Option Tree
tree_in j = option_and_then tree_from (of_json j)

-- its items
abbrev pub trees_in : json.Items → Option Trees
trees_in js = option_and_then trees_from (of_items js)

-- its entries, put among those that came before
abbrev pub entries_in : Members → json.Members → Option Entries
entries_in before ms = option_and_then entries_from (of_members ms before)

-- the entries with t at k, in the order of their keys
abbrev pub put_entry : List ℕ → Tree → Entries → Entries
put_entry k t no_entries = entry k t no_entries
put_entry k t (entry l u es) = match_ordering (slice_cmp nat_cmp k l) (entry k t (entry l u es)) (entry l t es) (entry l u (put_entry k t es))
