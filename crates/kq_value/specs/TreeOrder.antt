-- The total order of dynamics.
use Rattle.std.specs.Prelude.{ℕ}
use Rattle.std.specs.declared.cmp.Ordering.{Ordering}
use Rattle.std.specs.declared.cmp.Ordering.TheVariants.{Less, Equal, Greater}
use Rattle.std.specs.Ordering.{nat_cmp, int_cmp, bool_cmp, ordering_then}
use Rattle.std.specs.Cmp.Lexicographic.{slice_cmp}
use Rattle.kq_value.specs.Tree.{Tree, null, bool, long, string, array, bag, Trees, no_items, item, Entries, no_entries, entry}

-- null, then bool, number, string, array, bag
abbrev pub tree_kind : Tree → ℕ
tree_kind null = 0
tree_kind (bool b) = 1
tree_kind (long z) = 2
tree_kind (string bs) = 3
tree_kind (array ts) = 4
tree_kind (bag es) = 5

-- by kind; arrays item by item, and a prefix first; bags as arrays of key and value
abbrev mutual
  pub tree_cmp : Tree → Tree → Ordering
  tree_cmp (bool a) (bool b) = bool_cmp a b
  tree_cmp (long a) (long b) = int_cmp a b
  tree_cmp (string a) (string b) = slice_cmp nat_cmp a b
  tree_cmp (array a) (array b) = trees_cmp a b
  tree_cmp (bag a) (bag b) = entries_cmp a b
  tree_cmp a b = nat_cmp (tree_kind a) (tree_kind b)

  pub trees_cmp : Trees → Trees → Ordering
  trees_cmp no_items no_items = Equal
  trees_cmp no_items (item u us) = Less
  trees_cmp (item t ts) no_items = Greater
  trees_cmp (item t ts) (item u us) = ordering_then (tree_cmp t u) (trees_cmp ts us)

  pub entries_cmp : Entries → Entries → Ordering
  entries_cmp no_entries no_entries = Equal
  entries_cmp no_entries (entry l u us) = Less
  entries_cmp (entry k t ts) no_entries = Greater
  entries_cmp (entry k t ts) (entry l u us) = ordering_then (slice_cmp nat_cmp k l) (ordering_then (tree_cmp t u) (entries_cmp ts us))
