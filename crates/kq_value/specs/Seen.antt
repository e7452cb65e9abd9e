-- A dynamic of the code, as a tree.
use Rattle.std.specs.Prelude.{List, [], ◌∷◌}
use Rattle.kq_value.specs.Tree.{Tree, null, bool, long, string, array, bag, Trees, no_items, item, Entries, no_entries, entry}
use Rattle.kq_value.specs.declared.dynamic.Dyn.{Dyn}
use Rattle.kq_value.specs.declared.dynamic.Dyn.TheVariants as dyn
use Rattle.kq_value.specs.declared.dynamic.Member.{Member}

abbrev pub tree_of : Dyn → Tree
tree_of dyn.Null = null
tree_of (dyn.Bool b) = bool b
tree_of (dyn.Long z) = long z
tree_of (dyn.Text bs) = string bs
tree_of (dyn.List ts) = array ts
tree_of (dyn.Bag es) = bag es

-- and back
abbrev pub dyn_of : Tree → Dyn
dyn_of null = dyn.Null
dyn_of (bool b) = dyn.Bool b
dyn_of (long z) = dyn.Long z
dyn_of (string bs) = dyn.Text bs
dyn_of (array ts) = dyn.List ts
dyn_of (bag es) = dyn.Bag es

abbrev pub trees_of : List Dyn → Trees
trees_of [] = no_items
trees_of (d ∷ ds) = item (tree_of d) (trees_of ds)

abbrev pub entries_of : List Member → Entries
entries_of [] = no_entries
entries_of (m ∷ ms) = entry m.key (tree_of m.value) (entries_of ms)
