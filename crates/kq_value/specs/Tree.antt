-- What a dynamic value is, in plain words: a tree.
use Rattle.std.specs.Prelude.{ℕ, suc, ◌+◌, max, ℤ, Bool, List, [], ◌∷◌}

mutual
  pub data Tree : Type 0 where
    null : Tree
    bool : Bool → Tree
    long : ℤ → Tree
    string : List ℕ → Tree
    array : Trees → Tree
    bag : Entries → Tree

  pub data Trees : Type 0 where
    no_items : Trees
    item : Tree → Trees → Trees

  pub data Entries : Type 0 where
    no_entries : Entries
    entry : List ℕ → Tree → Entries → Entries

-- how deep arrays and bags nest: a scalar is 0 deep, and an empty array 1
abbrev mutual
  pub tree_depth : Tree → ℕ
  tree_depth null = 0
  tree_depth (bool b) = 0
  tree_depth (long z) = 0
  tree_depth (string bs) = 0
  tree_depth (array ts) = suc (trees_depth ts)
  tree_depth (bag es) = suc (entries_depth es)

  pub trees_depth : Trees → ℕ
  trees_depth no_items = 0
  trees_depth (item t ts) = max (tree_depth t) (trees_depth ts)

  pub entries_depth : Entries → ℕ
  entries_depth no_entries = 0
  entries_depth (entry k t es) = max (tree_depth t) (entries_depth es)

-- how many constructors stand in it
abbrev mutual
  pub tree_size : Tree → ℕ
  tree_size null = 0
  tree_size (bool b) = 0
  tree_size (long z) = 0
  tree_size (string bs) = 0
  tree_size (array ts) = suc (trees_size ts)
  tree_size (bag es) = suc (entries_size es)

  pub trees_size : Trees → ℕ
  trees_size no_items = 0
  trees_size (item t ts) = suc (tree_size t + trees_size ts)

  pub entries_size : Entries → ℕ
  entries_size no_entries = 0
  entries_size (entry k t es) = suc (tree_size t + entries_size es)

-- the items of an array, as a list
abbrev pub items_of : Trees → List Tree
items_of no_items = []
items_of (item t ts) = t ∷ items_of ts

-- the keys of a bag, and its values, as lists
abbrev pub keys_of : Entries → List (List ℕ)
keys_of no_entries = []
keys_of (entry k t es) = k ∷ keys_of es
