-- Trees are told apart as ghost values: each is read back from its code.
use Rattle.std.specs.Prelude.{◌≡◌, ℕ, zero, suc, pos, negsuc, true, false, List, [], ◌∷◌, refl}
use Rattle.std.specs.Coded.{Coded}
use Rattle.std.proofs.Common.{ap, sym, ◌∙◌}
use base.Stored.{Gv, gnil, gnum, gcons, num}
use Rattle.kq_value.specs.Tree.{Tree, null, bool, long, string, array, bag, Trees, no_items, item, Entries, no_entries, entry}

abbrev bytes_gv : List ℕ → Gv
bytes_gv [] = gnil
bytes_gv (b ∷ bs) = gcons (gnum b) (bytes_gv bs)

abbrev bytes_back : Gv → List ℕ
bytes_back gnil = []
bytes_back (gnum n) = []
bytes_back (gcons a g) = num a ∷ bytes_back g

bytes_same : (bs : List ℕ) → bytes_back (bytes_gv bs) ≡ bs
bytes_same [] = refl
bytes_same (b ∷ bs) = ap (λ cs. b ∷ cs) (bytes_same bs)

abbrev mutual
  pub tree_gv : Tree → Gv
  tree_gv null = gnil
  tree_gv (bool true) = gcons (gnum 0) gnil
  tree_gv (bool false) = gcons (gnum 1) gnil
  tree_gv (long (pos n)) = gcons (gnum 2) (gnum n)
  tree_gv (long (negsuc n)) = gcons (gnum 3) (gnum n)
  tree_gv (string bs) = gcons (gnum 4) (bytes_gv bs)
  tree_gv (array ts) = gcons (gnum 5) (trees_gv ts)
  tree_gv (bag es) = gcons (gnum 6) (entries_gv es)

  pub trees_gv : Trees → Gv
  trees_gv no_items = gnil
  trees_gv (item t ts) = gcons (tree_gv t) (trees_gv ts)

  pub entries_gv : Entries → Gv
  entries_gv no_entries = gnil
  entries_gv (entry k t es) = gcons (gcons (bytes_gv k) (tree_gv t)) (entries_gv es)

abbrev mutual
  tree_back : Gv → Tree
  tree_back gnil = null
  tree_back (gnum n) = null
  tree_back (gcons gnil g) = null
  tree_back (gcons (gcons a b) g) = null
  tree_back (gcons (gnum zero) g) = bool true
  tree_back (gcons (gnum (suc zero)) g) = bool false
  tree_back (gcons (gnum (suc (suc zero))) g) = long (pos (num g))
  tree_back (gcons (gnum (suc (suc (suc zero)))) g) = long (negsuc (num g))
  tree_back (gcons (gnum (suc (suc (suc (suc zero))))) g) = string (bytes_back g)
  tree_back (gcons (gnum (suc (suc (suc (suc (suc zero)))))) g) = array (trees_back g)
  tree_back (gcons (gnum (suc (suc (suc (suc (suc (suc n))))))) g) = bag (entries_back g)

  trees_back : Gv → Trees
  trees_back gnil = no_items
  trees_back (gnum n) = no_items
  trees_back (gcons a g) = item (tree_back a) (trees_back g)

  entries_back : Gv → Entries
  entries_back gnil = no_entries
  entries_back (gnum n) = no_entries
  entries_back (gcons gnil g) = no_entries
  entries_back (gcons (gnum n) g) = no_entries
  entries_back (gcons (gcons k a) g) = entry (bytes_back k) (tree_back a) (entries_back g)

mutual
  tree_same : (t : Tree) → tree_back (tree_gv t) ≡ t
  tree_same null = refl
  tree_same (bool true) = refl
  tree_same (bool false) = refl
  tree_same (long (pos n)) = refl
  tree_same (long (negsuc n)) = refl
  tree_same (string bs) = ap string (bytes_same bs)
  tree_same (array ts) = ap array (trees_same ts)
  tree_same (bag es) = ap bag (entries_same es)

  trees_same : (ts : Trees) → trees_back (trees_gv ts) ≡ ts
  trees_same no_items = refl
  trees_same (item t ts) = λ i. item (tree_same t i) (trees_same ts i)

  entries_same : (es : Entries) → entries_back (entries_gv es) ≡ es
  entries_same no_entries = refl
  entries_same (entry k t es) = λ i. entry (bytes_same k i) (tree_same t i) (entries_same es i)

pub trees_inj : (x y : Trees) → trees_gv x ≡ trees_gv y → x ≡ y
trees_inj x y p = sym (trees_same x) ∙ ap trees_back p ∙ trees_same y

pub entries_inj : (x y : Entries) → entries_gv x ≡ entries_gv y → x ≡ y
entries_inj x y p = sym (entries_same x) ∙ ap entries_back p ∙ entries_same y

abbrev pub trees_code : Coded Trees
trees_code = record { code = trees_gv; inj = trees_inj }

abbrev pub entries_code : Coded Entries
entries_code = record { code = entries_gv; inj = entries_inj }
