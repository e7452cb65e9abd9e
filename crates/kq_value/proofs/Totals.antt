-- The orders are total: transitive, and the other way round with their arguments exchanged.
use Rattle.std.proofs.Common.{◌≡◌, ℕ, zero, suc, ◌+◌, ◌≤◌, true, false, ℤ, pos, List, [], ◌∷◌, refl, sym, ap, ◌∙◌, arith}
use Rattle.std.specs.declared.cmp.Ordering.{Ordering}
use Rattle.std.specs.declared.cmp.Ordering.TheVariants.{Less, Equal, Greater}
use Rattle.std.specs.Ordering.{nat_cmp, int_cmp, ordering_then, ordering_reverse, then_cmp, on}
use Rattle.std.specs.Cmp.{IsTotalOrder, on_total, then_total, nat_cmp_total, int_cmp_total}
use Rattle.std.specs.Cmp.Lexicographic.{slice_cmp, lists_total, nat_list_cmp_total}
use Rattle.kq_value.specs.Tree.{Tree, null, bool, long, string, array, bag, Trees, no_items, item, Entries, no_entries, entry, tree_size, trees_size, entries_size, items_of}
use Rattle.kq_value.specs.Values.{value_kind, value_number, value_bytes, value_tree, value_cmp, row_cmp}
use Rattle.kq_value.specs.TreeOrder.{tree_kind, tree_cmp, trees_cmp, entries_cmp}

abbrev number_of : Tree → ℤ
number_of null = pos 0
number_of (bool true) = pos 1
number_of (bool false) = pos 0
number_of (long z) = z
number_of (string bs) = pos 0
number_of (array ts) = pos 0
number_of (bag es) = pos 0

abbrev bytes_of : Tree → List ℕ
bytes_of null = []
bytes_of (bool b) = []
bytes_of (long z) = []
bytes_of (string bs) = bs
bytes_of (array ts) = []
bytes_of (bag es) = []

abbrev fields : Entries → List Tree
fields no_entries = []
fields (entry k t es) = string k ∷ t ∷ fields es

abbrev children : Tree → List Tree
children null = []
children (bool b) = []
children (long z) = []
children (string bs) = []
children (array ts) = items_of ts
children (bag es) = fields es

abbrev label_cmp : Tree → Tree → Ordering
label_cmp = then_cmp (on tree_kind nat_cmp) (then_cmp (on number_of int_cmp) (on bytes_of (slice_cmp nat_cmp)))

-- the order as far as a depth
abbrev levels : ℕ → Tree → Tree → Ordering
levels zero = label_cmp
levels (suc n) = then_cmp label_cmp (on children (slice_cmp (levels n)))

label_total : IsTotalOrder label_cmp
label_total = then_total (on_total tree_kind nat_cmp_total) (then_total (on_total number_of int_cmp_total) (on_total bytes_of nat_list_cmp_total))

levels_total : (n : ℕ) → IsTotalOrder (levels n)
levels_total zero = label_total
levels_total (suc n) = then_total label_total (on_total children (lists_total (levels_total n)))

then_Equal : (o : Ordering) → ordering_then o Equal ≡ o
then_Equal Less = refl
then_Equal Equal = refl
then_Equal Greater = refl

key_same : (n : ℕ) (k l : List ℕ) → levels n (string k) (string l) ≡ slice_cmp nat_cmp k l
key_same zero k l = refl
key_same (suc n) k l = then_Equal (slice_cmp nat_cmp k l)

mutual
  tree_same : (n : ℕ) (a b : Tree) → tree_size a ≤ n → levels n a b ≡ tree_cmp a b
  tree_same zero (long a) (long b) h = then_Equal (int_cmp a b)
  tree_same (suc n) (long a) (long b) h = then_Equal _ ∙ then_Equal (int_cmp a b)
  tree_same zero (string a) (string b) h = refl
  tree_same (suc n) (string a) (string b) h = then_Equal (slice_cmp nat_cmp a b)
  tree_same zero (bool true) (bool true) h = refl
  tree_same zero (bool true) (bool false) h = refl
  tree_same zero (bool false) (bool true) h = refl
  tree_same zero (bool false) (bool false) h = refl
  tree_same (suc n) (bool true) (bool true) h = refl
  tree_same (suc n) (bool true) (bool false) h = refl
  tree_same (suc n) (bool false) (bool true) h = refl
  tree_same (suc n) (bool false) (bool false) h = refl
  tree_same zero (array a) (array b) h = absurd (omega arith)
  tree_same (suc n) (array a) (array b) h = trees_same n a b (omega arith)
  tree_same zero (bag a) (bag b) h = absurd (omega arith)
  tree_same (suc n) (bag a) (bag b) h = entries_same n a b (omega arith)
  tree_same zero null null h = refl
  tree_same (suc n) null null h = refl
  tree_same zero null (bool b) h = refl
  tree_same (suc n) null (bool b) h = refl
  tree_same zero null (long b) h = refl
  tree_same (suc n) null (long b) h = refl
  tree_same zero null (string b) h = refl
  tree_same (suc n) null (string b) h = refl
  tree_same zero null (array b) h = refl
  tree_same (suc n) null (array b) h = refl
  tree_same zero null (bag b) h = refl
  tree_same (suc n) null (bag b) h = refl
  tree_same zero (bool a) null h = refl
  tree_same (suc n) (bool a) null h = refl
  tree_same zero (bool a) (long b) h = refl
  tree_same (suc n) (bool a) (long b) h = refl
  tree_same zero (bool a) (string b) h = refl
  tree_same (suc n) (bool a) (string b) h = refl
  tree_same zero (bool a) (array b) h = refl
  tree_same (suc n) (bool a) (array b) h = refl
  tree_same zero (bool a) (bag b) h = refl
  tree_same (suc n) (bool a) (bag b) h = refl
  tree_same zero (long a) null h = refl
  tree_same (suc n) (long a) null h = refl
  tree_same zero (long a) (bool b) h = refl
  tree_same (suc n) (long a) (bool b) h = refl
  tree_same zero (long a) (string b) h = refl
  tree_same (suc n) (long a) (string b) h = refl
  tree_same zero (long a) (array b) h = refl
  tree_same (suc n) (long a) (array b) h = refl
  tree_same zero (long a) (bag b) h = refl
  tree_same (suc n) (long a) (bag b) h = refl
  tree_same zero (string a) null h = refl
  tree_same (suc n) (string a) null h = refl
  tree_same zero (string a) (bool b) h = refl
  tree_same (suc n) (string a) (bool b) h = refl
  tree_same zero (string a) (long b) h = refl
  tree_same (suc n) (string a) (long b) h = refl
  tree_same zero (string a) (array b) h = refl
  tree_same (suc n) (string a) (array b) h = refl
  tree_same zero (string a) (bag b) h = refl
  tree_same (suc n) (string a) (bag b) h = refl
  tree_same zero (array a) null h = refl
  tree_same (suc n) (array a) null h = refl
  tree_same zero (array a) (bool b) h = refl
  tree_same (suc n) (array a) (bool b) h = refl
  tree_same zero (array a) (long b) h = refl
  tree_same (suc n) (array a) (long b) h = refl
  tree_same zero (array a) (string b) h = refl
  tree_same (suc n) (array a) (string b) h = refl
  tree_same zero (array a) (bag b) h = refl
  tree_same (suc n) (array a) (bag b) h = refl
  tree_same zero (bag a) null h = refl
  tree_same (suc n) (bag a) null h = refl
  tree_same zero (bag a) (bool b) h = refl
  tree_same (suc n) (bag a) (bool b) h = refl
  tree_same zero (bag a) (long b) h = refl
  tree_same (suc n) (bag a) (long b) h = refl
  tree_same zero (bag a) (string b) h = refl
  tree_same (suc n) (bag a) (string b) h = refl
  tree_same zero (bag a) (array b) h = refl
  tree_same (suc n) (bag a) (array b) h = refl

  trees_same : (n : ℕ) (a b : Trees) → trees_size a ≤ n → slice_cmp (levels n) (items_of a) (items_of b) ≡ trees_cmp a b
  trees_same n no_items no_items h = refl
  trees_same n no_items (item u us) h = refl
  trees_same n (item t ts) no_items h = refl
  trees_same n (item t ts) (item u us) h = λ i. ordering_then (tree_same n t u (omega arith) i) (trees_same n ts us (omega arith) i)

  entries_same : (n : ℕ) (a b : Entries) → entries_size a ≤ n → slice_cmp (levels n) (fields a) (fields b) ≡ entries_cmp a b
  entries_same n no_entries no_entries h = refl
  entries_same n no_entries (entry l u us) h = refl
  entries_same n (entry k t ts) no_entries h = refl
  entries_same n (entry k t ts) (entry l u us) h = λ i. ordering_then (key_same n k l i) (ordering_then (tree_same n t u (omega arith) i) (entries_same n ts us (omega arith) i))

pub tree_cmp_total : IsTotalOrder tree_cmp
tree_cmp_total = record {
  antisymm = λ x y. let n = tree_size x + tree_size y in sym (tree_same n x y (omega arith)) ∙ (levels_total n).antisymm x y ∙ ap ordering_reverse (tree_same n y x (omega arith));
  trans = λ x y z p q. let n = tree_size x + tree_size y in sym (tree_same n x z (omega arith)) ∙ (levels_total n).trans x y z (tree_same n x y (omega arith) ∙ p) (tree_same n y z (omega arith) ∙ q);
  congr = λ x y z p. let n = tree_size x + tree_size y in sym (tree_same n x z (omega arith)) ∙ (levels_total n).congr x y z (tree_same n x y (omega arith) ∙ p) ∙ tree_same n y z (omega arith);
}

pub value_cmp_total : IsTotalOrder value_cmp
value_cmp_total = then_total (on_total value_kind nat_cmp_total) (then_total (on_total value_number int_cmp_total) (then_total (on_total value_bytes nat_list_cmp_total) (on_total value_tree tree_cmp_total)))

pub row_cmp_total : IsTotalOrder row_cmp
row_cmp_total = lists_total value_cmp_total
