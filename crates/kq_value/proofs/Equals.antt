-- Values that the order doesn't tell apart are equal.
use Rattle.std.proofs.Common.{◌≡◌, ℕ, zero, suc, Bool, true, false, ℤ, pos, List, [], ◌∷◌, refl, sym, ap, ◌∙◌, subst, arith}
use Rattle.std.specs.declared.cmp.Ordering.{Ordering}
use Rattle.std.specs.declared.cmp.Ordering.TheVariants.{Less, Equal, Greater}
use Rattle.std.specs.Ordering.{is_eq, nat_cmp, int_cmp, ordering_then, MatchOrdering}
use Rattle.std.specs.Bool.{Decides}
use Rattle.std.specs.Cmp.Lexicographic.{slice_cmp}
use Rattle.std.proofs.lemmas.Cmp.{ranked, int_ranked, tied_itself}
use Rattle.std.specs.Prelude.{◌<◌, ◌<ℤ◌}
use Rattle.kq_value.specs.Tree.{Tree, null, bool, long, string, array, bag, Trees, no_items, item, Entries, no_entries, entry}
use Rattle.kq_value.specs.TreeOrder.{tree_kind, tree_cmp, trees_cmp, entries_cmp}
use Rattle.kq_value.specs.Seen.{dyn_of}
use Rattle.kq_value.specs.Values.{value_kind, value_number, value_bytes, value_tree, value_cmp, row_cmp, is_same, is_same_row}
use Rattle.kq_value.specs.declared.ty.Ty.TheVariants as ty
use Rattle.kq_value.specs.declared.value.Value.{Value}
use Rattle.kq_value.specs.declared.value.Value.TheVariants as value
use Rattle.kq_value.proofs.Trees.{dyn_of-tree_of}
use Rattle.kq_value.proofs.Totals.{value_cmp_total, row_cmp_total}

pub both_equal : (o p : Ordering) → ordering_then o p ≡ Equal → (o ≡ Equal) × (p ≡ Equal)
both_equal Equal p e = (refl, e)
both_equal Less p e = absurd (cc)
both_equal Greater p e = absurd (cc)

nat_equal : (a b : ℕ) → nat_cmp a b ≡ Equal → a ≡ b
nat_equal a b e = let m : MatchOrdering (nat_cmp a b) (a < b) (a ≡ b) (b < a) = ranked a b (nat_cmp a b) refl in rw e at m

int_equal : (a b : ℤ) → int_cmp a b ≡ Equal → a ≡ b
int_equal a b e = let m : MatchOrdering (int_cmp a b) (a <ℤ b) (a ≡ b) (b <ℤ a) = int_ranked a b (int_cmp a b) refl in rw e at m

bytes_equal : (a b : List ℕ) → slice_cmp nat_cmp a b ≡ Equal → a ≡ b
bytes_equal [] [] e = refl
bytes_equal [] (y ∷ ys) e = absurd (cc)
bytes_equal (x ∷ xs) [] e = absurd (cc)
bytes_equal (x ∷ xs) (y ∷ ys) e = let p = both_equal (nat_cmp x y) (slice_cmp nat_cmp xs ys) e in λ i. nat_equal x y p.0 i ∷ bytes_equal xs ys p.1 i

apart : (m n : ℕ) → nat_cmp m n ≡ Equal → (m ≡ n → ⊥) → ⊥
apart m n e differ = differ (nat_equal m n e)

mutual
  tree_equal : (a b : Tree) → tree_cmp a b ≡ Equal → a ≡ b
  tree_equal null null e = refl
  tree_equal (bool true) (bool true) e = refl
  tree_equal (bool true) (bool false) e = absurd (cc)
  tree_equal (bool false) (bool true) e = absurd (cc)
  tree_equal (bool false) (bool false) e = refl
  tree_equal (long a) (long b) e = ap long (int_equal a b e)
  tree_equal (string a) (string b) e = ap string (bytes_equal a b e)
  tree_equal (array a) (array b) e = ap array (trees_equal a b e)
  tree_equal (bag a) (bag b) e = ap bag (entries_equal a b e)
  tree_equal null (bool b) e = absurd (apart (tree_kind null) (tree_kind (bool b)) e (λ p. omega arith))
  tree_equal null (long b) e = absurd (apart (tree_kind null) (tree_kind (long b)) e (λ p. omega arith))
  tree_equal null (string b) e = absurd (apart (tree_kind null) (tree_kind (string b)) e (λ p. omega arith))
  tree_equal null (array b) e = absurd (apart (tree_kind null) (tree_kind (array b)) e (λ p. omega arith))
  tree_equal null (bag b) e = absurd (apart (tree_kind null) (tree_kind (bag b)) e (λ p. omega arith))
  tree_equal (bool a) null e = absurd (apart (tree_kind (bool a)) (tree_kind null) e (λ p. omega arith))
  tree_equal (bool a) (long b) e = absurd (apart (tree_kind (bool a)) (tree_kind (long b)) e (λ p. omega arith))
  tree_equal (bool a) (string b) e = absurd (apart (tree_kind (bool a)) (tree_kind (string b)) e (λ p. omega arith))
  tree_equal (bool a) (array b) e = absurd (apart (tree_kind (bool a)) (tree_kind (array b)) e (λ p. omega arith))
  tree_equal (bool a) (bag b) e = absurd (apart (tree_kind (bool a)) (tree_kind (bag b)) e (λ p. omega arith))
  tree_equal (long a) null e = absurd (apart (tree_kind (long a)) (tree_kind null) e (λ p. omega arith))
  tree_equal (long a) (bool b) e = absurd (apart (tree_kind (long a)) (tree_kind (bool b)) e (λ p. omega arith))
  tree_equal (long a) (string b) e = absurd (apart (tree_kind (long a)) (tree_kind (string b)) e (λ p. omega arith))
  tree_equal (long a) (array b) e = absurd (apart (tree_kind (long a)) (tree_kind (array b)) e (λ p. omega arith))
  tree_equal (long a) (bag b) e = absurd (apart (tree_kind (long a)) (tree_kind (bag b)) e (λ p. omega arith))
  tree_equal (string a) null e = absurd (apart (tree_kind (string a)) (tree_kind null) e (λ p. omega arith))
  tree_equal (string a) (bool b) e = absurd (apart (tree_kind (string a)) (tree_kind (bool b)) e (λ p. omega arith))
  tree_equal (string a) (long b) e = absurd (apart (tree_kind (string a)) (tree_kind (long b)) e (λ p. omega arith))
  tree_equal (string a) (array b) e = absurd (apart (tree_kind (string a)) (tree_kind (array b)) e (λ p. omega arith))
  tree_equal (string a) (bag b) e = absurd (apart (tree_kind (string a)) (tree_kind (bag b)) e (λ p. omega arith))
  tree_equal (array a) null e = absurd (apart (tree_kind (array a)) (tree_kind null) e (λ p. omega arith))
  tree_equal (array a) (bool b) e = absurd (apart (tree_kind (array a)) (tree_kind (bool b)) e (λ p. omega arith))
  tree_equal (array a) (long b) e = absurd (apart (tree_kind (array a)) (tree_kind (long b)) e (λ p. omega arith))
  tree_equal (array a) (string b) e = absurd (apart (tree_kind (array a)) (tree_kind (string b)) e (λ p. omega arith))
  tree_equal (array a) (bag b) e = absurd (apart (tree_kind (array a)) (tree_kind (bag b)) e (λ p. omega arith))
  tree_equal (bag a) null e = absurd (apart (tree_kind (bag a)) (tree_kind null) e (λ p. omega arith))
  tree_equal (bag a) (bool b) e = absurd (apart (tree_kind (bag a)) (tree_kind (bool b)) e (λ p. omega arith))
  tree_equal (bag a) (long b) e = absurd (apart (tree_kind (bag a)) (tree_kind (long b)) e (λ p. omega arith))
  tree_equal (bag a) (string b) e = absurd (apart (tree_kind (bag a)) (tree_kind (string b)) e (λ p. omega arith))
  tree_equal (bag a) (array b) e = absurd (apart (tree_kind (bag a)) (tree_kind (array b)) e (λ p. omega arith))

  trees_equal : (a b : Trees) → trees_cmp a b ≡ Equal → a ≡ b
  trees_equal no_items no_items e = refl
  trees_equal no_items (item u us) e = absurd (cc)
  trees_equal (item t ts) no_items e = absurd (cc)
  trees_equal (item t ts) (item u us) e = let p = both_equal (tree_cmp t u) (trees_cmp ts us) e in λ i. item (tree_equal t u p.0 i) (trees_equal ts us p.1 i)

  entries_equal : (a b : Entries) → entries_cmp a b ≡ Equal → a ≡ b
  entries_equal no_entries no_entries e = refl
  entries_equal no_entries (entry l u us) e = absurd (cc)
  entries_equal (entry k t ts) no_entries e = absurd (cc)
  entries_equal (entry k t ts) (entry l u us) e =
      let p = both_equal (slice_cmp nat_cmp k l) (ordering_then (tree_cmp t u) (entries_cmp ts us)) e in
      let q = both_equal (tree_cmp t u) (entries_cmp ts us) p.1 in
      λ i. entry (bytes_equal k l p.0 i) (tree_equal t u q.0 i) (entries_equal ts us q.1 i)

-- a value, read back from what the order looks at
is_one : ℤ → Bool
is_one (pos (suc n)) = true
is_one _ = false

abbrev value_of : ℕ → ℤ → List ℕ → Tree → Value
value_of zero z bs t = value.Null ty.Long
value_of (suc zero) z bs t = value.Null ty.Int
value_of (suc (suc zero)) z bs t = value.Null ty.Text
value_of (suc (suc (suc zero))) z bs t = value.Null ty.Bool
value_of (suc (suc (suc (suc zero)))) z bs t = value.Null ty.Moment
value_of (suc (suc (suc (suc (suc zero))))) z bs t = value.Null ty.Span
value_of (suc (suc (suc (suc (suc (suc zero)))))) z bs t = value.Null ty.Dynamic
value_of (suc (suc (suc (suc (suc (suc (suc n))))))) z bs t = other_of n z bs t
  where
    other_of : ℕ → ℤ → List ℕ → Tree → Value
    other_of zero z bs t = value.Long z
    other_of (suc zero) z bs t = value.Int z
    other_of (suc (suc zero)) z bs t = value.Text bs
    other_of (suc (suc (suc zero))) z bs t = value.Bool (is_one z)
    other_of (suc (suc (suc (suc zero)))) z bs t = value.Moment z
    other_of (suc (suc (suc (suc (suc zero))))) z bs t = value.Span z
    other_of (suc (suc (suc (suc (suc (suc n)))))) z bs t = value.Dynamic (dyn_of t)

value_back : (v : Value) → value_of (value_kind v) (value_number v) (value_bytes v) (value_tree v) ≡ v
unfolding is_one
value_back (value.Null ty.Long) = refl
value_back (value.Null ty.Int) = refl
value_back (value.Null ty.Text) = refl
value_back (value.Null ty.Bool) = refl
value_back (value.Null ty.Moment) = refl
value_back (value.Null ty.Span) = refl
value_back (value.Null ty.Dynamic) = refl
value_back (value.Long z) = refl
value_back (value.Int z) = refl
value_back (value.Text bs) = refl
value_back (value.Bool true) = refl
value_back (value.Bool false) = refl
value_back (value.Moment z) = refl
value_back (value.Span z) = refl
value_back (value.Dynamic d) = ap value.Dynamic (dyn_of-tree_of d)

-- the order answers Equal for equal values alone
pub value_equal : (v w : Value) → value_cmp v w ≡ Equal → v ≡ w
value_equal v w e =
    let p = both_equal _ _ e in let q = both_equal _ _ p.1 in let r = both_equal _ _ q.1 in
    let k = nat_equal _ _ p.0 in let z = int_equal _ _ q.0 in let b = bytes_equal _ _ r.0 in let t = tree_equal _ _ r.1 in
    sym (value_back v) ∙ (λ i. value_of (k i) (z i) (b i) (t i)) ∙ value_back w

-- and for equal values it answers Equal
pub value_cmp-itself : (v : Value) → value_cmp v v ≡ Equal
value_cmp-itself v = tied_itself value_cmp_total v

pub value_cmp-equal : (v w : Value) → v ≡ w → value_cmp v w ≡ Equal
value_cmp-equal v w e = subst (λ (u : Value). value_cmp v u ≡ Equal) e (value_cmp-itself v)

pub row_equal : (r s : List Value) → row_cmp r s ≡ Equal → r ≡ s
row_equal [] [] e = refl
row_equal [] (y ∷ s) e = absurd (cc)
row_equal (x ∷ r) [] e = absurd (cc)
row_equal (x ∷ r) (y ∷ s) e = let p = both_equal (value_cmp x y) (row_cmp r s) e in λ i. value_equal x y p.0 i ∷ row_equal r s p.1 i

pub row_cmp-itself : (r : List Value) → row_cmp r r ≡ Equal
row_cmp-itself r = tied_itself row_cmp_total r

pub row_cmp-equal : (r s : List Value) → r ≡ s → row_cmp r s ≡ Equal
row_cmp-equal r s e = subst (λ (u : List Value). row_cmp r u ≡ Equal) e (row_cmp-itself r)

is_Equal : (o : Ordering) → is_eq o ≡ true → o ≡ Equal
is_Equal Equal e = refl
is_Equal Less e = absurd (cc)
is_Equal Greater e = absurd (cc)

pub is_same-Decides : (v w : Value) → Decides (is_same v w) (v ≡ w)
is_same-Decides v w = (λ h. value_equal v w (is_Equal (value_cmp v w) h), λ e. ap is_eq (value_cmp-equal v w e))

pub is_same_row-Decides : (r s : List Value) → Decides (is_same_row r s) (r ≡ s)
is_same_row-Decides r s = (λ h. row_equal r s (is_Equal (row_cmp r s) h), λ e. ap is_eq (row_cmp-equal r s e))

pub is_same_row-itself : (r : List Value) → is_same_row r r ≡ true
is_same_row-itself r = ap is_eq (row_cmp-itself r)

-- `cmp` answers Equal exactly where the test holds
pub is_eq-Decides : (o : Ordering) → Decides (is_eq o) (o ≡ Equal)
is_eq-Decides o = (is_Equal o, λ e. ap is_eq e)
