-- Tables of texts, in which the first one that begins the bytes is the longest.
use Rattle.std.proofs.Common.{◌≡◌, ℕ, zero, suc, ◌<◌, ◌≤◌, Bool, true, false, ◌||◌, ◌&&◌, not, cond, List, [], ◌∷◌, ◌⊎◌, inl, inr, length, Some, None, refl, sym, subst, arith, get_or}
use Rattle.std.specs.List.{find, list_all, list_any}
use Rattle.kq_read_tokens.specs.Bytes.{begins_with}
use Rattle.kq_read_tokens.proofs.TestLemmas.{both_true, either_true, false_true, begins_common}

abbrev pub In : {A : Type 0} → A → List A → Type 0
In a [] = ⊥
In a (x ∷ xs) = (a ≡ x) ⊎ In a xs

pub in_at : {A : Type 0} (xs : List A) (i : ℕ) (a : A) → i < length xs → get_or xs i a ≡ a → In a xs
in_at [] i a lt e = absurd (omega arith)
in_at (x ∷ xs) zero a lt e = inl (sym e)
in_at (x ∷ xs) (suc i) a lt e = inr (in_at xs i a (omega arith) e)

pub all_in : {A : Type 0} (test : A → Bool) (xs : List A) (a : A) → list_all test xs ≡ true → In a xs → test a ≡ true
all_in test [] a h i = absurd i
all_in test (x ∷ xs) a h (inl e) = subst (λ y. test y ≡ true) (sym e) (both_true (test x) (list_all test xs) h).0
all_in test (x ∷ xs) a h (inr i) = all_in test xs a (both_true (test x) (list_all test xs) h).1 i

pub any_in : {A : Type 0} (test : A → Bool) (xs : List A) → list_any test xs ≡ true → (a : A) × In a xs × (test a ≡ true)
any_in test [] h = let no_way : false ≡ true = h in absurd (cc)
any_in test (x ∷ xs) h = elim (either_true (test x) (list_any test xs) h) [
  | inl e ↦ (x, inl refl, e)
  | inr r ↦ let found = any_in test xs r in (found.0, inr found.1, found.2)
]

any_here : (t r : Bool) → t ≡ true → (t || r) ≡ true
any_here true r e = refl
any_here false r e = let no_way : false ≡ true = e in cc

any_there : (t r : Bool) → r ≡ true → (t || r) ≡ true
any_there true r e = refl
any_there false r e = e

pub in_any : {A : Type 0} (test : A → Bool) (xs : List A) (a : A) → In a xs → test a ≡ true → list_any test xs ≡ true
in_any test [] a i h = absurd i
in_any test (x ∷ xs) a (inl e) h = any_here (test x) (list_any test xs) (subst (λ y. test y ≡ true) e h)
in_any test (x ∷ xs) a (inr i) h = any_there (test x) (list_any test xs) (in_any test xs a i h)

find_in_at : {A : Type 0} (test : A → Bool) (x : A) (xs : List A) (a : A) (t : Bool) → test x ≡ t → cond t (Some x) (find test xs) ≡ Some a → (find test xs ≡ Some a → In a xs × (test a ≡ true)) → In a (x ∷ xs) × (test a ≡ true)
find_in_at test x xs a true e h rest = let same : x ≡ a = cc in (inl (sym same), subst (λ y. test y ≡ true) same e)
find_in_at test x xs a false e h rest = (inr (rest h).0, (rest h).1)

pub find_in : {A : Type 0} (test : A → Bool) (xs : List A) (a : A) → find test xs ≡ Some a → In a xs × (test a ≡ true)
find_in test [] a h = absurd (cc h)
find_in test (x ∷ xs) a h = find_in_at test x xs a (test x) refl h (λ r. find_in test xs a r)

find_none_at : {A : Type 0} (test : A → Bool) (x : A) (xs : List A) (a : A) (t : Bool) → test x ≡ t → cond t (Some x) (find test xs) ≡ None → (a ≡ x) ⊎ In a xs → test a ≡ true → (find test xs ≡ None → In a xs → ⊥) → ⊥
find_none_at test x xs a true e h i k rest = cc
find_none_at test x xs a false e h (inl same) k rest = false_true (test x) e (subst (λ y. test y ≡ true) same k)
find_none_at test x xs a false e h (inr i) k rest = rest h i

pub find_none : {A : Type 0} (test : A → Bool) (xs : List A) (a : A) → find test xs ≡ None → In a xs → test a ≡ true → ⊥
find_none test [] a h i k = i
find_none test (x ∷ xs) a h i k = find_none_at test x xs a (test x) refl h i k (λ r j. find_none test xs a r j k)

module _ {A : Type 0} (text : A → List ℕ) where
  -- a text begins none of these
  abbrev pub begins_none : List ℕ → List A → Bool
  begins_none first [] = true
  begins_none first (a ∷ others) = not (begins_with first (text a)) && begins_none first others

  -- no text begins one behind it
  abbrev pub are_apart : List A → Bool
  are_apart [] = true
  are_apart (a ∷ others) = begins_none (text a) others && are_apart others

  not_true : (b : Bool) → not b ≡ true → b ≡ true → ⊥
  not_true true h k = let no_way : false ≡ true = h in cc
  not_true false h k = let no_way : false ≡ true = k in cc

  begins_one : (first : List ℕ) (others : List A) (a : A) → begins_none first others ≡ true → In a others → begins_with first (text a) ≡ true → ⊥
  begins_one first [] a h i k = i
  begins_one first (x ∷ xs) a h (inl e) k = not_true (begins_with first (text x)) (both_true (not (begins_with first (text x))) (begins_none first xs) h).0 (subst (λ y. begins_with first (text y) ≡ true) e k)
  begins_one first (x ∷ xs) a h (inr i) k = begins_one first xs a (both_true (not (begins_with first (text x))) (begins_none first xs) h).1 i k

  first_at : (bytes : List ℕ) (x : A) (xs : List A) (a other : A) (t : Bool) → begins_with (text x) bytes ≡ t → begins_none (text x) xs ≡ true → cond t (Some x) (find (λ y. begins_with (text y) bytes) xs) ≡ Some a
      → (other ≡ x) ⊎ In other xs → begins_with (text other) bytes ≡ true → length (text a) ≤ length (text other) → (find (λ y. begins_with (text y) bytes) xs ≡ Some a → In other xs → other ≡ a) → other ≡ a
  first_at bytes x xs a other true e apart h (inl same) k le rest = cc
  first_at bytes x xs a other true e apart h (inr i) k le rest =
      let is : x ≡ a = cc in
      let le' : length (text x) ≤ length (text other) = subst (λ y. length (text y) ≤ length (text other)) (sym is) le in
      absurd (begins_one (text x) xs other apart i (begins_common (text x) (text other) bytes e k le'))
  first_at bytes x xs a other false e apart h (inl same) k le rest = absurd (false_true (begins_with (text x) bytes) e (subst (λ y. begins_with (text y) bytes ≡ true) same k))
  first_at bytes x xs a other false e apart h (inr i) k le rest = rest h i

  pub first_longest : (bytes : List ℕ) (table : List A) (a other : A) → are_apart table ≡ true → find (λ y. begins_with (text y) bytes) table ≡ Some a → In other table → begins_with (text other) bytes ≡ true → length (text a) ≤ length (text other) → other ≡ a
  first_longest bytes [] a other apart h i k le = absurd i
  first_longest bytes (x ∷ xs) a other apart h i k le =
      let parts = both_true (begins_none (text x) xs) (are_apart xs) apart in
      first_at bytes x xs a other (begins_with (text x) bytes) refl parts.0 h i k le (λ r j. first_longest bytes xs a other parts.1 r j k le)
