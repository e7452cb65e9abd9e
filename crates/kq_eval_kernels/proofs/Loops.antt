-- What loops over two lists side by side keep.
use Rattle.std.proofs.Common.{◌≡◌, ◌<◌, ◌≤◌, ℕ, zero, suc, min, List, [], ◌∷◌, ◌++◌, map, length, get_or, take, drop, Bool, false, refl, sym, ap, ◌∙◌, arith, append-nil, append_assoc}
use Rattle.std.proofs.lemmas.List.{length-map}
use Rattle.kq_value.specs.Computed.{Computed, Is, Overflow, and_then}
use Rattle.kq_value.specs.declared.value.Value.{Value}
use Rattle.kq_value.specs.declared.value.Value.TheVariants.{Long, Bool as Truth}
use Rattle.std.specs.Prelude.{◌≢◌, ℤ}
use Rattle.kq_eval_kernels.specs.Pairs.{each_two}

module _ {A : Type 0} where
  after_one : (made : List A) (x : A) (rest : Computed (List A)) → and_then (and_then rest (λ zs. Is (x ∷ zs))) (λ zs. Is (made ++ zs)) ≡ and_then rest (λ zs. Is ((made ++ x ∷ []) ++ zs))
  after_one made x Overflow = refl
  after_one made x (Is zs) = ap Is (sym (append_assoc made (x ∷ []) zs))

  -- one value more has been made
  pub goes_on : (whole next : Computed (List A)) (o : Computed A) (rest : Computed (List A)) (made : List A) (x : A)
      → whole ≡ and_then next (λ zs. Is (made ++ zs)) → next ≡ and_then o (λ z. and_then rest (λ zs. Is (z ∷ zs))) → o ≡ Is x
      → whole ≡ and_then rest (λ zs. Is ((made ++ x ∷ []) ++ zs))
  goes_on whole next o rest made x h n e = h ∙ rw (n, e) (after_one made x rest)

  -- nothing is left
  pub comes_to_end : (whole next : Computed (List A)) (made : List A) → whole ≡ and_then next (λ zs. Is (made ++ zs)) → next ≡ Is [] → whole ≡ Is made
  comes_to_end whole next made h e = h ∙ rw e (ap Is (append-nil made))

module _ {A B C : Type 0} where
  -- the lists go on where both do
  pub each_two_next : (f : A → B → Computed C) (xs : List A) (ys : List B) (i : ℕ) (x : A) (y : B) → i < length xs → i < length ys → x ≡ get_or xs i x → y ≡ get_or ys i y
      → each_two f (drop i xs) (drop i ys) ≡ and_then (f x y) (λ z. and_then (each_two f (drop (suc i) xs) (drop (suc i) ys)) (λ zs. Is (z ∷ zs)))
  each_two_next f [] ys i x y h k p q = absurd (omega arith)
  each_two_next f (a ∷ xs) [] i x y h k p q = absurd (omega arith)
  each_two_next f (a ∷ xs) (b ∷ ys) zero x y h k p q = ap (λ (o : Computed C). and_then o (λ z. and_then (each_two f xs ys) (λ zs. Is (z ∷ zs)))) (λ j. f (sym p j) (sym q j))
  each_two_next f (a ∷ xs) (b ∷ ys) (suc i) x y h k p q = each_two_next f xs ys i x y (omega arith) (omega arith) p q

  pub each_two_end : (f : A → B → Computed C) (xs : List A) (ys : List B) (i : ℕ) → min (length xs) (length ys) ≤ i → each_two f (drop i xs) (drop i ys) ≡ Is []
  each_two_end f [] ys zero h = refl
  each_two_end f [] ys (suc i) h = refl
  each_two_end f (a ∷ xs) [] zero h = refl
  each_two_end f (a ∷ xs) [] (suc i) h = ends (drop i xs)
    where
      ends : (zs : List A) → each_two f zs [] ≡ Is []
      ends [] = refl
      ends (z ∷ zs) = refl
  each_two_end f (a ∷ xs) (b ∷ ys) zero h = absurd (omega arith)
  each_two_end f (a ∷ xs) (b ∷ ys) (suc i) h = each_two_end f xs ys i (omega arith)

-- the same of longs, as values
pub each_two_mapped : {X C : Type 0} (v : X → Value) (f : Value → Value → Computed C) (d e : X) (xs ys : List X) (i : ℕ) → i < length xs → i < length ys
    → each_two f (drop i (map v xs)) (drop i (map v ys)) ≡ and_then (f (v (get_or xs i d)) (v (get_or ys i e))) (λ z. and_then (each_two f (drop (suc i) (map v xs)) (drop (suc i) (map v ys))) (λ zs. Is (z ∷ zs)))
each_two_mapped v f d e [] ys i h k = absurd (omega arith)
each_two_mapped v f d e (x ∷ xs) [] i h k = absurd (omega arith)
each_two_mapped v f d e (x ∷ xs) (y ∷ ys) zero h k = refl
each_two_mapped v f d e (x ∷ xs) (y ∷ ys) (suc i) h k = each_two_mapped v f d e xs ys i (omega arith) (omega arith)

pub each_two_mapped_end : {X C : Type 0} (v : X → Value) (f : Value → Value → Computed C) (xs ys : List X) (i : ℕ) → min (length xs) (length ys) ≤ i → each_two f (drop i (map v xs)) (drop i (map v ys)) ≡ Is []
each_two_mapped_end v f xs ys i h = each_two_end f (map v xs) (map v ys) i (simp length-map h)

-- what stands among longs is a long
long_inside : (made : List ℤ) (v : Value) (vs : List Value) (zs : List ℤ) → map Long made ++ v ∷ vs ≡ map Long zs → (z : ℤ) × (v ≡ Long z)
long_inside [] v vs [] e = absurd cc
long_inside [] v vs (z ∷ zs) e = let same : v ≡ Long z = cc in (z, same)
long_inside (m ∷ ms) v vs [] e = absurd cc
long_inside (m ∷ ms) v vs (z ∷ zs) e = let rest : map Long ms ++ v ∷ vs ≡ map Long zs = cc in long_inside ms v vs zs rest

-- where one pair gives no long, the whole isn't longs alone
pub no_longs : (whole next : Computed (List Value)) (o : Computed Value) (rest : Computed (List Value)) (made zs : List ℤ)
    → whole ≡ and_then next (λ vs. Is (map Long made ++ vs)) → next ≡ and_then o (λ v. and_then rest (λ vs. Is (v ∷ vs))) → ((z : ℤ) → o ≢ Is (Long z))
    → whole ≢ Is (map Long zs)
no_longs whole next Overflow rest made zs h n none e = absurd cc
no_longs whole next (Is v) Overflow made zs h n none e = absurd cc
no_longs whole next (Is v) (Is vs) made zs h n none e =
    let all : whole ≡ Is (map Long made ++ v ∷ vs) = h ∙ rw n refl in
    let same : map Long made ++ v ∷ vs ≡ map Long zs = cc in
    let z = long_inside made v vs zs same in none z.0 (ap Is z.1)

-- one item more
pub map_take_more : {A B : Type 0} (f : A → B) (xs : List A) (i : ℕ) (d : A) → i < length xs → map f (take (suc i) xs) ≡ map f (take i xs) ++ f (get_or xs i d) ∷ []
map_take_more f [] i d h = absurd (omega arith)
map_take_more f (x ∷ xs) zero d h = refl
map_take_more f (x ∷ xs) (suc i) d h = ap (λ ys. f x ∷ ys) (map_take_more f xs i d (omega arith))

-- what is told of each place, is told of all
pub told_of_all : {A : Type 0} (f : A → Value) (xs : List A) (ts : List Bool) (d : A) → length ts ≡ length xs → ((k : ℕ) → k < length xs → f (get_or xs k d) ≡ Truth (get_or ts k false)) → map f xs ≡ map Truth ts
told_of_all f [] [] d h told = refl
told_of_all f [] (t ∷ ts) d h told = absurd (omega arith)
told_of_all f (x ∷ xs) [] d h told = absurd (omega arith)
told_of_all f (x ∷ xs) (t ∷ ts) d h told = λ j. told 0 (omega arith) j ∷ told_of_all f xs ts d (omega arith) (λ k l. told (suc k) (omega arith)) j
