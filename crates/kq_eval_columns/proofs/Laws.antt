-- The laws by which an expression is evaluated over rows, part by part.
use Rattle.std.proofs.Common.{◌≡◌, Bool, true, false, cond, List, [], ◌∷◌, map, refl}
use Rattle.std.specs.Prelude.{not}
use Rattle.kq_value.specs.Computed.{Computed, Is, Overflow, and_then, each}
use Rattle.kq_eval_kernels.specs.Pairs.{each_two}
use Rattle.kq_eval_columns.specs.Choices.{picked, merged}

-- an overflow after anything is an overflow
stops : {D : Type 0} (E : Type 0) (q : Computed D) → and_then {B = E} q (λ z. Overflow) ≡ Overflow
stops E (Is z) = refl
stops E Overflow = refl

module _ {A B : Type 0} where
  -- what never overflows
  pub each_map : (f : A → B) (xs : List A) → each (λ x. Is (f x)) xs ≡ Is (map f xs)
  each_map f [] = refl
  each_map f (x ∷ xs) = rw (each_map f xs) refl

module _ {A B C : Type 0} (f : A → Computed B) (g : B → Computed C) where
  then_step : (o : Computed B) (os : Computed (List B))
      → and_then (and_then o g) (λ z. and_then (and_then os (each g)) (λ zs. Is (z ∷ zs))) ≡ and_then (and_then o (λ y. and_then os (λ ys. Is (y ∷ ys)))) (each g)
  then_step Overflow os = refl
  then_step (Is y) Overflow = stops (List C) (g y)
  then_step (Is y) (Is ys) = refl

  -- the first over all, and then the second
  pub each_then : (xs : List A) → each (λ r. and_then (f r) g) xs ≡ and_then (each f xs) (each g)
  each_then [] = refl
  each_then (x ∷ xs) = rw (each_then xs) (then_step (f x) (each f xs))

module _ {A B C D : Type 0} (f : A → Computed B) (g : A → Computed C) (h : B → C → Computed D) where
  two_step : (o : Computed B) (p : Computed C) (os : Computed (List B)) (ps : Computed (List C))
      → and_then (and_then o (λ x. and_then p (λ y. h x y))) (λ z. and_then (and_then os (λ xs. and_then ps (λ ys. each_two h xs ys))) (λ zs. Is (z ∷ zs)))
      ≡ and_then (and_then o (λ x. and_then os (λ xs. Is (x ∷ xs)))) (λ xs. and_then (and_then p (λ y. and_then ps (λ ys. Is (y ∷ ys)))) (λ ys. each_two h xs ys))
  two_step Overflow p os ps = refl
  two_step (Is x) Overflow Overflow ps = refl
  two_step (Is x) Overflow (Is xs) ps = refl
  two_step (Is x) (Is y) Overflow ps = stops (List D) (h x y)
  two_step (Is x) (Is y) (Is xs) Overflow = stops (List D) (h x y)
  two_step (Is x) (Is y) (Is xs) (Is ys) = refl

  -- both parts over all, and then the two side by side
  pub each_both : (xs : List A) → each (λ r. and_then (f r) (λ x. and_then (g r) (λ y. h x y))) xs ≡ and_then (each f xs) (λ us. and_then (each g xs) (λ bs. each_two h us bs))
  each_both [] = refl
  each_both (x ∷ xs) = rw (each_both xs) (two_step (f x) (g x) (each f xs) (each g xs))

module _ {A B C : Type 0} (yes : B → Bool) (p : A → Computed B) (f g : A → Computed C) where
  -- the condition over all, each branch over its own, and the results in their places
  abbrev pub choose : (ts : List Bool) (xs : List A) → Computed (List C)
  choose ts xs = and_then (each f (picked ts xs)) (λ ys. and_then (each g (picked (map not ts) xs)) (λ zs. Is (merged ts ys zs)))

  true_step : (o : Computed C) (ef eg : Computed (List C)) (ts : List Bool)
      → and_then o (λ y. and_then (and_then ef (λ ys. and_then eg (λ zs. Is (merged ts ys zs)))) (λ ws. Is (y ∷ ws)))
      ≡ and_then (and_then o (λ y. and_then ef (λ ys. Is (y ∷ ys)))) (λ ys. and_then eg (λ zs. Is (merged (true ∷ ts) ys zs)))
  true_step Overflow ef eg ts = refl
  true_step (Is y) Overflow eg ts = refl
  true_step (Is y) (Is ys) Overflow ts = refl
  true_step (Is y) (Is ys) (Is zs) ts = refl

  false_step : (o : Computed C) (ef eg : Computed (List C)) (ts : List Bool)
      → and_then o (λ y. and_then (and_then ef (λ ys. and_then eg (λ zs. Is (merged ts ys zs)))) (λ ws. Is (y ∷ ws)))
      ≡ and_then ef (λ ys. and_then (and_then o (λ z. and_then eg (λ zs. Is (z ∷ zs)))) (λ zs. Is (merged (false ∷ ts) ys zs)))
  false_step Overflow Overflow eg ts = refl
  false_step Overflow (Is ys) eg ts = refl
  false_step (Is z) Overflow eg ts = refl
  false_step (Is z) (Is ys) Overflow ts = refl
  false_step (Is z) (Is ys) (Is zs) ts = refl

  first_step : (b : Bool) (x : A) (xs : List A) (ts : List Bool) → and_then (cond b (f x) (g x)) (λ y. and_then (choose ts xs) (λ ys. Is (y ∷ ys))) ≡ choose (b ∷ ts) (x ∷ xs)
  first_step true x xs ts = true_step (f x) (each f (picked ts xs)) (each g (picked (map not ts) xs)) ts
  first_step false x xs ts = false_step (g x) (each f (picked ts xs)) (each g (picked (map not ts) xs)) ts

  choose_step : (o : Computed B) (os : Computed (List B)) (x : A) (xs : List A)
      → and_then (and_then o (λ v. cond (yes v) (f x) (g x))) (λ y. and_then (and_then os (λ vs. choose (map yes vs) xs)) (λ ys. Is (y ∷ ys)))
      ≡ and_then (and_then o (λ v. and_then os (λ vs. Is (v ∷ vs)))) (λ vs. choose (map yes vs) (x ∷ xs))
  choose_step Overflow os x xs = refl
  choose_step (Is v) Overflow x xs = stops (List C) (cond (yes v) (f x) (g x))
  choose_step (Is v) (Is vs) x xs = first_step (yes v) x xs (map yes vs)

  -- a branch is evaluated over those that choose it, and over no others
  pub each_chosen : (xs : List A) → each (λ r. and_then (p r) (λ v. cond (yes v) (f r) (g r))) xs ≡ and_then (each p xs) (λ vs. choose (map yes vs) xs)
  each_chosen [] = refl
  each_chosen (x ∷ xs) = rw (each_chosen xs) (choose_step (p x) (each p xs) x xs)

module _ {A B : Type 0} (missing : B → Bool) (p g : A → Computed B) where
  -- the values that are not missing, and the others' in place of those that are
  abbrev pub keep : (ts : List Bool) (vs : List B) (xs : List A) → Computed (List B)
  keep ts vs xs = and_then (each g (picked (map not ts) xs)) (λ zs. Is (merged ts (picked ts vs) zs))

  kept : (o : Computed (List B)) (v : B) (ts : List Bool) (vs : List B)
      → and_then (and_then o (λ zs. Is (merged ts (picked ts vs) zs))) (λ ys. Is (v ∷ ys)) ≡ and_then o (λ zs. Is (merged (true ∷ ts) (v ∷ picked ts vs) zs))
  kept Overflow v ts vs = refl
  kept (Is zs) v ts vs = refl

  replaced : (o : Computed B) (os : Computed (List B)) (ts : List Bool) (ys : List B)
      → and_then o (λ y. and_then (and_then os (λ zs. Is (merged ts ys zs))) (λ ws. Is (y ∷ ws))) ≡ and_then (and_then o (λ z. and_then os (λ zs. Is (z ∷ zs)))) (λ zs. Is (merged (false ∷ ts) ys zs))
  replaced Overflow os ts ys = refl
  replaced (Is y) Overflow ts ys = refl
  replaced (Is y) (Is zs) ts ys = refl

  first_kept : (b : Bool) (v : B) (x : A) (vs : List B) (xs : List A) (ts : List Bool)
      → and_then (cond b (g x) (Is v)) (λ y. and_then (keep ts vs xs) (λ ys. Is (y ∷ ys))) ≡ keep (not b ∷ ts) (v ∷ vs) (x ∷ xs)
  first_kept true v x vs xs ts = replaced (g x) (each g (picked (map not ts) xs)) ts (picked ts vs)
  first_kept false v x vs xs ts = kept (each g (picked (map not ts) xs)) v ts vs

  keep_step : (o : Computed B) (os : Computed (List B)) (x : A) (xs : List A)
      → and_then (and_then o (λ v. cond (missing v) (g x) (Is v))) (λ y. and_then (and_then os (λ vs. keep (map (λ v. not (missing v)) vs) vs xs)) (λ ys. Is (y ∷ ys)))
      ≡ and_then (and_then o (λ v. and_then os (λ vs. Is (v ∷ vs)))) (λ vs. keep (map (λ v. not (missing v)) vs) vs (x ∷ xs))
  keep_step Overflow os x xs = refl
  keep_step (Is v) Overflow x xs = stops (List B) (cond (missing v) (g x) (Is v))
  keep_step (Is v) (Is vs) x xs = first_kept (missing v) v x vs xs (map (λ v. not (missing v)) vs)

  -- others are evaluated over those whose value is missing, and over no more
  pub each_kept : (xs : List A) → each (λ r. and_then (p r) (λ v. cond (missing v) (g r) (Is v))) xs ≡ and_then (each p xs) (λ vs. keep (map (λ v. not (missing v)) vs) vs xs)
  each_kept [] = refl
  each_kept (x ∷ xs) = rw (each_kept xs) (keep_step (p x) (each p xs) x xs)
