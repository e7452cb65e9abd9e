-- What is evaluated by pieces is evaluated as a whole.
use Rattle.std.proofs.Common.{◌≡◌, ◌≤◌, ◌+◌, ◌-◌, ℕ, suc, List, [], ◌∷◌, ◌++◌, length, take, drop, Ok, Err, refl, sym, ap, ◌∙◌, arith, append-nil, append_assoc}
use Rattle.std.proofs.lemmas.List.{take-append-drop, drop-drop, drop_all, length-take-le, length-drop}
use Rattle.std.specs.Prelude.{Result, IfOk}
use Rattle.kq_value.specs.Computed.{Computed, Is, Overflow, and_then, each, Answers, AnswersAs}
use Rattle.kq_value.specs.declared.fault.EvalFault.{EvalFault}
use Rattle.kq_value.specs.declared.fault.EvalFault.TheVariants as faults

module _ {A B : Type 0} (f : A → Computed B) where
  after : (o : Computed B) (os ps : Computed (List B))
      → and_then o (λ y. and_then (and_then os (λ ys. and_then ps (λ zs. Is (ys ++ zs)))) (λ ys. Is (y ∷ ys)))
      ≡ and_then (and_then o (λ y. and_then os (λ ys. Is (y ∷ ys)))) (λ ys. and_then ps (λ zs. Is (ys ++ zs)))
  after Overflow os ps = refl
  after (Is y) Overflow ps = refl
  after (Is y) (Is ys) Overflow = refl
  after (Is y) (Is ys) (Is zs) = refl

  -- the values of two lists one after another: an overflow in either is one of the whole
  pub each_append : (xs ys : List A) → each f (xs ++ ys) ≡ and_then (each f xs) (λ us. and_then (each f ys) (λ bs. Is (us ++ bs)))
  each_append [] ys = alone (each f ys)
    where
      alone : (o : Computed (List B)) → o ≡ and_then o (λ bs. Is bs)
      alone Overflow = refl
      alone (Is bs) = refl
  each_append (x ∷ xs) ys = ap (λ o. and_then (f x) (λ y. and_then o (λ ys. Is (y ∷ ys)))) (each_append xs ys) ∙ after (f x) (each f xs) (each f ys)

  -- the next piece, and what is left after it
  each_piece : (xs : List A) (from count : ℕ) → each f (drop from xs) ≡ and_then (each f (take count (drop from xs))) (λ vs. and_then (each f (drop (from + count) xs)) (λ others. Is (vs ++ others)))
  each_piece xs from count =
      ap (each f) (sym (take-append-drop count (drop from xs))) ∙ each_append (take count (drop from xs)) (drop count (drop from xs))
      ∙ ap (λ rest. and_then (each f (take count (drop from xs))) (λ vs. and_then (each f rest) (λ others. Is (vs ++ others)))) (drop-drop count from xs)

  joined : (made vs : List B) (o : Computed (List B)) → and_then (and_then o (λ others. Is (vs ++ others))) (λ others. Is (made ++ others)) ≡ and_then o (λ others. Is ((made ++ vs) ++ others))
  joined made vs Overflow = refl
  joined made vs (Is others) = ap Is (sym (append_assoc made vs others))

  -- the next piece goes to a place
  pub up_to : (xs : List A) (from to : ℕ) → from ≤ to → each f (drop from xs) ≡ and_then (each f (take (to - from) (drop from xs))) (λ vs. and_then (each f (drop to xs)) (λ others. Is (vs ++ others)))
  up_to xs from to low =
      let there : from + (to - from) ≡ to = omega arith in
      each_piece xs from (to - from) ∙ ap (λ (k : ℕ). and_then (each f (take (to - from) (drop from xs))) (λ vs. and_then (each f (drop k xs)) (λ others. Is (vs ++ others)))) there

  pub piece_more : (whole : Computed (List B)) (xs : List A) (from to : ℕ) (made vs : List B) → from ≤ to
      → whole ≡ and_then (each f (drop from xs)) (λ others. Is (made ++ others)) → each f (take (to - from) (drop from xs)) ≡ Is vs
      → whole ≡ and_then (each f (drop to xs)) (λ others. Is ((made ++ vs) ++ others))
  piece_more whole xs from to made vs low h e =
      h ∙ ap (λ o. and_then o (λ others. Is (made ++ others))) (up_to xs from to low ∙ ap (λ o. and_then o (λ vs. and_then (each f (drop to xs)) (λ others. Is (vs ++ others)))) e)
      ∙ joined made vs (each f (drop to xs))

  pub piece_overflows : (whole : Computed (List B)) (xs : List A) (from to : ℕ) (made : List B) → from ≤ to
      → whole ≡ and_then (each f (drop from xs)) (λ others. Is (made ++ others)) → each f (take (to - from) (drop from xs)) ≡ Overflow → whole ≡ Overflow
  piece_overflows whole xs from to made low h e =
      h ∙ ap (λ o. and_then o (λ others. Is (made ++ others))) (up_to xs from to low ∙ ap (λ o. and_then o (λ vs. and_then (each f (drop to xs)) (λ others. Is (vs ++ others)))) e)

  -- a piece's fault is that of the whole
  pub piece_faults : {V W : Type 0} (see : V → List B) (saw : W → List B) (whole : Computed (List B)) (xs : List A) (from to : ℕ) (made : List B) (fault : EvalFault) → from ≤ to
      → whole ≡ and_then (each f (drop from xs)) (λ others. Is (made ++ others)) → AnswersAs saw (each f (take (to - from) (drop from xs))) (Err fault) → AnswersAs see whole (Err fault)
  piece_faults see saw whole xs from to made faults.Overflow low h e = piece_overflows whole xs from to made low h e
  piece_faults see saw whole xs from to made faults.Memory low h e = tt

  pub pieces_end : (whole : Computed (List B)) (xs : List A) (from : ℕ) (made : List B)
      → whole ≡ and_then (each f (drop from xs)) (λ others. Is (made ++ others)) → length xs ≤ from → whole ≡ Is made
  pieces_end whole xs from made h e = h ∙ rw (drop_all from xs e) (ap Is (append-nil made))

  -- a value for each
  pub each_long : (xs : List A) (ys : List B) → each f xs ≡ Is ys → length ys ≡ length xs
  each_long [] [] e = refl
  each_long [] (y ∷ ys) e = absurd cc
  each_long (x ∷ xs) ys e = long (f x) (each f xs) ys e (each_long xs)
    where
      long : (o : Computed B) (os : Computed (List B)) (ys : List B) → and_then o (λ y. and_then os (λ ys. Is (y ∷ ys))) ≡ Is ys → ((zs : List B) → os ≡ Is zs → length zs ≡ length xs) → length ys ≡ suc (length xs)
      long Overflow os ys e h = absurd cc
      long (Is y) Overflow ys e h = absurd cc
      long (Is y) (Is zs) [] e h = absurd cc
      long (Is y) (Is zs) (v ∷ vs) e h = let same : zs ≡ vs = cc in ap suc (ap length (sym same) ∙ h zs refl)

  -- as many values as the piece has rows
  pub piece_counts : (xs : List A) (from to : ℕ) (vs : List B) → from ≤ to → to ≤ length xs → each f (take (to - from) (drop from xs)) ≡ Is vs → length vs ≡ to - from
  piece_counts xs from to vs low h e = each_long (take (to - from) (drop from xs)) vs e ∙ length-take-le (to - from) (drop from xs) (omega (arith, length-drop from xs))

-- an answer has a value for each
pub answered_long : {A B V : Type 0} (f : A → Computed B) (see : V → List B) (xs : List A) (n : ℕ) (r : Result V EvalFault) → length xs ≡ n → AnswersAs see (each f xs) r → IfOk r (λ v. length (see v) ≡ n)
answered_long f see xs n (Ok v) long h = each_long f xs (see v) h ∙ long
answered_long f see xs n (Err fault) long h = tt

pub answers_seen : {A : Type 0} (o : Computed A) (fault : EvalFault) → AnswersAs (λ (x : A). x) o (Err fault) → Answers o (Err fault)
answers_seen o faults.Overflow h = h
answers_seen o faults.Memory h = tt
