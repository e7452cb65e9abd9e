-- One more step.
use Rattle.std.proofs.Common.{◌≡◌, ℕ, Bool, true, false, cond, ◌&&◌, ◌||◌, List, [], ◌∷◌, ◌++◌, Option, Some, None, ap, ◌∙◌, length, refl, arith, max, nat_eq, ◌⊎◌, inl, inr}
use Rattle.std.proofs.lemmas.Bool.{eqb-true, eq-eqb}
use Rattle.kq_catalog_journal.specs.declared.event.By.{By}
use Rattle.kq_catalog_journal.specs.Requests.{same_by}
use Rattle.kq_engine_interleavings.specs.declared.run.Step.{Step}
use Rattle.kq_engine_interleavings.specs.declared.run.Step.TheVariants.{Begin, Finish}
use Rattle.kq_engine.specs.declared.work.Work.{Work}
use Rattle.kq_engine_interleavings.specs.Steps.{work_of, place_of, has_finish, is_finished, one_if_some}

both : (s t : Bool) → (s && t) ≡ true → (s ≡ true) × (t ≡ true)
both true true e = (refl, refl)
both true false e = cc
both false t e = cc

pub same_by-true : (a b : By) → same_by a b ≡ true → a ≡ b
same_by-true a b e =
    let h = both (nat_eq a.actor b.actor) (nat_eq a.number b.number) e in
    let p : a.actor ≡ b.actor = eqb-true a.actor b.actor h.0 in
    let q : a.number ≡ b.number = eqb-true a.number b.number h.1 in
    ap (λ (n : ℕ). let r : By = record { actor = n; number = a.number } in r) p ∙ ap (λ (n : ℕ). let r : By = record { actor = b.actor; number = n } in r) q

pub same_by-itself : (a : By) → same_by a a ≡ true
same_by-itself a = rw (eq-eqb a.actor a.actor refl, eq-eqb a.number a.number refl) refl

kept_if : {X : Type 0} (t : Bool) (v w : X) (m n : Option X) → (m ≡ Some w → n ≡ Some w) → cond t (Some v) m ≡ Some w → cond t (Some v) n ≡ Some w
kept_if true v w m n f e = e
kept_if false v w m n f e = f e

-- the first Begin stays the first
pub work_of-append : (b : By) (xs ys : List Step) (w : Work) → work_of b xs ≡ Some w → work_of b (xs ++ ys) ≡ Some w
work_of-append b [] ys w e = cc
work_of-append b (Begin v ∷ xs) ys w e = kept_if (same_by v.by b) v w (work_of b xs) (work_of b (xs ++ ys)) (work_of-append b xs ys w) e
work_of-append b (Finish c ∷ xs) ys w e = work_of-append b xs ys w e

-- a new request id's Begin is its first
new_if : (t : Bool) (v : Work) (m n o : Option Work) → (m ≡ None → n ≡ o) → cond t (Some v) m ≡ None → cond t (Some v) n ≡ o
new_if true v m n o f e = cc
new_if false v m n o f e = f e

pub work_of-new : (b : By) (xs ys : List Step) → work_of b xs ≡ None → work_of b (xs ++ ys) ≡ work_of b ys
work_of-new b [] ys e = refl
work_of-new b (Begin v ∷ xs) ys e = new_if (same_by v.by b) v (work_of b xs) (work_of b (xs ++ ys)) (work_of b ys) (work_of-new b xs ys) e
work_of-new b (Finish c ∷ xs) ys e = work_of-new b xs ys e

one_append : (m : Option Work) (b : By) (xs ys : List Step) → work_of b xs ≡ m → one_if_some (work_of b (xs ++ ys)) ≡ max (one_if_some m) (one_if_some (work_of b ys))
one_append None b xs ys e = rw (work_of-new b xs ys e) (omega arith)
one_append (Some w) b xs ys e = rw (work_of-append b xs ys w e) (most (work_of b ys))
  where
    most : (n : Option Work) → 1 ≡ max 1 (one_if_some n)
    most None = refl
    most (Some w) = refl

one_begin : (s : Bool) (w : Work) → one_if_some (cond s (Some w) None) ≡ cond s 1 0
one_begin true w = refl
one_begin false w = refl

pub one-begin : (b : By) (xs : List Step) (w : Work) → one_if_some (work_of b (xs ++ Begin w ∷ [])) ≡ max (one_if_some (work_of b xs)) (cond (same_by w.by b) 1 0)
one-begin b xs w = one_append (work_of b xs) b xs (Begin w ∷ []) refl ∙ ap (λ (n : ℕ). max (one_if_some (work_of b xs)) n) (one_begin (same_by w.by b) w)

pub one-finish : (b c : By) (xs : List Step) → one_if_some (work_of b (xs ++ Finish c ∷ [])) ≡ one_if_some (work_of b xs)
one-finish b c xs = one_append (work_of b xs) b xs (Finish c ∷ []) refl ∙ omega arith

has_finish-begin : (b : By) (xs : List Step) (w : Work) → has_finish b (xs ++ Begin w ∷ []) ≡ has_finish b xs
has_finish-begin b [] w = refl
has_finish-begin b (Begin v ∷ xs) w = has_finish-begin b xs w
has_finish-begin b (Finish c ∷ xs) w = ap (λ t. same_by c b || t) (has_finish-begin b xs w)

last_if : (s : Bool) → cond s false false ≡ false
last_if true = refl
last_if false = refl

pub is_finished-begin : (b : By) (xs : List Step) (w : Work) → is_finished b (xs ++ Begin w ∷ []) ≡ is_finished b xs
is_finished-begin b [] w = last_if (same_by w.by b)
is_finished-begin b (Begin v ∷ xs) w = ap (λ t. cond (same_by v.by b) t (is_finished b (xs ++ Begin w ∷ []))) (has_finish-begin b xs w) ∙ ap (λ t. cond (same_by v.by b) (has_finish b xs) t) (is_finished-begin b xs w)
is_finished-begin b (Finish c ∷ xs) w = is_finished-begin b xs w

or_true : (s t u v : Bool) → (s || t) ≡ true → (t ≡ true → (u ≡ true) ⊎ (v ≡ true)) → ((s || u) ≡ true) ⊎ (v ≡ true)
or_true true t u v e f = inl refl
or_true false t u v e f = f e

has_finish-finish : (b c : By) (xs : List Step) → has_finish b (xs ++ Finish c ∷ []) ≡ true → (has_finish b xs ≡ true) ⊎ (same_by c b ≡ true)
has_finish-finish b c [] e = first (same_by c b) e
  where
    first : (s : Bool) → (s || false) ≡ true → (false ≡ true) ⊎ (s ≡ true)
    first true p = inr refl
    first false p = cc
has_finish-finish b c (Begin v ∷ xs) e = has_finish-finish b c xs e
has_finish-finish b c (Finish d ∷ xs) e = or_true (same_by d b) (has_finish b (xs ++ Finish c ∷ [])) (has_finish b xs) (same_by c b) e (has_finish-finish b c xs)

pub is_finished-finish : (b c : By) (xs : List Step) → is_finished b (xs ++ Finish c ∷ []) ≡ true → (is_finished b xs ≡ true) ⊎ ((same_by c b ≡ true) × (one_if_some (work_of b xs) ≡ 1))
is_finished-finish b c [] e = cc
is_finished-finish b c (Begin v ∷ xs) e = by_mark (same_by v.by b) e (is_finished-finish b c xs)
  where
    by_mark : (s : Bool) → cond s (has_finish b (xs ++ Finish c ∷ [])) (is_finished b (xs ++ Finish c ∷ [])) ≡ true → (is_finished b (xs ++ Finish c ∷ []) ≡ true → (is_finished b xs ≡ true) ⊎ ((same_by c b ≡ true) × (one_if_some (work_of b xs) ≡ 1))) → (cond s (has_finish b xs) (is_finished b xs) ≡ true) ⊎ ((same_by c b ≡ true) × (one_if_some (cond s (Some v) (work_of b xs)) ≡ 1))
    by_mark true p f = elim (has_finish-finish b c xs p) [ inl q ↦ inl q | inr q ↦ inr (q, refl) ]
    by_mark false p f = f p
is_finished-finish b c (Finish d ∷ xs) e = is_finished-finish b c xs e

-- what is finished was begun
pub is_finished-begun : (b : By) (xs : List Step) → is_finished b xs ≡ true → one_if_some (work_of b xs) ≡ 1
is_finished-begun b [] e = cc
is_finished-begun b (Begin v ∷ xs) e = by_mark (same_by v.by b) e (is_finished-begun b xs)
  where
    by_mark : (s : Bool) → cond s (has_finish b xs) (is_finished b xs) ≡ true → (is_finished b xs ≡ true → one_if_some (work_of b xs) ≡ 1) → one_if_some (cond s (Some v) (work_of b xs)) ≡ 1
    by_mark true p f = refl
    by_mark false p f = f p
is_finished-begun b (Finish d ∷ xs) e = is_finished-begun b xs e

-- the place that the first Begin found stays
pub place_of-append : (b : By) (xs ys : List Step) (found more : List ℕ) (n : ℕ) → place_of b xs found ≡ Some n → place_of b (xs ++ ys) (found ++ more) ≡ Some n
place_of-append b [] ys found more n e = cc
place_of-append b (Begin v ∷ xs) ys [] more n e = cc
place_of-append b (Begin v ∷ xs) ys (p ∷ found) more n e = kept_if (same_by v.by b) p n (place_of b xs found) (place_of b (xs ++ ys) (found ++ more)) (place_of-append b xs ys found more n) e
place_of-append b (Finish c ∷ xs) ys [] more n e = cc
place_of-append b (Finish c ∷ xs) ys (p ∷ found) more n e = place_of-append b xs ys found more n e

found_if : (t : Bool) (v : Work) (p : ℕ) (m : Option Work) (k o : Option ℕ) → (m ≡ None → k ≡ o) → cond t (Some v) m ≡ None → cond t (Some p) k ≡ o
found_if true v p m k o f e = cc
found_if false v p m k o f e = f e

now_if : (t : Bool) (n : ℕ) → t ≡ true → cond t (Some n) None ≡ Some n
now_if true n e = refl
now_if false n e = cc

-- a new request id's Begin finds the place that it comes at
pub place_of-new : (b : By) (xs : List Step) (found : List ℕ) (w : Work) (n : ℕ) → length found ≡ length xs → work_of b xs ≡ None → same_by w.by b ≡ true → place_of b (xs ++ Begin w ∷ []) (found ++ n ∷ []) ≡ Some n
place_of-new b [] [] w n same e is = now_if (same_by w.by b) n is
place_of-new b [] (p ∷ found) w n same e is = absurd (omega (arith, same))
place_of-new b (Begin v ∷ xs) [] w n same e is = absurd (omega (arith, same))
place_of-new b (Begin v ∷ xs) (p ∷ found) w n same e is = found_if (same_by v.by b) v p (work_of b xs) (place_of b (xs ++ Begin w ∷ []) (found ++ n ∷ [])) (Some n) (λ none. place_of-new b xs found w n (omega (arith, same)) none is) e
place_of-new b (Finish c ∷ xs) [] w n same e is = absurd (omega (arith, same))
place_of-new b (Finish c ∷ xs) (p ∷ found) w n same e is = place_of-new b xs found w n (omega (arith, same)) e is

or_right : (s t : Bool) → t ≡ true → (s || t) ≡ true
or_right true t e = refl
or_right false t e = e

or_more : (s t u : Bool) → (t ≡ true → u ≡ true) → (s || t) ≡ true → (s || u) ≡ true
or_more true t u f e = refl
or_more false t u f e = f e

has_finish-append : (b : By) (xs ys : List Step) → has_finish b xs ≡ true → has_finish b (xs ++ ys) ≡ true
has_finish-append b [] ys e = cc
has_finish-append b (Begin v ∷ xs) ys e = has_finish-append b xs ys e
has_finish-append b (Finish c ∷ xs) ys e = or_more (same_by c b) (has_finish b xs) (has_finish b (xs ++ ys)) (has_finish-append b xs ys) e

either_if : (t : Bool) (m n k l : Bool) → (m ≡ true → n ≡ true) → (k ≡ true → l ≡ true) → cond t m k ≡ true → cond t n l ≡ true
either_if true m n k l f g e = f e
either_if false m n k l f g e = g e

-- what is finished stays so
pub is_finished-append : (b : By) (xs ys : List Step) → is_finished b xs ≡ true → is_finished b (xs ++ ys) ≡ true
is_finished-append b [] ys e = cc
is_finished-append b (Begin v ∷ xs) ys e = either_if (same_by v.by b) (has_finish b xs) (has_finish b (xs ++ ys)) (is_finished b xs) (is_finished b (xs ++ ys)) (has_finish-append b xs ys) (is_finished-append b xs ys) e
is_finished-append b (Finish c ∷ xs) ys e = is_finished-append b xs ys e

has_finish-now : (b : By) (xs : List Step) → has_finish b (xs ++ Finish b ∷ []) ≡ true
has_finish-now b [] = rw (same_by-itself b) refl
has_finish-now b (Begin v ∷ xs) = has_finish-now b xs
has_finish-now b (Finish c ∷ xs) = or_right (same_by c b) (has_finish b (xs ++ Finish b ∷ [])) (has_finish-now b xs)

last_finish : (t : Bool) (v w : Work) (m : Option Work) (k l : Bool) → k ≡ true → (m ≡ Some w → l ≡ true) → cond t (Some v) m ≡ Some w → cond t k l ≡ true
last_finish true v w m k l here f e = here
last_finish false v w m k l here f e = f e

-- a Finish of what was begun finishes it
pub is_finished-now : (b : By) (xs : List Step) (w : Work) → work_of b xs ≡ Some w → is_finished b (xs ++ Finish b ∷ []) ≡ true
is_finished-now b [] w e = cc
is_finished-now b (Begin v ∷ xs) w e = last_finish (same_by v.by b) v w (work_of b xs) (has_finish b (xs ++ Finish b ∷ [])) (is_finished b (xs ++ Finish b ∷ [])) (has_finish-now b xs) (is_finished-now b xs w) e
is_finished-now b (Finish c ∷ xs) w e = is_finished-now b xs w e
