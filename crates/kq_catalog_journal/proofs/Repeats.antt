-- A repeated name stands within its list, and names of which none is repeated stay so where some are left out.
use Rattle.std.proofs.Common.{◌≡◌, ◌<◌, ◌+◌, ℕ, Bool, true, false, cond, ◌||◌, List, [], ◌∷◌, ◌++◌, length, nat_eq, None, Some, refl, ap, sym, ◌∙◌, arith, length-append}
use Rattle.std.specs.Cmp.Lexicographic.{pointwise}
use Rattle.std.specs.List.{filter}
use Rattle.std.proofs.lemmas.Bool.{false≢true}
use Rattle.std.proofs.lemmas.List.Folds.{list_any-append}
use Rattle.kq_value_text_sets.specs.Names.{is_among, repeat_after, repeat_of}

repeat_after-within : (before names : List (List ℕ)) (i : ℕ) → repeat_after before names ≡ Some i → i < length before + length names
repeat_after-within before [] i e = cc
repeat_after-within before (name ∷ names) i e = by_test (is_among name before) e (repeat_after-within (before ++ name ∷ []) names i)
  where
    by_test : (t : Bool) → cond t (Some (length before)) (repeat_after (before ++ name ∷ []) names) ≡ Some i → (repeat_after (before ++ name ∷ []) names ≡ Some i → i < length (before ++ name ∷ []) + length names) → i < length before + length (name ∷ names)
    by_test true p later = let at : length before ≡ i = cc in omega arith
    by_test false p later = let within = later p in omega (arith, within, length-append before (name ∷ []))

pub repeat_of-within : (names : List (List ℕ)) (i : ℕ) → repeat_of names ≡ Some i → i < length names
repeat_of-within names i e = let within = repeat_after-within [] names i e in omega (arith, within)

-- ---- names left out

-- each of the names stands among the others too
abbrev StandAmong : List (List ℕ) → List (List ℕ) → Type 0
StandAmong kept before = (n : List ℕ) → is_among n kept ≡ true → is_among n before ≡ true

among-push : (n name : List ℕ) (before : List (List ℕ)) → is_among n (before ++ name ∷ []) ≡ (is_among n before || is_among n (name ∷ []))
among-push n name before = list_any-append (λ other. pointwise nat_eq other n) before (name ∷ [])

either_more : (a b c : Bool) → (a ≡ true → b ≡ true) → (a || c) ≡ true → (b || c) ≡ true
either_more true b c f e = ap (λ (x : Bool). x || c) (f refl)
either_more false true c f e = refl
either_more false false c f e = e

more_among : (kept before : List (List ℕ)) (name : List ℕ) → StandAmong kept before → StandAmong (kept ++ name ∷ []) (before ++ name ∷ [])
more_among kept before name all n e = among-push n name before ∙ either_more (is_among n kept) (is_among n before) (is_among n (name ∷ [])) (all n) (sym (among-push n name kept) ∙ e)

or_true : (a b : Bool) → a ≡ true → (a || b) ≡ true
or_true a b e = ap (λ (x : Bool). x || b) e

among_later : (kept before : List (List ℕ)) (name : List ℕ) → StandAmong kept before → StandAmong kept (before ++ name ∷ [])
among_later kept before name all n e = among-push n name before ∙ or_true (is_among n before) (is_among n (name ∷ [])) (all n e)

repeat_after-filter : (keep : List ℕ → Bool) (before kept names : List (List ℕ)) → StandAmong kept before → repeat_after before names ≡ None → repeat_after kept (filter keep names) ≡ None
repeat_after-filter keep before kept [] all e = refl
repeat_after-filter keep before kept (name ∷ names) all e =
    by_repeat (is_among name before) refl e
    (λ rest. repeat_after-filter keep (before ++ name ∷ []) (kept ++ name ∷ []) names (more_among kept before name all) rest)
    (λ rest. repeat_after-filter keep (before ++ name ∷ []) kept names (among_later kept before name all) rest)
  where
    Rest : Type 0
    Rest = repeat_after (before ++ name ∷ []) names ≡ None

    Kept : Type 0
    Kept = repeat_after (kept ++ name ∷ []) (filter keep names) ≡ None

    by_kept : (b : Bool) → is_among name kept ≡ b → is_among name before ≡ false → Kept → cond (is_among name kept) (Some (length kept)) (repeat_after (kept ++ name ∷ []) (filter keep names)) ≡ None
    by_kept true is none e = absurd (false≢true (sym none ∙ all name is))
    by_kept false is none e = ap (λ (b : Bool). cond b (Some (length kept)) (repeat_after (kept ++ name ∷ []) (filter keep names))) is ∙ e

    by_keep : (b : Bool) → is_among name before ≡ false → Kept → repeat_after kept (filter keep names) ≡ None → repeat_after kept (cond b (name ∷ filter keep names) (filter keep names)) ≡ None
    by_keep true none taken left = by_kept (is_among name kept) refl none taken
    by_keep false none taken left = left

    by_repeat : (b : Bool) → is_among name before ≡ b → cond b (Some (length before)) (repeat_after (before ++ name ∷ []) names) ≡ None → (Rest → Kept) → (Rest → repeat_after kept (filter keep names) ≡ None)
        → repeat_after kept (filter keep (name ∷ names)) ≡ None
    by_repeat true is e taken left = cc
    by_repeat false is e taken left = by_keep (keep name) is (taken e) (left e)

pub repeat_of-filter : (keep : List ℕ → Bool) (names : List (List ℕ)) → repeat_of names ≡ None → repeat_of (filter keep names) ≡ None
repeat_of-filter keep names e = repeat_after-filter keep [] [] names (λ n is. is) e
