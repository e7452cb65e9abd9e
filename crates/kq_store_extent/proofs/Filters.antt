-- Extents in two lists, with one more, and without the first of the small ones.
use Rattle.std.proofs.Common.{◌≡◌, ℕ, zero, suc, Bool, true, false, not, cond, List, [], ◌∷◌, ◌++◌, drop, refl, ap, sym, subst, ◌∙◌, append-nil}
use Rattle.std.specs.List.{filter}
use Rattle.std.proofs.lemmas.List.Elements.{filter-append}
use Rattle.kq_store_extent.specs.Seen.{ExtentView, HeldExtents}
use Rattle.kq_store_extent.specs.Split.{AreSplit, is_small, put, without, without_first}

-- those that pass, without the first
filter-without : {T : Type 0} (k : ℕ) (test : T → Bool) (xs : List T) → filter test (without k test xs) ≡ drop k (filter test xs)
filter-without zero test xs = refl
filter-without (suc k) test [] = refl
filter-without {T} (suc k) test (x ∷ xs) = by_test (filter-without k test xs) (filter-without (suc k) test xs) (test x) refl
  where
    by_test : filter test (without k test xs) ≡ drop k (filter test xs) → filter test (without (suc k) test xs) ≡ drop (suc k) (filter test xs)
        → (b : Bool) → test x ≡ b → filter test (cond b (without k test xs) (x ∷ without (suc k) test xs)) ≡ drop (suc k) (cond b (x ∷ filter test xs) (filter test xs))
    by_test fewer same true is = fewer
    by_test fewer same false is = ap (λ (c : Bool). cond c (x ∷ filter test (without (suc k) test xs)) (filter test (without (suc k) test xs))) is ∙ same

-- those that don't pass all stay
filter-not-without : {T : Type 0} (k : ℕ) (test : T → Bool) (xs : List T) → filter (λ y. not (test y)) (without k test xs) ≡ filter (λ y. not (test y)) xs
filter-not-without zero test xs = refl
filter-not-without (suc k) test [] = refl
filter-not-without {T} (suc k) test (x ∷ xs) = by_test (filter-not-without k test xs) (filter-not-without (suc k) test xs) (test x) refl
  where
    by_test : filter (λ y. not (test y)) (without k test xs) ≡ filter (λ y. not (test y)) xs → filter (λ y. not (test y)) (without (suc k) test xs) ≡ filter (λ y. not (test y)) xs
        → (b : Bool) → test x ≡ b → filter (λ y. not (test y)) (cond b (without k test xs) (x ∷ without (suc k) test xs)) ≡ cond (not b) (x ∷ filter (λ y. not (test y)) xs) (filter (λ y. not (test y)) xs)
    by_test fewer same true is = fewer
    by_test fewer same false is = ap (λ (c : Bool). cond (not c) (x ∷ filter (λ y. not (test y)) (without (suc k) test xs)) (filter (λ y. not (test y)) (without (suc k) test xs))) is ∙ ap (λ (ys : List T). x ∷ ys) same

put-small : (held : HeldExtents) (e : ExtentView) → is_small e ≡ true → put held e ≡ record { small = held.small ++ e ∷ []; big = held.big }
put-small held e is = ap (λ (b : Bool). cond b (record { small = held.small ++ e ∷ []; big = held.big }) (record { small = held.small; big = held.big ++ e ∷ [] })) is

put-big : (held : HeldExtents) (e : ExtentView) → is_small e ≡ false → put held e ≡ record { small = held.small; big = held.big ++ e ∷ [] }
put-big held e is = ap (λ (b : Bool). cond b (record { small = held.small ++ e ∷ []; big = held.big }) (record { small = held.small; big = held.big ++ e ∷ [] })) is

abbrev pub held_by : List ExtentView → List ExtentView → HeldExtents
held_by small big = record { small = small; big = big }

-- a small extent comes last among the small ones
pub put_in_small : (small big new : List ExtentView) (held : HeldExtents) (e : ExtentView) → held_by small big ≡ held → is_small e ≡ true → new ≡ small ++ e ∷ [] → held_by new big ≡ put held e
put_in_small small big new held e view is items = ap (λ (es : List ExtentView). held_by es big) items ∙ sym (put-small (held_by small big) e is) ∙ ap (λ (h : HeldExtents). put h e) view

-- another comes last among the others
pub put_in_big : (small big new : List ExtentView) (held : HeldExtents) (e : ExtentView) → held_by small big ≡ held → is_small e ≡ false → new ≡ big ++ e ∷ [] → held_by small new ≡ put held e
put_in_big small big new held e view is items = ap (λ (es : List ExtentView). held_by small es) items ∙ sym (put-big (held_by small big) e is) ∙ ap (λ (h : HeldExtents). put h e) view

-- an extent more keeps the two lists split
AreSplit-put : (all : List ExtentView) (held : HeldExtents) (e : ExtentView) → AreSplit all held → AreSplit (all ++ e ∷ []) (put held e)
AreSplit-put all held e split = by_test (is_small e) refl
  where
    by_test : (b : Bool) → is_small e ≡ b → AreSplit (all ++ e ∷ []) (cond b (record { small = held.small ++ e ∷ []; big = held.big }) (record { small = held.small; big = held.big ++ e ∷ [] }))
    by_test true is = record {
      small = ap (λ es. es ++ e ∷ []) split.small ∙ ap (λ (b : Bool). filter is_small all ++ cond b (e ∷ []) []) (sym is) ∙ sym (filter-append is_small all (e ∷ []));
      big = split.big ∙ sym (append-nil (filter (λ x. not (is_small x)) all)) ∙ ap (λ (b : Bool). filter (λ x. not (is_small x)) all ++ cond (not b) (e ∷ []) []) (sym is) ∙ sym (filter-append (λ x. not (is_small x)) all (e ∷ []));
    }
    by_test false is = record {
      small = split.small ∙ sym (append-nil (filter is_small all)) ∙ ap (λ (b : Bool). filter is_small all ++ cond b (e ∷ []) []) (sym is) ∙ sym (filter-append is_small all (e ∷ []));
      big = ap (λ es. es ++ e ∷ []) split.big ∙ ap (λ (b : Bool). filter (λ x. not (is_small x)) all ++ cond (not b) (e ∷ []) []) (sym is) ∙ sym (filter-append (λ x. not (is_small x)) all (e ∷ []));
    }

-- without the first small ones they stay split
pub AreSplit-without : (all : List ExtentView) (count : ℕ) (held : HeldExtents) → AreSplit all held → AreSplit (without count is_small all) (without_first count held)
AreSplit-without all count held split = record {
  small = ap (λ es. drop count es) split.small ∙ sym (filter-without count is_small all);
  big = split.big ∙ sym (filter-not-without count is_small all);
}

-- what is the lists with an extent more is split as they are
pub AreSplit-more : (all : List ExtentView) (held new : HeldExtents) (e : ExtentView) → new ≡ put held e → AreSplit all held → AreSplit (all ++ e ∷ []) new
AreSplit-more all held new e is split = subst (λ (h : HeldExtents). AreSplit (all ++ e ∷ []) h) (sym is) (AreSplit-put all held e split)
