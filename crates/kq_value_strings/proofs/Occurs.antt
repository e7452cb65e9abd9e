-- Where a text stands in another, in the words of the searches.
use Rattle.std.proofs.Common.{◌≡◌, ◌<◌, ◌≤◌, ℕ, zero, suc, ◌+◌, ◌-◌, Bool, true, false, ◌||◌, ◌&&◌, List, [], ◌∷◌, length, take, drop, nat_eq, Option, Some, None, refl, sym, ap, subst, arith}
use Rattle.std.specs.Prelude.{IsTrue, ◌↔◌}
use Rattle.std.specs.Option.{is_some}
use Rattle.std.specs.List.{list_any, range_with_len}
use Rattle.std.specs.Cmp.Lexicographic.{pointwise}
use Rattle.std.proofs.lemmas.Bool.{and_from, and_parts, le-leb}
use Rattle.std.proofs.lemmas.Bool.Decides.{same_from_decides}
use Rattle.std.proofs.lemmas.Slice.Eq.{bytes_eq-Decides}
use Rattle.std.proofs.lemmas.List.{length-take, length-drop, take_all}
use Rattle.memchr.specs.Find.{OccursAt, FindsNeedle}
use Rattle.memchr.proofs.lemmas.MatchLemmas.{OccursAt-true, occurs_at-true}
use Rattle.kq_value_formats.specs.Strings.{occurs_at, contains_cs, endswith_cs}

-- ---- equal bytes, as a test

pub same_test : (r : Bool) (xs ys : List ℕ) → (IsTrue r ↔ (ys ≡ xs)) → r ≡ pointwise nat_eq xs ys
same_test r xs ys h = same_from_decides r (pointwise nat_eq xs ys) ((λ e. sym (h.0 e)), (λ e. h.1 (sym e))) (bytes_eq-Decides xs ys)

pub pointwise-shorter : (xs ys : List ℕ) → length ys < length xs → pointwise nat_eq xs ys ≡ false
pointwise-shorter [] ys h = absurd (omega arith)
pointwise-shorter (x ∷ xs) [] h = refl
pointwise-shorter (x ∷ xs) (y ∷ ys) h = rw (pointwise-shorter xs ys (omega arith)) (and_no (nat_eq x y))
  where
    and_no : (b : Bool) → (b && false) ≡ false
    and_no true = refl
    and_no false = refl

-- ---- the same place, in the words of memchr

pub OccursAt-from : (s t : List ℕ) (i : ℕ) → i ≤ length s → occurs_at s t i ≡ true → OccursAt s t i
OccursAt-from s t i h e =
    let same : t ≡ take (length t) (drop i s) = (bytes_eq-Decides t _).0 e in
    let n : length t ≡ length (take (length t) (drop i s)) = ap length same in
    let fits : i + length t ≤ length s = omega (arith, length-take (length t) (drop i s), length-drop i s) in
    OccursAt-true s t i (and_from _ _ (le-leb _ _ fits) ((bytes_eq-Decides _ t).1 (sym same)))

pub occurs_at-from : (s t : List ℕ) (i : ℕ) → OccursAt s t i → occurs_at s t i ≡ true
occurs_at-from s t i h =
    let parts = and_parts _ _ (occurs_at-true s t i h) in
    let same : take (length t) (drop i s) ≡ t = (bytes_eq-Decides _ t).0 parts.1 in
    (bytes_eq-Decides t _).1 (sym same)

pub not_true : (b : Bool) → (b ≡ true → ⊥) → b ≡ false
not_true true h = absurd (h refl)
not_true false h = refl

pub past : (s t : List ℕ) (i : ℕ) → i ≤ length s → length s < i + length t → occurs_at s t i ≡ false
past s t i h far = not_true _ (λ e. let fits = (OccursAt-from s t i h e).fits in omega arith)

-- ---- a search through all places

pub any_none : (P : ℕ → Bool) (a n : ℕ) → ((k : ℕ) → a ≤ k → k < a + n → P k ≡ false) → list_any P (range_with_len a n) ≡ false
any_none P a zero h = refl
any_none P a (suc n) h = λ i. h a (omega arith) (omega arith) i || any_none P (a + 1) n (λ k low high. h k (omega arith) (omega arith)) i

pub any_some : (P : ℕ → Bool) (a n k : ℕ) → k < n → P (a + k) ≡ true → list_any P (range_with_len a n) ≡ true
any_some P a zero k h e = absurd (omega arith)
any_some P a (suc n) zero h e =
    let at : a + 0 ≡ a = omega arith in
    rw (subst (λ (j : ℕ). P j ≡ true) at e)
any_some P a (suc n) (suc k) h e =
    let at : a + suc k ≡ a + 1 + k = omega arith in
    rw (any_some P (a + 1) n k (omega arith) (subst (λ (j : ℕ). P j ≡ true) at e)) (or_yes (P a))
  where
    or_yes : (b : Bool) → (b || true) ≡ true
    or_yes true = refl
    or_yes false = refl

pub any_at : (P : ℕ → Bool) (n k : ℕ) → k < n → P k ≡ true → list_any P (range_with_len 0 n) ≡ true
any_at P n k h e = any_some P 0 n k h (subst (λ (j : ℕ). P j ≡ true) (omega arith) e)

pub is_some-occurs : (s t : List ℕ) (r : Option ℕ) → FindsNeedle s t 0 r → is_some r ≡ contains_cs s t
is_some-occurs s t None h = sym (any_none (occurs_at s t) 0 (length s + 1) (λ k low high. not_true _ (λ e. h k low (omega arith) (OccursAt-from s t k (omega arith) e))))
is_some-occurs s t (Some i) h = sym (any_at (occurs_at s t) (length s + 1) i (omega (arith, h.1.fits)) (occurs_at-from s t i h.1))

-- ---- at the end

pub ends_within : (s t : List ℕ) → length t ≤ length s → occurs_at s t (length s - length t) ≡ endswith_cs s t
ends_within s t h =
    let all : take (length t) (drop (length s - length t) s) ≡ drop (length s - length t) s = take_all (length t) (drop (length s - length t) s) (omega (arith, length-drop (length s - length t) s)) in
    ap (pointwise nat_eq t) all

pub ends_longer : (s t : List ℕ) → length s < length t → endswith_cs s t ≡ false
ends_longer s t h = pointwise-shorter t (drop (length s - length t) s) (omega (arith, length-drop (length s - length t) s))
