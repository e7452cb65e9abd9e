-- Terms, and the occurrences that count.
use Rattle.std.proofs.Common.{◌≡◌, ◌<◌, ◌≤◌, ℕ, ◌+◌, ◌-◌, ◌==◌, Bool, true, false, not, ◌||◌, ◌&&◌, List, length, map, get_or, refl, sym, ap, ◌∙◌, ⊎_elim, arith}
use Rattle.std.specs.Char.{to_ascii_lowercase, is_ascii_alphanumeric}
use Rattle.std.proofs.lemmas.Bool.{cases_lt}
use Rattle.std.proofs.lemmas.Bool.Decides.{nat_tests}
use Rattle.std.proofs.lemmas.List.{length-map}
use Rattle.std.proofs.Math.ListN.{get_or-map}
use Rattle.kq_value_formats.specs.Strings.{occurs_at, are_joined, is_term_at}
use Rattle.kq_value_strings.specs.declared.case.Case.{Case}
use Rattle.kq_value_strings.specs.declared.case.Case.TheVariants.{Exact, Ignored}
use Rattle.kq_value_strings.specs.Case.{in_case}
use Rattle.kq_value_strings.specs.declared.search.Occurrence.{Occurrence}
use Rattle.kq_value_strings.specs.declared.search.Occurrence.TheVariants.{Any, Term}
use Rattle.kq_value_strings.specs.Found.{counts, counts_at, NoneBelow, is_found}
use Rattle.kq_value_strings.proofs.Occurs.{any_none, any_at, past}

alphanumeric_lower : (c : ℕ) → is_ascii_alphanumeric (to_ascii_lowercase c) ≡ is_ascii_alphanumeric c
alphanumeric_lower c = grind (arith, nat_tests)

module _ (f : ℕ → ℕ) (start : f 0 ≡ 0) (same : (c : ℕ) → is_ascii_alphanumeric (f c) ≡ is_ascii_alphanumeric c) where
  read : (xs : List ℕ) (k : ℕ) → is_ascii_alphanumeric (get_or (map f xs) k 0) ≡ is_ascii_alphanumeric (get_or xs k 0)
  read xs k = ap is_ascii_alphanumeric (ap (get_or (map f xs) k) (sym start) ∙ get_or-map f xs k 0) ∙ same (get_or xs k 0)

  joined : (xs ys : List ℕ) (j k : ℕ) → are_joined (get_or (map f xs) j 0) (get_or (map f ys) k 0) ≡ are_joined (get_or xs j 0) (get_or ys k 0)
  joined xs ys j k = λ i. read xs j i && read ys k i

  pub is_term_at-map : (s t : List ℕ) (i : ℕ) → is_term_at (map f s) (map f t) i ≡ is_term_at s t i
  is_term_at-map s t i =
      rw (length-map t f, length-map s f)
      (λ j. ((i == 0) || not (joined s t (i - 1) 0 j)) && ((i + length t == length s) || not (joined t s (length t - 1) (i + length t) j)))

pub is_term_at-in_case : (by : Case) (s t : List ℕ) (i : ℕ) → is_term_at (in_case by s) (in_case by t) i ≡ is_term_at s t i
is_term_at-in_case Exact s t i = refl
is_term_at-in_case Ignored s t i = is_term_at-map to_ascii_lowercase refl alphanumeric_lower s t i

-- ---- occurrences that count

pub counts-in_case : (which : Occurrence) (by : Case) (s t : List ℕ) (i : ℕ) → counts which (in_case by s) (in_case by t) i ≡ counts which s t i
counts-in_case Any by s t i = refl
counts-in_case Term by s t i = is_term_at-in_case by s t i

and_yes : (b : Bool) → (b && true) ≡ b
and_yes true = refl
and_yes false = refl

and_no : (b : Bool) → (b && false) ≡ false
and_no true = refl
and_no false = refl

pub counts-none : (which : Occurrence) (s t : List ℕ) (i : ℕ) → occurs_at s t i ≡ false → counts_at which s t i ≡ false
counts-none which s t i e = λ j. e j && counts which s t i

pub counts-not : (which : Occurrence) (s t : List ℕ) (i : ℕ) → counts which s t i ≡ false → counts_at which s t i ≡ false
counts-not which s t i e = (λ j. occurs_at s t i && e j) ∙ and_no (occurs_at s t i)

pub counts-both : (which : Occurrence) (s t : List ℕ) (i : ℕ) → occurs_at s t i ≡ true → counts which s t i ≡ true → counts_at which s t i ≡ true
counts-both which s t i occurs counted = λ j. occurs j && counted j

none_zero : (n : ℕ) → 0 < n → (n == 0) ≡ false
none_zero n h = grind (arith, nat_tests)

found-none : (which : Occurrence) (s t : List ℕ) → 0 < length t → ((k : ℕ) → k ≤ length s → counts_at which s t k ≡ false) → is_found which s t ≡ false
found-none Any s t some h = any_none (occurs_at s t) 0 (length s + 1) (λ k low high. sym (and_yes (occurs_at s t k)) ∙ h k (omega arith))
found-none Term s t some h = λ j. none_zero (length t) some j || any_none (counts_at Term s t) 0 (length s + 1) (λ k low high. h k (omega arith)) j

or_yes : (b : Bool) → (b || true) ≡ true
or_yes true = refl
or_yes false = refl

pub found-at : (which : Occurrence) (s t : List ℕ) (i : ℕ) → i ≤ length s → counts_at which s t i ≡ true → is_found which s t ≡ true
found-at Any s t i h e = any_at (occurs_at s t) (length s + 1) i (omega arith) (sym (and_yes (occurs_at s t i)) ∙ e)
found-at Term s t i h e = (λ j. (length t == 0) || any_at (counts_at Term s t) (length s + 1) i (omega arith) e j) ∙ or_yes (length t == 0)

pub none_below-more : (which : Occurrence) (s t : List ℕ) (i : ℕ) → NoneBelow which s t i → counts_at which s t i ≡ false → NoneBelow which s t (i + 1)
none_below-more which s t i below here = λ k h. ⊎_elim (λ lt. below k lt) (λ low. let at : k ≡ i = omega arith in ap (counts_at which s t) at ∙ here) (cases_lt k i)

-- none below a place from which on no occurrence fits
pub found-end : (which : Occurrence) (s t : List ℕ) (i : ℕ) → 0 < length t → length s < i + length t → NoneBelow which s t i → is_found which s t ≡ false
found-end which s t i some ended below =
    found-none which s t some (λ k h. ⊎_elim (λ early. below k early) (λ late. counts-none which s t k (past s t k h (omega arith))) (cases_lt k i))
