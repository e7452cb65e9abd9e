-- Texts without case.
use Rattle.std.proofs.Common.{◌≡◌, ◌<◌, ◌≤◌, ℕ, ◌+◌, ◌-◌, Bool, true, false, List, length, map, take, drop, slice_index, nat_eq, Option, refl, sym, ap, ◌∙◌, arith}
use Rattle.std.specs.Prelude.{IsTrue, ◌↔◌}
use Rattle.std.specs.Cmp.Lexicographic.{pointwise}
use Rattle.std.specs.Char.{to_ascii_lowercase, to_ascii_uppercase}
use Rattle.std.proofs.lemmas.Bool.Decides.{nat_tests}
use Rattle.std.proofs.lemmas.List.{length-map, length-take, take-map, drop-map, get_or-take, get_or-drop}
use Rattle.std.proofs.Math.ListN.{get_or-map}
use Rattle.memchr.specs.Find.{IsFirst, IsFirstByte, Passes, is_byte2}
use Rattle.memchr.proofs.lemmas.FindLemmas.{IsFirst-agree}
use Rattle.kq_value_formats.specs.Strings.{occurs_at, endswith_cs}
use Rattle.kq_value_strings.specs.declared.case.Case.{Case}
use Rattle.kq_value_strings.specs.declared.case.Case.TheVariants.{Exact, Ignored}
use Rattle.kq_value_strings.specs.Case.{in_case, folded, seen}
use Rattle.kq_value_strings.proofs.Occurs.{same_test, pointwise-shorter, ends_within, ends_longer}

pub length-in_case : (by : Case) (s : List ℕ) → length (in_case by s) ≡ length s
length-in_case Exact s = refl
length-in_case Ignored s = length-map s to_ascii_lowercase

-- ---- an occurrence without case, over any mapping of the bytes

module _ (f : ℕ → ℕ) where
  occurs_at-map : (s t : List ℕ) (i : ℕ) → occurs_at (map f s) (map f t) i ≡ pointwise nat_eq (map f t) (map f (take (length t) (drop i s)))
  occurs_at-map s t i = ap (pointwise nat_eq (map f t)) (rw (length-map t f, drop-map f i s, take-map f (length t) (drop i s)))

  pub stands_within : (s t : List ℕ) (i : ℕ) (r : Bool) → (IsTrue r ↔ (map f (take (length t) (drop i s)) ≡ map f t)) → r ≡ occurs_at (map f s) (map f t) i
  stands_within s t i r h = same_test r _ _ h ∙ sym (occurs_at-map s t i)

  pub stands_past : (s t : List ℕ) (i : ℕ) → length (drop i s) < length t → occurs_at (map f s) (map f t) i ≡ false
  stands_past s t i h =
      let short = length-take (length t) (drop i s) in
      occurs_at-map s t i ∙ pointwise-shorter (map f t) (map f (take (length t) (drop i s))) (rw (length-map t f, length-map (take (length t) (drop i s)) f) (omega arith))

-- ---- at the end

pub endswith_within : (by : Case) (s t : List ℕ) → length t ≤ length s → occurs_at (in_case by s) (in_case by t) (length s - length t) ≡ endswith_cs (in_case by s) (in_case by t)
endswith_within by s t h =
    let m = length-in_case by s in
    let n = length-in_case by t in
    let at : length s - length t ≡ length (in_case by s) - length (in_case by t) = omega arith in
    ap (occurs_at (in_case by s) (in_case by t)) at ∙ ends_within (in_case by s) (in_case by t) (omega arith)

pub endswith_longer : (by : Case) (s t : List ℕ) → length s < length t → endswith_cs (in_case by s) (in_case by t) ≡ false
endswith_longer by s t h =
    let m = length-in_case by s in
    let n = length-in_case by t in
    ends_longer (in_case by s) (in_case by t) (omega arith)

-- ---- bytes

pub seen-folded : (by : Case) (s : List ℕ) (k : ℕ) → seen by s k ≡ folded by (slice_index s k)
seen-folded Exact s k = refl
seen-folded Ignored s k = get_or-map to_ascii_lowercase s k 0

pub seen-range : (by : Case) (s : List ℕ) (a n k : ℕ) → k < n → seen by (take n (drop a s)) k ≡ seen by s (a + k)
seen-range by s a n k h =
    seen-folded by (take n (drop a s)) k ∙ ap (folded by) (get_or-take n (drop a s) k 0 h ∙ get_or-drop a s k 0) ∙ sym (seen-folded by s (a + k))

either_case : (b x : ℕ) → is_byte2 (to_ascii_lowercase b) (to_ascii_uppercase b) x ≡ true → to_ascii_lowercase b ≡ to_ascii_lowercase x
either_case b x = grind (arith, nat_tests)

in_either_case : (b x : ℕ) → to_ascii_lowercase b ≡ to_ascii_lowercase x → is_byte2 (to_ascii_lowercase b) (to_ascii_uppercase b) x ≡ true
in_either_case b x = grind (arith, nat_tests)

pub first-either : (b : ℕ) (s : List ℕ) (r : Option ℕ) → IsFirstByte (is_byte2 (to_ascii_lowercase b) (to_ascii_uppercase b)) s r
    → IsFirst (λ k. folded Ignored b ≡ seen Ignored s k) 0 (length s) r
first-either b s r = IsFirst-agree (Passes (is_byte2 (to_ascii_lowercase b) (to_ascii_uppercase b)) s) (λ k. folded Ignored b ≡ seen Ignored s k) 0 (length s)
    (λ k l p. either_case b (slice_index s k) p ∙ sym (seen-folded Ignored s k))
    (λ k l q. in_either_case b (slice_index s k) (q ∙ seen-folded Ignored s k))
    r
