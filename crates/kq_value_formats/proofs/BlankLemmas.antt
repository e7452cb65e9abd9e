-- A text may be cut beside a blank, and a blank at an end makes no difference.
use Rattle.std.proofs.Common.{◌≡◌, ◌<◌, ℕ, suc, ◌+◌, true, List, [], ◌∷◌, ◌++◌, length, get_or, take, drop, reverse, refl, ap, arith, add-one, drop-cons}
use Rattle.std.specs.List.{prefix_len}
use Rattle.std.specs.Str.{IsUtf8, IsCharBoundary}
use Rattle.std.proofs.lemmas.Bool.Decides.{nat_tests}
use Rattle.std.proofs.lemmas.Grind.{common_steps}
use Rattle.std.proofs.lemmas.List.{reverse-append}
use Rattle.std.proofs.lemmas.Str.{IsCharBoundary-before_ascii, IsCharBoundary-after_ascii}
use Rattle.kq_value_formats.specs.Cells.{is_blank}
use Rattle.kq_value_formats.specs.Blanks.{without_leading_blanks, without_trailing_blanks}

blank_small : (b : ℕ) → is_blank b ≡ true → b < 128
blank_small b h = grind (arith, nat_tests)

pub boundary_before_blank : (text : List ℕ) (i : ℕ) → i < length text → is_blank (get_or text i 0) ≡ true → IsCharBoundary text i
boundary_before_blank text i l h = IsCharBoundary-before_ascii text i l (blank_small _ h)

pub boundary_after_blank : (text : List ℕ) (i : ℕ) → IsUtf8 text → i < length text → is_blank (get_or text i 0) ≡ true → IsCharBoundary text (i + 1)
boundary_after_blank text i u l h = IsCharBoundary-after_ascii text i u l (blank_small _ h)

last_taken : (text : List ℕ) (n : ℕ) → n < length text → take (n + 1) text ≡ take n text ++ get_or text n 0 ∷ []
last_taken text n h = grind (arith, common_steps)

leading_blank : (b : ℕ) (rest : List ℕ) → is_blank b ≡ true → without_leading_blanks (b ∷ rest) ≡ without_leading_blanks rest
leading_blank b rest h =
    let more : 1 + prefix_len is_blank rest ≡ suc (prefix_len is_blank rest) = omega arith in
    rw (h, more) refl

drops_blank : (front : List ℕ) (b : ℕ) → is_blank b ≡ true → without_trailing_blanks (front ++ b ∷ []) ≡ without_trailing_blanks front
drops_blank front b h = rw (reverse-append front (b ∷ [])) (ap reverse (leading_blank b (reverse front) h))

-- a blank at the end makes no difference
pub without_trailing_blanks-take : (text : List ℕ) (n : ℕ) → n < length text → is_blank (get_or text n 0) ≡ true
    → without_trailing_blanks (take (n + 1) text) ≡ without_trailing_blanks (take n text)
without_trailing_blanks-take text n lt h = rw (last_taken text n lt) (drops_blank (take n text) (get_or text n 0) h)

-- nor does one in front
pub without_leading_blanks-drop : (text : List ℕ) (n : ℕ) → n < length text → is_blank (get_or text n 0) ≡ true
    → without_leading_blanks (drop n text) ≡ without_leading_blanks (drop (n + 1) text)
without_leading_blanks-drop text n lt h = rw (add-one, drop-cons text n 0) (leading_blank (get_or text n 0) (drop (suc n) text) h)
