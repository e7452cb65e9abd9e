-- White space around a text.
use Rattle.std.proofs.Common.{◌≡◌, ◌<◌, ℕ, suc, ◌+◌, Bool, true, false, List, [], ◌∷◌, ◌++◌, length, get_or, take, reverse, refl, ap, arith}
use Rattle.std.specs.Prelude.{IsUtf8}
use Rattle.std.specs.List.{prefix_len}
use Rattle.std.specs.Str.{IsCharBoundary}
use Rattle.std.proofs.lemmas.Bool.Decides.{nat_tests}
use Rattle.std.proofs.lemmas.Grind.{common_steps}
use Rattle.std.proofs.lemmas.List.{reverse-append}
use Rattle.std.proofs.lemmas.Str.{IsCharBoundary-start, IsCharBoundary-after_ascii, IsUtf8-drop}
use Rattle.kq_value_formats.specs.Cells.{is_white}
use Rattle.kq_read_meanings.specs.Forms.{without_leading_white, without_trailing_white}

pub small_white : (b : ℕ) → is_white b ≡ true → b < 128
small_white b h = grind (arith, nat_tests)

last_taken : (text : List ℕ) (n : ℕ) → n < length text → take (n + 1) text ≡ take n text ++ get_or text n 0 ∷ []
last_taken text n h = grind (arith, common_steps)

leading_one : (b : ℕ) (rest : List ℕ) → is_white b ≡ true → without_leading_white (b ∷ rest) ≡ without_leading_white rest
leading_one b rest h =
    let more : 1 + prefix_len is_white rest ≡ suc (prefix_len is_white rest) = omega arith in
    rw (h, more) refl

drops_white : (front : List ℕ) (b : ℕ) → is_white b ≡ true → without_trailing_white (front ++ b ∷ []) ≡ without_trailing_white front
drops_white front b h = rw (reverse-append front (b ∷ [])) (ap reverse (leading_one b (reverse front) h))

-- a white at the end makes no difference
pub without_trailing_white-take : (text : List ℕ) (n : ℕ) → n < length text → is_white (get_or text n 0) ≡ true
    → without_trailing_white (take (n + 1) text) ≡ without_trailing_white (take n text)
without_trailing_white-take text n lt h = rw (last_taken text n lt) (drops_white (take n text) (get_or text n 0) h)

behind_ascii : (b : ℕ) (rest : List ℕ) → b < 128 → IsUtf8 (b ∷ rest) → IsUtf8 rest
behind_ascii b rest small utf8 = IsUtf8-drop (b ∷ rest) 1 utf8 (IsCharBoundary-after_ascii (b ∷ rest) 0 utf8 (omega arith) small)

white_or_not : (b : ℕ) (rest : List ℕ) (white : Bool) → is_white b ≡ white → IsUtf8 (b ∷ rest) → (IsUtf8 rest → IsCharBoundary rest (prefix_len is_white rest))
    → IsCharBoundary (b ∷ rest) (prefix_len is_white (b ∷ rest))
white_or_not b rest true e utf8 behind =
    let left = behind (behind_ascii b rest (small_white b e) utf8) in
    let more : 1 + prefix_len is_white rest ≡ suc (prefix_len is_white rest) = omega arith in
    rw (e, more) (omega (arith, left.0), λ within high. left.1 (omega arith) high)
white_or_not b rest false e utf8 behind = rw e (IsCharBoundary-start (b ∷ rest) utf8)

-- behind the white at the start a text may be cut
pub boundary_behind_white : (text : List ℕ) → IsUtf8 text → IsCharBoundary text (prefix_len is_white text)
boundary_behind_white [] utf8 = IsCharBoundary-start [] utf8
boundary_behind_white (b ∷ rest) utf8 = white_or_not b rest (is_white b) refl utf8 (boundary_behind_white rest)
