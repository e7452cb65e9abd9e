-- Where white space ends a text may be cut.
use Rattle.std.proofs.Common.{◌≡◌, ℕ, zero, suc, ◌<◌, ◌≤◌, ◌+◌, true, List, length, get_or, subst, arith}
use Rattle.std.specs.List.{prefix_len}
use Rattle.std.specs.Str.{IsCharBoundary, IsUtf8}
use Rattle.std.proofs.lemmas.Bool.Decides.{nat_tests}
use Rattle.std.proofs.lemmas.List.Sums.{prefix_len_passes}
use Rattle.std.proofs.lemmas.Str.{IsCharBoundary-start, IsCharBoundary-after_ascii}
use Rattle.kq_read_commands.specs.Rows.{is_white}

white_small : (b : ℕ) → is_white b ≡ true → b < 128
white_small b h = grind (arith, nat_tests)

cut_after : (bytes : List ℕ) (n : ℕ) → IsUtf8 bytes → n ≤ prefix_len is_white bytes → n ≤ length bytes → IsCharBoundary bytes n
cut_after bytes zero utf8 le within = IsCharBoundary-start bytes utf8
cut_after bytes (suc n) utf8 le within =
    let next : n + 1 ≡ suc n = omega arith in
    subst (λ m. IsCharBoundary bytes m) next (IsCharBoundary-after_ascii bytes n utf8 (omega (arith, within)) (white_small (get_or bytes n 0) (prefix_len_passes is_white bytes n 0 (omega (arith, le)))))

pub white_ends : (bytes : List ℕ) (n : ℕ) → IsUtf8 bytes → n ≡ prefix_len is_white bytes → n ≤ length bytes → IsCharBoundary bytes n
white_ends bytes n utf8 is within = cut_after bytes n utf8 (omega (arith, is)) within
