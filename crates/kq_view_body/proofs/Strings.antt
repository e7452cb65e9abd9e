-- What a string says, by its first byte.
use Rattle.std.proofs.Common.{◌≡◌, ℕ, ◌<◌, ◌==◌, ◌&&◌, true, false, if◌then◌else◌, List, [], ◌∷◌, length, get_or, refl, sym, ap, arith}
use Rattle.kq_read_literals.specs.Strings.{long_text_of, quoted_text_of, string_text_of, verbatim_text_of}
use Rattle.kq_read_meanings.specs.Names.{string_said}
use Rattle.kq_read_tokens.specs.Delimited.{is_long_string, is_string, is_verbatim_quoted, is_verbatim_string}

pub verbatim_said : (bs : List ℕ) → 0 < length bs → (get_or bs 0 0 == 64) ≡ true → (if is_verbatim_string bs then verbatim_text_of bs else []) ≡ string_said bs
unfolding string_text_of
verbatim_said [] some e = absurd (omega arith)
verbatim_said (b ∷ bs) some e = rw e (ap (λ t. if t && is_verbatim_quoted bs then verbatim_text_of (b ∷ bs) else []) (sym e))

pub long_said : (bs : List ℕ) → 0 < length bs → (get_or bs 0 0 == 64) ≡ false → (get_or bs 0 0 == 96) ≡ true → (if is_long_string bs then long_text_of bs else []) ≡ string_said bs
unfolding string_text_of
long_said [] some e k = absurd (omega arith)
long_said (b ∷ bs) some e k = rw (e, k) refl

pub quoted_said : (bs : List ℕ) → 0 < length bs → (get_or bs 0 0 == 64) ≡ false → (get_or bs 0 0 == 96) ≡ false → (if is_string bs then quoted_text_of bs else []) ≡ string_said bs
unfolding string_text_of
quoted_said [] some e k = absurd (omega arith)
quoted_said (b ∷ bs) some e k = rw (e, k) refl
