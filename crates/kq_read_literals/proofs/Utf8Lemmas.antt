-- What a string says is UTF-8 where its token is.
use Rattle.std.proofs.Common.{◌≡◌, ℕ, zero, suc, ◌<◌, ◌≤◌, ◌+◌, ◌-◌, Bool, true, false, ◌==◌, if◌then◌else◌, List, [], ◌∷◌, ◌++◌, append_assoc, append-nil, get_or, length, take, drop, length-append, Ok, Err, inl, inr, refl, sym, ◌∙◌, ap, subst, arith}
use Rattle.std.specs.Char.{InScalarRange, IsScalar, digit_value, encode_utf8}
use Rattle.std.specs.Str.{IsUtf8}
use Rattle.std.specs.Str.Parse.{digits_value}
use Rattle.std.proofs.lemmas.Bool.Decides.{nat_tests}
use Rattle.std.proofs.lemmas.List.{get_or-append-add, take_all}
use Rattle.std.proofs.lemmas.Str.{IsUtf8-append, IsUtf8-encode, IsUtf8-from_ascii, IsUtf8-take, IsUtf8-drop, IsCharBoundary-before_ascii, IsCharBoundary-after_ascii}
use Rattle.kq_read_tokens.specs.declared.delimited.Within.TheVariants.{Quoted, Escape, FirstDigit}
use Rattle.kq_read_tokens.specs.declared.delimited.End.TheVariants.{Closed, Refused}
use Rattle.kq_read_tokens.specs.Bytes.{is_end}
use Rattle.kq_read_tokens.specs.Delimited.{by_step, closes, digit_then, is_escape, is_long_string, is_quote, is_string, is_verbatim, is_verbatim_quoted, is_verbatim_string, step}
use Rattle.kq_read_tokens.proofs.TestLemmas.{both_true, equal_of}
use Rattle.kq_read_literals.specs.Strings.{letter_of, long_text_of, undoubled, unescaped}
use Rattle.kq_read_literals.proofs.StandsForLemmas.{long_stands}
use Rattle.kq_read_literals.proofs.StringLemmas.{Code, code_is, digits_behind, step_false, taken}

wrong : {A : Type 0} → false ≡ true → A
wrong h = absurd (cc)

-- ---- a byte of ASCII parts a text

take_front : (front rest : List ℕ) → take (length front) (front ++ rest) ≡ front
take_front [] rest = refl
take_front (a ∷ front) rest = ap (λ l. a ∷ l) (take_front front rest)

drop_front : (front rest : List ℕ) (b : ℕ) → drop (length front + 1) (front ++ b ∷ rest) ≡ rest
drop_front [] rest b = refl
drop_front (a ∷ front) rest b = let more : length (a ∷ front) + 1 ≡ suc (length front + 1) = omega arith in ap (λ n. drop n (a ∷ (front ++ b ∷ rest))) more ∙ drop_front front rest b

record Parted (front rest : List ℕ) : Type 0 where
  before : IsUtf8 front
  behind : IsUtf8 rest

parted : (front : List ℕ) (b : ℕ) (rest : List ℕ) → b < 128 → IsUtf8 (front ++ b ∷ rest) → Parted front rest
parted front b rest small utf8 =
    let none : length front + 0 ≡ length front = omega arith in
    let at : get_or (front ++ b ∷ rest) (length front) 0 ≡ b = ap (λ n. get_or (front ++ b ∷ rest) n 0) (sym none) ∙ get_or-append-add front (b ∷ rest) 0 0 in
    let within : length front < length (front ++ b ∷ rest) = omega (arith, length-append front (b ∷ rest)) in
    let ascii : get_or (front ++ b ∷ rest) (length front) 0 < 128 = subst (λ n. n < 128) (sym at) small in
    record {
      before = subst IsUtf8 (take_front front (b ∷ rest)) (IsUtf8-take (front ++ b ∷ rest) (length front) utf8 (IsCharBoundary-before_ascii (front ++ b ∷ rest) (length front) within ascii));
      behind = subst IsUtf8 (drop_front front rest b) (IsUtf8-drop (front ++ b ∷ rest) (length front + 1) utf8 (IsCharBoundary-after_ascii (front ++ b ∷ rest) (length front) utf8 within ascii));
    }

ascii_one : (b : ℕ) → b < 128 → IsUtf8 (b ∷ [])
ascii_one b small = IsUtf8-from_ascii (b ∷ []) (λ i. at i) where
  at : (i : ℕ) → get_or (b ∷ []) i 0 < 128
  at zero = small
  at (suc i) = omega arith

one_more : (front : List ℕ) (b : ℕ) (rest : List ℕ) → (front ++ b ∷ []) ++ rest ≡ front ++ b ∷ rest
one_more front b rest = append_assoc front (b ∷ []) rest

-- ---- strings in quotes

small_escape : (c : ℕ) → is_escape c ≡ true → c < 128
small_escape c h = grind (arith, nat_tests)

small_letter : (c : ℕ) → c < 128 → letter_of c < 128
small_letter c h = grind (arith, nat_tests)

small_slash : (b : ℕ) → (b == 92) ≡ true → b < 128
small_slash b h = grind (arith, nat_tests)

-- what is known of shorter bytes
abbrev Rest : ℕ → ℕ → Type 0
Rest quote n = (front more : List ℕ) → length more ≤ n → IsUtf8 (front ++ more) → closes step (Quoted quote) more ≡ true → IsUtf8 (front ++ unescaped quote 0 more)

at_letter : (quote n c : ℕ) (front bs : List ℕ) → c < 128 → IsUtf8 front → IsUtf8 (c ∷ bs) → length bs ≤ n → closes step (Quoted quote) bs ≡ true → Rest quote n → IsUtf8 (front ++ letter_of c ∷ unescaped quote 0 bs)
at_letter quote n c front bs small utf8 more short h rest =
    let behind = (parted [] c bs small more).behind in
    IsUtf8-append front (letter_of c ∷ unescaped quote 0 bs) utf8 (IsUtf8-append (letter_of c ∷ []) (unescaped quote 0 bs) (ascii_one (letter_of c) (small_letter c small)) (rest [] bs short behind h))

small_digit : (c : ℕ) → digit_value c < 16 → c < 128
small_digit c h = grind (arith, nat_tests)

behind_code : (quote : ℕ) (bs : List ℕ) → (p : Code quote bs) → IsUtf8 bs → IsUtf8 p.rest
behind_code quote bs p utf8 =
    let a = (parted [] p.first (p.second ∷ p.third ∷ p.fourth ∷ p.rest) (small_digit p.first p.first_is) (subst IsUtf8 p.is utf8)).behind in
    let b = (parted [] p.second (p.third ∷ p.fourth ∷ p.rest) (small_digit p.second p.second_is) a).behind in
    let c = (parted [] p.third (p.fourth ∷ p.rest) (small_digit p.third p.third_is) b).behind in
    (parted [] p.fourth p.rest (small_digit p.fourth p.fourth_is) c).behind

is_scalar : (c : ℕ) → InScalarRange c → IsScalar c
is_scalar c (inl h) = grind (arith, nat_tests)
is_scalar c (inr h) = let a = h.0 in let b = h.1 in grind (arith, nat_tests)

at_character : (quote n c : ℕ) (front bs : List ℕ) → c < 128 → IsUtf8 front → IsUtf8 (c ∷ bs) → length bs ≤ n → (p : Code quote bs) → Rest quote n → IsUtf8 (front ++ (encode_utf8 (digits_value 16 (take 4 bs)) ++ unescaped quote 4 bs))
at_character quote n c front bs small utf8 more short p rest =
    let behind = behind_code quote bs p ((parted [] c bs small more).behind) in
    let len : length bs ≡ length (p.first ∷ p.second ∷ p.third ∷ p.fourth ∷ p.rest) = ap length p.is in
    let there : unescaped quote 4 bs ≡ unescaped quote 0 p.rest = ap (λ l. unescaped quote 4 l) p.is in
    let tail : IsUtf8 (unescaped quote 4 bs) = subst IsUtf8 (sym there) (rest [] p.rest (omega arith) behind p.closed) in
    IsUtf8-append front (encode_utf8 (digits_value 16 (take 4 bs)) ++ unescaped quote 4 bs) utf8 (IsUtf8-append (encode_utf8 (digits_value 16 (take 4 bs))) (unescaped quote 4 bs) (IsUtf8-encode (digits_value 16 (take 4 bs)) (is_scalar (digits_value 16 (take 4 bs)) (code_is quote bs p).scalar)) tail)

at_escape : (quote n b c : ℕ) (front bs : List ℕ) (u : Bool) → (c == 117) ≡ u → (b == quote) ≡ false → (b == 92) ≡ true → length bs ≤ n → IsUtf8 (front ++ b ∷ c ∷ bs) → closes step (Escape quote) (c ∷ bs) ≡ true → Rest quote n → IsUtf8 (front ++ unescaped quote 0 (b ∷ c ∷ bs))
at_escape quote n b c front bs true u e k short utf8 h rest =
    let parts = parted front b (c ∷ bs) (small_slash b k) utf8 in
    let small : c < 128 = let is = equal_of c 117 u in omega arith in
    let text : unescaped quote 0 (b ∷ c ∷ bs) ≡ encode_utf8 (digits_value 16 (take 4 bs)) ++ unescaped quote 4 bs = rw (e, k, u) refl in
    subst (λ l. IsUtf8 (front ++ l)) (sym text) (at_character quote n c front bs small parts.before parts.behind short (digits_behind quote c bs u h) rest)
at_escape quote n b c front bs false u e k short utf8 h rest =
    let parts = parted front b (c ∷ bs) (small_slash b k) utf8 in
    let letter = taken (is_escape c) (Quoted quote) (λ t. closes step t bs) (is_end bs) (step_false (c == 117) (Ok (FirstDigit quote)) (digit_then is_escape (Quoted quote) c) (λ t. closes step t bs) (is_end bs) u h) in
    let text : unescaped quote 0 (b ∷ c ∷ bs) ≡ letter_of c ∷ unescaped quote 0 bs = rw (e, k, u) refl in
    subst (λ l. IsUtf8 (front ++ l)) (sym text) (at_letter quote n c front bs (small_escape c letter.0) parts.before parts.behind short letter.1 rest)

at_slash : (quote n b : ℕ) (front bs : List ℕ) → (b == quote) ≡ false → (b == 92) ≡ true → length bs ≤ n → IsUtf8 (front ++ b ∷ bs) → closes step (Escape quote) bs ≡ true → Rest quote n → IsUtf8 (front ++ unescaped quote 0 (b ∷ bs))
at_slash quote n b front [] e k short utf8 h rest = wrong h
at_slash quote n b front (c ∷ bs) e k short utf8 h rest = at_escape quote n b c front bs (c == 117) refl e k (omega arith) utf8 h rest

in_line : (quote : ℕ) (bs : List ℕ) (t : Bool) → by_step (if t then Err Refused else Ok (Quoted quote)) (λ s. closes step s bs) (is_end bs) false ≡ true → closes step (Quoted quote) bs ≡ true
in_line quote bs true h = wrong h
in_line quote bs false h = h

at_other : (quote n b : ℕ) (front bs : List ℕ) (k : Bool) → (b == 92) ≡ k → (b == quote) ≡ false → length bs ≤ n → IsUtf8 (front ++ b ∷ bs) → by_step (if k then Ok (Escape quote) else (if b == 10 then Err Refused else Ok (Quoted quote))) (λ s. closes step s bs) (is_end bs) false ≡ true → Rest quote n → IsUtf8 (front ++ unescaped quote 0 (b ∷ bs))
at_other quote n b front bs true k e short utf8 h rest = at_slash quote n b front bs e k short utf8 h rest
at_other quote n b front bs false k e short utf8 h rest =
    let text : unescaped quote 0 (b ∷ bs) ≡ b ∷ unescaped quote 0 bs = rw (e, k) refl in
    let all = rest (front ++ b ∷ []) bs short (subst IsUtf8 (sym (one_more front b bs)) utf8) (in_line quote bs (b == 10) h) in
    subst (λ l. IsUtf8 (front ++ l)) (sym text) (subst IsUtf8 (one_more front b (unescaped quote 0 bs)) all)

at_byte : (quote n b : ℕ) (front bs : List ℕ) (e : Bool) → quote < 128 → (b == quote) ≡ e → length bs ≤ n → IsUtf8 (front ++ b ∷ bs) → by_step (if e then Err Closed else (if b == 92 then Ok (Escape quote) else (if b == 10 then Err Refused else Ok (Quoted quote)))) (λ s. closes step s bs) (is_end bs) false ≡ true → Rest quote n → IsUtf8 (front ++ unescaped quote 0 (b ∷ bs))
at_byte quote n b front bs true small e short utf8 h rest =
    let text : unescaped quote 0 (b ∷ bs) ≡ [] = rw e refl in
    let ascii : b < 128 = let is = equal_of b quote e in omega arith in
    subst (λ l. IsUtf8 (front ++ l)) (sym text) (subst IsUtf8 (sym (append-nil front)) (parted front b bs ascii utf8).before)
at_byte quote n b front bs false small e short utf8 h rest = at_other quote n b front bs (b == 92) refl e short utf8 h rest

unescaped_utf8 : (quote n : ℕ) (front bs : List ℕ) → quote < 128 → length bs ≤ n → IsUtf8 (front ++ bs) → closes step (Quoted quote) bs ≡ true → IsUtf8 (front ++ unescaped quote 0 bs)
unescaped_utf8 quote n front [] small short utf8 h = wrong h
unescaped_utf8 quote zero front (b ∷ bs) small short utf8 h = absurd (omega arith)
unescaped_utf8 quote (suc n) front (b ∷ bs) small short utf8 h = at_byte quote n b front bs (b == quote) small refl (omega arith) utf8 h (λ before more less u g. unescaped_utf8 quote n before more small less u g)

small_quote : (q : ℕ) → is_quote q ≡ true → q < 128
small_quote q h = grind (arith, nat_tests)

pub quoted_utf8 : (quote : ℕ) (bs : List ℕ) → is_string (quote ∷ bs) ≡ true → IsUtf8 (quote ∷ bs) → IsUtf8 (unescaped quote 0 bs)
quoted_utf8 quote bs h utf8 =
    let p = both_true (is_quote quote) (closes step (Quoted quote) bs) h in
    let small = small_quote quote p.0 in
    unescaped_utf8 quote (length bs) [] bs small (omega arith) (parted [] quote bs small utf8).behind p.1

-- ---- verbatim strings

record Undoubled (quote : ℕ) (bs : List ℕ) : Type 0 where
  open_is : (front : List ℕ) → is_verbatim quote false bs ≡ true → IsUtf8 (front ++ bs) → IsUtf8 (front ++ undoubled quote false bs)
  closed_is : (front : List ℕ) → is_verbatim quote true bs ≡ true → IsUtf8 (front ++ quote ∷ bs) → IsUtf8 (front ++ undoubled quote true bs)

open_at : (quote b : ℕ) (front bs : List ℕ) (t : Bool) → (b == quote) ≡ t → is_verbatim quote t bs ≡ true → IsUtf8 (front ++ b ∷ bs) → Undoubled quote bs → IsUtf8 (front ++ (if t then undoubled quote true bs else b ∷ undoubled quote false bs))
open_at quote b front bs true e h utf8 d = d.closed_is front h (subst (λ c. IsUtf8 (front ++ c ∷ bs)) (equal_of b quote e) utf8)
open_at quote b front bs false e h utf8 d = subst IsUtf8 (one_more front b (undoubled quote false bs)) (d.open_is (front ++ b ∷ []) h (subst IsUtf8 (sym (one_more front b bs)) utf8))

undoubled_utf8 : (quote : ℕ) (bs : List ℕ) → quote < 128 → Undoubled quote bs
undoubled_utf8 quote [] small = record {
  open_is = λ front h utf8. wrong h;
  closed_is = λ front h utf8. subst IsUtf8 (sym (append-nil front)) (parted front quote [] small utf8).before;
}
undoubled_utf8 quote (b ∷ bs) small = record {
  open_is = λ front h utf8. open_at quote b front bs (b == quote) refl h utf8 (undoubled_utf8 quote bs small);
  closed_is = λ front h utf8. (
      let p = both_true (b == quote) (is_verbatim quote false bs) h in
      let parts = parted front quote (b ∷ bs) small utf8 in
      let all = subst IsUtf8 (sym (one_more front b bs)) (IsUtf8-append front (b ∷ bs) parts.before parts.behind) in
      subst IsUtf8 (one_more front b (undoubled quote false bs)) ((undoubled_utf8 quote bs small).open_is (front ++ b ∷ []) p.1 all));
}

pub verbatim_utf8 : (a quote : ℕ) (bs : List ℕ) → is_verbatim_string (a ∷ quote ∷ bs) ≡ true → IsUtf8 (a ∷ quote ∷ bs) → IsUtf8 (undoubled quote false bs)
verbatim_utf8 a quote bs h utf8 =
    let p = both_true (a == 64) (is_verbatim_quoted (quote ∷ bs)) h in
    let q = both_true (is_quote quote) (is_verbatim quote false bs) p.1 in
    let small = small_quote quote q.0 in
    let at : a < 128 = let is = equal_of a 64 p.0 in omega arith in
    (undoubled_utf8 quote bs small).open_is [] q.1 (parted [] quote bs small (parted [] a (quote ∷ bs) at utf8).behind).behind

-- ---- long strings

long_utf8 : (bytes text : List ℕ) → bytes ≡ 96 ∷ 96 ∷ 96 ∷ (text ++ 96 ∷ 96 ∷ 96 ∷ []) → IsUtf8 bytes → IsUtf8 text
long_utf8 bytes text e utf8 = (parted text 96 (96 ∷ 96 ∷ []) (omega arith) (parted (96 ∷ 96 ∷ []) 96 (text ++ 96 ∷ 96 ∷ 96 ∷ []) (omega arith) (subst IsUtf8 e utf8)).behind).before

pub long_text_utf8 : (bytes : List ℕ) → is_long_string bytes ≡ true → IsUtf8 bytes → IsUtf8 (long_text_of bytes)
long_text_utf8 bytes h utf8 = long_utf8 bytes (long_text_of bytes) (long_stands bytes h) utf8

-- ---- what the code finds

pub quoted_found : (bytes text : List ℕ) → is_string bytes ≡ true → IsUtf8 bytes → text ≡ unescaped (get_or bytes 0 0) 0 (take (length bytes - 1) (drop 1 bytes)) → IsUtf8 text
quoted_found [] text h utf8 e = wrong h
quoted_found (q ∷ bs) text h utf8 e = subst IsUtf8 (sym (e ∙ ap (unescaped q 0) (take_all (length (q ∷ bs) - 1) bs (omega arith)))) (quoted_utf8 q bs h utf8)

pub verbatim_found : (bytes text : List ℕ) → is_verbatim_string bytes ≡ true → IsUtf8 bytes → text ≡ undoubled (get_or bytes 1 0) false (take (length bytes - 2) (drop 2 bytes)) → IsUtf8 text
verbatim_found [] text h utf8 e = wrong h
verbatim_found (a ∷ []) text h utf8 e = wrong (both_true (a == 64) false h).1
verbatim_found (a ∷ q ∷ bs) text h utf8 e = subst IsUtf8 (sym (e ∙ ap (undoubled q false) (take_all (length (a ∷ q ∷ bs) - 2) bs (omega arith)))) (verbatim_utf8 a q bs h utf8)

pub long_found : (bytes : List ℕ) → is_long_string bytes ≡ true → IsUtf8 bytes → IsUtf8 (take (length bytes - 3 - 3) (drop 3 bytes))
long_found bytes h utf8 = let place : length bytes - 6 ≡ length bytes - 3 - 3 = omega arith in subst (λ n. IsUtf8 (take n (drop 3 bytes))) place (long_text_utf8 bytes h utf8)
