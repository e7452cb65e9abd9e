-- Strings, an escape and a byte at a time.
use Rattle.std.proofs.Common.{◌≡◌, ℕ, zero, suc, ◌<◌, ◌≤◌, ◌+◌, ◌-◌, ◌*◌, Bool, true, false, ◌||◌, ◌&&◌, ◌==◌, nat_le, if◌then◌else◌, List, [], ◌∷◌, ◌++◌, ◌⊎◌, inl, inr, length, get_or, take, drop, append_assoc, length-drop, Result, Ok, Err, refl, sym, ◌∙◌, ap, subst, arith}
use Rattle.std.specs.Prelude.{codes}
use Rattle.std.specs.Char.{InScalarRange, digit_value}
use Rattle.std.specs.Str.Parse.{IsNumeral, digits_value}
use Rattle.std.proofs.lemmas.Bool.Decides.{nat_tests}
use Rattle.std.proofs.lemmas.List.{drop-drop, drop_more, take_all}
use Rattle.kq_read_tokens.specs.declared.delimited.Within.{Within}
use Rattle.kq_read_tokens.specs.declared.delimited.Within.TheVariants.{Quoted, Escape, FirstDigit, SecondDigit, SecondDigitBehindD, ThirdDigit, FourthDigit, Ticked, OneTick, TwoTicks}
use Rattle.kq_read_tokens.specs.declared.delimited.End.{End}
use Rattle.kq_read_tokens.specs.declared.delimited.End.TheVariants.{Closed, Refused}
use Rattle.kq_read_tokens.specs.Bytes.{begins_with, is_end, is_hexadecimal_digit}
use Rattle.kq_read_tokens.specs.Delimited.{by_step, closes, digit_then, is_escape, is_long_string, step}
use Rattle.kq_read_tokens.proofs.TestLemmas.{both_true}
use Rattle.kq_read_literals.specs.Strings.{escape_len, escape_of, unescaped}

-- ---- tests in steps

pub step_true : {S : Type 0} (t : Bool) (x y : Result S End) (on : S → Bool) (ends : Bool) → t ≡ true → by_step (if t then x else y) on ends false ≡ true → by_step x on ends false ≡ true
step_true true x y on ends e h = h
step_true false x y on ends e h = let no_way : false ≡ true = e in absurd (cc)

pub step_false : {S : Type 0} (t : Bool) (x y : Result S End) (on : S → Bool) (ends : Bool) → t ≡ false → by_step (if t then x else y) on ends false ≡ true → by_step y on ends false ≡ true
step_false true x y on ends e h = let no_way : true ≡ false = e in absurd (cc)
step_false false x y on ends e h = h

pub taken : (t : Bool) (next : Within) (on : Within → Bool) (ends : Bool) → by_step (if t then Ok next else Err Refused) on ends false ≡ true → (t ≡ true) × (on next ≡ true)
taken true next on ends h = (refl, h)
taken false next on ends h = let no_way : false ≡ true = h in absurd (cc)

-- ---- the digits of an escape

record Digit (class : ℕ → Bool) (next : Within) (bs : List ℕ) : Type 0 where
  digit : ℕ
  rest : List ℕ
  is : bs ≡ digit ∷ rest
  passes : class digit ≡ true
  closed : closes step next rest ≡ true

one_digit : (state next : Within) (class : ℕ → Bool) → ((b : ℕ) → step state b ≡ digit_then class next b) → (bs : List ℕ) → closes step state bs ≡ true → Digit class next bs
one_digit state next class steps [] h = let no_way : false ≡ true = h in absurd (cc)
one_digit state next class steps (b ∷ bs) h =
    let p = taken (class b) next (λ t. closes step t bs) (is_end bs) (subst (λ r. by_step r (λ t. closes step t bs) (is_end bs) false ≡ true) (steps b) h) in
    record { digit = b; rest = bs; is = refl; passes = p.0; closed = p.1 }

abbrev is_octal : ℕ → Bool
is_octal c = nat_le 48 c && nat_le c 55

abbrev is_d : ℕ → Bool
is_d b = b == 68 || b == 100

-- four digits that are no surrogate, and what follows them
pub record Code (quote : ℕ) (bs : List ℕ) : Type 0 where
  pub first : ℕ
  pub second : ℕ
  pub third : ℕ
  pub fourth : ℕ
  pub rest : List ℕ
  pub is : bs ≡ first ∷ second ∷ third ∷ fourth ∷ rest
  pub first_is : digit_value first < 16
  pub second_is : digit_value second < 16
  pub third_is : digit_value third < 16
  pub fourth_is : digit_value fourth < 16
  pub no_surrogate : (digit_value first < 13) ⊎ ((13 < digit_value first) ⊎ ((digit_value first ≡ 13) × (digit_value second < 8)))
  pub closed : closes step (Quoted quote) rest ≡ true

hexadecimal_below : (b : ℕ) → is_hexadecimal_digit b ≡ true → digit_value b < 16
hexadecimal_below b h = grind (arith, nat_tests)

octal_below : (b : ℕ) → is_octal b ≡ true → digit_value b < 8
octal_below b h = grind (arith, nat_tests)

d_is : (b : ℕ) → is_d b ≡ true → digit_value b ≡ 13
d_is b h = grind (arith, nat_tests)

other_is : (b : ℕ) → is_d b ≡ false → is_hexadecimal_digit b ≡ true → (digit_value b < 13) ⊎ (13 < digit_value b)
other_is b e h = grind (arith, nat_tests)

last_two : (quote a b : ℕ) (bs : List ℕ) → digit_value a < 16 → digit_value b < 16 → (digit_value a < 13) ⊎ ((13 < digit_value a) ⊎ ((digit_value a ≡ 13) × (digit_value b < 8))) → closes step (ThirdDigit quote) bs ≡ true → Code quote (a ∷ b ∷ bs)
last_two quote a b bs ha hb none h =
    let third = one_digit (ThirdDigit quote) (FourthDigit quote) is_hexadecimal_digit (λ c. refl) bs h in
    let fourth = one_digit (FourthDigit quote) (Quoted quote) is_hexadecimal_digit (λ c. refl) third.rest third.closed in
    record {
      first = a;
      second = b;
      third = third.digit;
      fourth = fourth.digit;
      rest = fourth.rest;
      is = ap (λ l. a ∷ b ∷ l) (third.is ∙ ap (λ l. third.digit ∷ l) fourth.is);
      first_is = ha;
      second_is = hb;
      third_is = hexadecimal_below third.digit third.passes;
      fourth_is = hexadecimal_below fourth.digit fourth.passes;
      no_surrogate = none;
      closed = fourth.closed;
    }

apart : (v w : ℕ) → (v < 13) ⊎ (13 < v) → (v < 13) ⊎ ((13 < v) ⊎ ((v ≡ 13) × (w < 8)))
apart v w (inl p) = inl p
apart v w (inr p) = inr (inl p)

first_at : (quote a : ℕ) (bs : List ℕ) (t : Bool) → is_d a ≡ t → by_step (if t then Ok (SecondDigitBehindD quote) else digit_then is_hexadecimal_digit (SecondDigit quote) a) (λ s. closes step s bs) (is_end bs) false ≡ true → Code quote (a ∷ bs)
first_at quote a bs true e h =
    let second = one_digit (SecondDigitBehindD quote) (ThirdDigit quote) is_octal (λ c. refl) bs h in
    let low = octal_below second.digit second.passes in
    let thirteen = d_is a e in
    subst (λ l. Code quote (a ∷ l)) (sym second.is) (last_two quote a second.digit second.rest (omega arith) (omega arith) (inr (inr (thirteen, low))) second.closed)
first_at quote a bs false e h =
    let first = taken (is_hexadecimal_digit a) (SecondDigit quote) (λ s. closes step s bs) (is_end bs) h in
    let second = one_digit (SecondDigit quote) (ThirdDigit quote) is_hexadecimal_digit (λ c. refl) bs first.1 in
    subst (λ l. Code quote (a ∷ l)) (sym second.is) (last_two quote a second.digit second.rest (hexadecimal_below a first.0) (hexadecimal_below second.digit second.passes) (apart (digit_value a) (digit_value second.digit) (other_is a e first.0)) second.closed)

code_at : (quote : ℕ) (bs : List ℕ) → closes step (FirstDigit quote) bs ≡ true → Code quote bs
code_at quote [] h = let no_way : false ≡ true = h in absurd (cc)
code_at quote (a ∷ bs) h = first_at quote a bs (is_d a) refl h

in_range : (a b c d : ℕ) → a < 16 → b < 16 → c < 16 → d < 16 → (a < 13) ⊎ ((13 < a) ⊎ ((a ≡ 13) × (b < 8))) → InScalarRange (((((0 * 16 + a) * 16 + b) * 16 + c) * 16) + d)
in_range a b c d ha hb hc hd (inl p) = inl (omega arith)
in_range a b c d ha hb hc hd (inr (inl p)) = inr (omega arith, omega arith)
in_range a b c d ha hb hc hd (inr (inr p)) = inl (omega arith)

-- four digits of a character
pub record IsCode (digits : List ℕ) : Type 0 where
  pub numeral : IsNumeral 16 digits
  pub scalar : InScalarRange (digits_value 16 digits)

pub code_is : (quote : ℕ) (bs : List ℕ) → Code quote bs → IsCode (take 4 bs)
code_is quote bs p =
    subst (λ l. IsCode (take 4 l)) (sym p.is) (record {
      numeral = (omega arith, (p.first_is, (p.second_is, (p.third_is, (p.fourth_is, tt)))));
      scalar = in_range (digit_value p.first) (digit_value p.second) (digit_value p.third) (digit_value p.fourth) p.first_is p.second_is p.third_is p.fourth_is p.no_surrogate;
    })

-- ---- an escape

pub digits_behind : (quote c : ℕ) (bs : List ℕ) → (c == 117) ≡ true → closes step (Escape quote) (c ∷ bs) ≡ true → Code quote bs
digits_behind quote c bs e h = code_at quote bs (step_true (c == 117) (Ok (FirstDigit quote)) (digit_then is_escape (Quoted quote) c) (λ t. closes step t bs) (is_end bs) e h)

tail_all : (c : ℕ) (bs : List ℕ) → take (length (c ∷ bs) - 1) (drop 1 (c ∷ bs)) ≡ bs
tail_all c bs = take_all (length (c ∷ bs) - 1) bs (omega arith)

pub escape_code : (quote : ℕ) (bs : List ℕ) → closes step (Escape quote) bs ≡ true → (get_or bs 0 0 == 117) ≡ true → IsCode (take 4 (take (length bs - 1) (drop 1 bs)))
escape_code quote [] h e = let no_way : false ≡ true = h in absurd (cc)
escape_code quote (c ∷ bs) h e = subst (λ l. IsCode (take 4 l)) (sym (tail_all c bs)) (code_is quote bs (digits_behind quote c bs e h))

long_code : (quote : ℕ) (bs : List ℕ) → Code quote bs → 4 ≤ length bs
long_code quote bs p = subst (λ l. 4 ≤ length l) (sym p.is) (omega arith)

pub escape_long : (quote : ℕ) (bs : List ℕ) → closes step (Escape quote) bs ≡ true → (get_or bs 0 0 == 117) ≡ true → 5 ≤ length bs
escape_long quote [] h e = let no_way : false ≡ true = h in absurd (cc)
escape_long quote (c ∷ bs) h e = omega (arith, long_code quote bs (digits_behind quote c bs e h))

closed_code : (quote : ℕ) (bs : List ℕ) → Code quote bs → closes step (Quoted quote) (drop 4 bs) ≡ true
closed_code quote bs p = subst (λ l. closes step (Quoted quote) (drop 4 l) ≡ true) (sym p.is) p.closed

behind_escape_at : (quote c : ℕ) (bs : List ℕ) (t : Bool) → (c == 117) ≡ t → closes step (Escape quote) (c ∷ bs) ≡ true → closes step (Quoted quote) (drop (if t then 5 else 1) (c ∷ bs)) ≡ true
behind_escape_at quote c bs true e h = closed_code quote bs (digits_behind quote c bs e h)
behind_escape_at quote c bs false e h =
    (taken (is_escape c) (Quoted quote) (λ t. closes step t bs) (is_end bs) (step_false (c == 117) (Ok (FirstDigit quote)) (digit_then is_escape (Quoted quote) c) (λ t. closes step t bs) (is_end bs) e h)).1

-- the string goes on behind an escape
pub behind_escape : (quote : ℕ) (bs : List ℕ) → closes step (Escape quote) bs ≡ true → closes step (Quoted quote) (drop (escape_len bs) bs) ≡ true
behind_escape quote [] h = let no_way : false ≡ true = h in absurd (cc)
behind_escape quote (c ∷ bs) h = behind_escape_at quote c bs (c == 117) refl h

-- ---- a byte of a string

module _ (quote : ℕ) (bytes : List ℕ) (i : ℕ) (within : i < length bytes) where
  abbrev here : ℕ
  here = get_or bytes i 0

  abbrev others : List ℕ
  others = drop (i + 1) bytes

  at_here : (F : List ℕ → Bool) → F (drop i bytes) ≡ F (here ∷ others)
  at_here F = ap F (drop_more bytes i 0 within)

  pub passed_text : (passed : ℕ) → 0 < passed → unescaped quote passed (drop i bytes) ≡ unescaped quote (passed - 1) (drop (i + 1) bytes)
  passed_text zero h = absurd (omega arith)
  passed_text (suc k) h =
      let less : k ≡ suc k - 1 = omega arith in
      ap (λ l. unescaped quote (suc k) l) (drop_more bytes i 0 within) ∙ ap (λ n. unescaped quote n (drop (i + 1) bytes)) less

  text_of_byte : unescaped quote 0 (drop i bytes) ≡ unescaped quote 0 (here ∷ others)
  text_of_byte = ap (λ l. unescaped quote 0 l) (drop_more bytes i 0 within)

  pub escape_text : (here == quote) ≡ false → (here == 92) ≡ true → unescaped quote 0 (drop i bytes) ≡ escape_of others ++ unescaped quote (escape_len others) others
  escape_text e k = text_of_byte ∙ rw (e, k) refl

  pub plain_text : (here == quote) ≡ false → (here == 92) ≡ false → unescaped quote 0 (drop i bytes) ≡ here ∷ unescaped quote 0 others
  plain_text e k = text_of_byte ∙ rw (e, k) refl

  pub end_text : (here == quote) ≡ true → unescaped quote 0 (drop i bytes) ≡ []
  end_text e = text_of_byte ∙ rw e refl

  abbrev behind_quote : Result Within End
  behind_quote = if here == 92 then Ok (Escape quote) else (if here == 10 then Err Refused else Ok (Quoted quote))

  no_quote : (here == quote) ≡ false → closes step (Quoted quote) (drop i bytes) ≡ true → by_step behind_quote (λ t. closes step t others) (is_end others) false ≡ true
  no_quote e h = step_false (here == quote) (Err Closed) behind_quote (λ t. closes step t others) (is_end others) e (sym (at_here (λ l. closes step (Quoted quote) l)) ∙ h)

  pub escape_closed : (here == quote) ≡ false → (here == 92) ≡ true → closes step (Quoted quote) (drop i bytes) ≡ true → closes step (Escape quote) others ≡ true
  escape_closed e k h = step_true (here == 92) (Ok (Escape quote)) (if here == 10 then Err Refused else Ok (Quoted quote)) (λ t. closes step t others) (is_end others) k (no_quote e h)

  in_line : (t : Bool) → by_step (if t then Err Refused else Ok (Quoted quote)) (λ s. closes step s others) (is_end others) false ≡ true → closes step (Quoted quote) others ≡ true
  in_line true h = let no_way : false ≡ true = h in absurd (cc)
  in_line false h = h

  pub plain_closed : (here == quote) ≡ false → (here == 92) ≡ false → closes step (Quoted quote) (drop i bytes) ≡ true → closes step (Quoted quote) others ≡ true
  plain_closed e k h = in_line (here == 10) (step_false (here == 92) (Ok (Escape quote)) (if here == 10 then Err Refused else Ok (Quoted quote)) (λ t. closes step t others) (is_end others) k (no_quote e h))

-- ---- long strings

ticks_at : (b : ℕ) (bs : List ℕ) (t : Bool) (next : Result Within End) → by_step (if t then next else Ok Ticked) (λ s. closes step s bs) (is_end bs) false ≡ true → (by_step next (λ s. closes step s bs) (is_end bs) false ≡ true) ⊎ (closes step Ticked bs ≡ true)
ticks_at b bs true next h = inl h
ticks_at b bs false next h = inr h

pub two_more : (bs : List ℕ) → closes step OneTick bs ≡ true → 2 ≤ length bs
two_more [] h = let no_way : false ≡ true = h in absurd (cc)
two_more (b ∷ []) h = elim (ticks_at b [] (b == 96) (Ok TwoTicks) h) [ inl k ↦ (let no_way : false ≡ true = k in absurd (cc)) | inr k ↦ (let no_way : false ≡ true = k in absurd (cc)) ]
two_more (b ∷ c ∷ bs) h = omega arith

pub three_more : (bs : List ℕ) → closes step Ticked bs ≡ true → 3 ≤ length bs
three_more [] h = let no_way : false ≡ true = h in absurd (cc)
three_more (b ∷ bs) h = elim (ticks_at b bs (b == 96) (Ok OneTick) h) [ inl k ↦ omega (arith, two_more bs k) | inr k ↦ omega (arith, three_more bs k) ]

pub long_string_long : (bytes : List ℕ) → is_long_string bytes ≡ true → 6 ≤ length bytes
long_string_long bytes h =
    let p = both_true (begins_with (codes "```") bytes) (closes step Ticked (drop 3 bytes)) h in
    omega (arith, three_more (drop 3 bytes) p.1, length-drop 3 bytes)

-- ---- one byte further

module _ (quote : ℕ) (bytes : List ℕ) (i : ℕ) (within : i < length bytes) (passed : ℕ) (text whole : List ℕ) (so_far : text ++ unescaped quote passed (drop i bytes) ≡ whole) (closed : closes step (Quoted quote) (drop (i + passed) bytes) ≡ true) where
  pub go_passed : (now : ℕ) → 0 < passed → now ≡ passed - 1 → (text ++ unescaped quote now (drop (i + 1) bytes) ≡ whole) × (closes step (Quoted quote) (drop (i + 1 + now) bytes) ≡ true)
  go_passed now h e =
      let place : i + passed ≡ i + 1 + now = omega arith in
      let same = passed_text quote bytes i within passed h ∙ ap (λ n. unescaped quote n (drop (i + 1) bytes)) (sym e) in
      (ap (λ l. text ++ l) (sym same) ∙ so_far, subst (λ n. closes step (Quoted quote) (drop n bytes) ≡ true) place closed)

  none_passed : passed ≤ 0 → passed ≡ 0
  none_passed h = omega arith

  so_far_here : passed ≤ 0 → text ++ unescaped quote 0 (drop i bytes) ≡ whole
  so_far_here h = subst (λ n. text ++ unescaped quote n (drop i bytes) ≡ whole) (none_passed h) so_far

  closed_here : passed ≤ 0 → closes step (Quoted quote) (drop i bytes) ≡ true
  closed_here h = let place : i + passed ≡ i = omega arith in subst (λ n. closes step (Quoted quote) (drop n bytes) ≡ true) place closed

  not_quote : (get_or bytes i 0 ≡ quote → ⊥) → (get_or bytes i 0 == quote) ≡ false
  not_quote h = grind (arith, nat_tests)

  is_slash : get_or bytes i 0 ≡ 92 → (get_or bytes i 0 == 92) ≡ true
  is_slash h = grind (arith, nat_tests)

  not_slash : (get_or bytes i 0 ≡ 92 → ⊥) → (get_or bytes i 0 == 92) ≡ false
  not_slash h = grind (arith, nat_tests)

  rest_all : take (length bytes - (i + 1)) (drop (i + 1) bytes) ≡ drop (i + 1) bytes
  rest_all = take_all (length bytes - (i + 1)) (drop (i + 1) bytes) (omega (arith, length-drop (i + 1) bytes))

  pub escape_here : passed ≤ 0 → (get_or bytes i 0 ≡ quote → ⊥) → get_or bytes i 0 ≡ 92 → closes step (Escape quote) (take (length bytes - (i + 1)) (drop (i + 1) bytes)) ≡ true
  escape_here none q s = subst (λ l. closes step (Escape quote) l ≡ true) (sym rest_all) (escape_closed quote bytes i within (not_quote q) (is_slash s) (closed_here none))

  pub go_escape : (now : ℕ) (more : List ℕ) → passed ≤ 0 → (get_or bytes i 0 ≡ quote → ⊥) → get_or bytes i 0 ≡ 92 → more ≡ text ++ escape_of (take (length bytes - (i + 1)) (drop (i + 1) bytes)) → now ≡ escape_len (take (length bytes - (i + 1)) (drop (i + 1) bytes))
      → (more ++ unescaped quote now (drop (i + 1) bytes) ≡ whole) × (closes step (Quoted quote) (drop (i + 1 + now) bytes) ≡ true)
  go_escape now more none q s e f =
      let rest = drop (i + 1) bytes in
      let e' : more ≡ text ++ escape_of rest = e ∙ ap (λ l. text ++ escape_of l) rest_all in
      let f' : now ≡ escape_len rest = f ∙ ap escape_len rest_all in
      let here_is = escape_text quote bytes i within (not_quote q) (is_slash s) in
      let behind = behind_escape quote rest (escape_closed quote bytes i within (not_quote q) (is_slash s) (closed_here none)) in
      let place : drop (escape_len rest) rest ≡ drop (i + 1 + now) bytes = drop-drop (escape_len rest) (i + 1) bytes ∙ ap (λ n. drop (i + 1 + n) bytes) (sym f') in (
        ap (λ l. l ++ unescaped quote now rest) e' ∙ append_assoc text (escape_of rest) (unescaped quote now rest) ∙ ap (λ n. text ++ (escape_of rest ++ unescaped quote n rest)) f' ∙ ap (λ l. text ++ l) (sym here_is) ∙ so_far_here none,
        subst (λ l. closes step (Quoted quote) l ≡ true) place behind,
      )

  pub go_plain : (now : ℕ) (more : List ℕ) → passed ≤ 0 → (get_or bytes i 0 ≡ quote → ⊥) → (get_or bytes i 0 ≡ 92 → ⊥) → more ≡ text ++ get_or bytes i 0 ∷ [] → now ≡ passed
      → (more ++ unescaped quote now (drop (i + 1) bytes) ≡ whole) × (closes step (Quoted quote) (drop (i + 1 + now) bytes) ≡ true)
  go_plain now more none q s e f =
      let rest = drop (i + 1) bytes in
      let b = get_or bytes i 0 in
      let zero_is : now ≡ 0 = omega arith in
      let place : i + 1 ≡ i + 1 + now = omega arith in
      let here_is = plain_text quote bytes i within (not_quote q) (not_slash s) in (
        ap (λ l. l ++ unescaped quote now rest) e ∙ append_assoc text (b ∷ []) (unescaped quote now rest) ∙ ap (λ n. text ++ (b ∷ unescaped quote n rest)) zero_is ∙ ap (λ l. text ++ l) (sym here_is) ∙ so_far_here none,
        subst (λ n. closes step (Quoted quote) (drop n bytes) ≡ true) place (plain_closed quote bytes i within (not_quote q) (not_slash s) (closed_here none)),
      )
