-- The texts of strings stand for what the language says.
use Rattle.std.proofs.Common.{◌≡◌, ℕ, zero, suc, ◌≤◌, ◌-◌, Bool, true, false, ◌==◌, if◌then◌else◌, List, [], ◌∷◌, ◌++◌, length, take, drop, append_assoc, length-append, Result, Ok, Err, refl, sym, ◌∙◌, ap, subst, arith}
use Rattle.std.specs.Prelude.{IfOk}
use Rattle.std.specs.Char.{encode_utf8}
use Rattle.std.specs.Str.Parse.{digits_value}
use Rattle.std.proofs.lemmas.Bool.Decides.{nat_tests}
use Rattle.std.proofs.lemmas.List.{take-append-drop}
use Rattle.kq_read_tokens.specs.declared.kind.TokenKind.{TokenKind}
use Rattle.kq_read_tokens.specs.declared.kind.TokenKind.TheVariants as kind
use Rattle.kq_read_tokens.specs.declared.delimited.Within.TheVariants.{Quoted, Escape, FirstDigit, Ticked, OneTick, TwoTicks}
use Rattle.kq_read_tokens.specs.declared.delimited.End.TheVariants.{Closed, Refused}
use Rattle.kq_read_tokens.specs.Bytes.{begins_with, is_end}
use Rattle.kq_read_tokens.specs.Delimited.{by_step, closes, digit_then, is_escape, is_long_string, is_quote, is_string, is_verbatim, is_verbatim_quoted, is_verbatim_string, step}
use Rattle.kq_read_tokens.proofs.TestLemmas.{both_true, equal_of}
use Rattle.kq_read_literals.specs.Strings.{Spells, nothing, plain, letter, character, SpellsText, doubled, is_string_token, letter_of, long_text_of, quoted_text_of, string_text_of, undoubled, unescaped, verbatim_text_of}
use Rattle.kq_read_literals.proofs.RawLemmas.{same_text}
use Rattle.kq_read_literals.proofs.StringLemmas.{Code, digits_behind, step_false, taken}

no_string : {A : Type 0} → false ≡ true → A
no_string h = absurd (cc)

-- ---- strings in quotes

record Spelled (quote : ℕ) (bs : List ℕ) : Type 0 where
  within : List ℕ
  is : bs ≡ within ++ quote ∷ []
  spells : Spells quote within (unescaped quote 0 bs)

not_equal : (a b : ℕ) → (a == b) ≡ false → a ≡ b → ⊥
not_equal a b h e = grind (arith, nat_tests)

at_end : (quote b : ℕ) (bs : List ℕ) → (b == quote) ≡ true → is_end bs ≡ true → Spelled quote (b ∷ bs)
at_end quote b [] e h = record { within = []; is = ap (λ c. c ∷ []) (equal_of b quote e); spells = rw e nothing }
at_end quote b (c ∷ bs) e h = let no_way : false ≡ true = h in absurd (cc)

at_plain : (quote b : ℕ) (bs : List ℕ) → (b == quote) ≡ false → (b == 92) ≡ false → Spelled quote bs → Spelled quote (b ∷ bs)
at_plain quote b bs e k s = record {
  within = b ∷ s.within;
  is = ap (λ l. b ∷ l) s.is;
  spells = rw (e, k) (plain (not_equal b quote e) (not_equal b 92 k) s.spells);
}

at_letter : (quote b c : ℕ) (bs : List ℕ) → (b == quote) ≡ false → (b == 92) ≡ true → (c == 117) ≡ false → Spelled quote bs → Spelled quote (b ∷ c ∷ bs)
at_letter quote b c bs e k u s =
    let is_slash = equal_of b 92 k in
    let text : unescaped quote 0 (b ∷ c ∷ bs) ≡ letter_of c ∷ unescaped quote 0 bs = rw (e, k, u) refl in
    record {
      within = 92 ∷ c ∷ s.within;
      is = ap (λ l. l ∷ c ∷ bs) is_slash ∙ ap (λ l. 92 ∷ c ∷ l) s.is;
      spells = subst (Spells quote (92 ∷ c ∷ s.within)) (sym text) (letter (not_equal c 117 u) s.spells);
    }

at_character : (quote b c : ℕ) (bs : List ℕ) → (b == quote) ≡ false → (b == 92) ≡ true → (c == 117) ≡ true → (p : Code quote bs) → Spelled quote p.rest → Spelled quote (b ∷ c ∷ bs)
at_character quote b c bs e k u p s =
    let is_slash = equal_of b 92 k in
    let is_u = equal_of c 117 u in
    let digits = p.first ∷ p.second ∷ p.third ∷ p.fourth ∷ [] in
    let text : unescaped quote 0 (b ∷ c ∷ bs) ≡ encode_utf8 (digits_value 16 (take 4 bs)) ++ unescaped quote 4 bs = rw (e, k, u) refl in
    let there : encode_utf8 (digits_value 16 (take 4 bs)) ++ unescaped quote 4 bs ≡ encode_utf8 (digits_value 16 digits) ++ unescaped quote 0 p.rest = ap (λ l. encode_utf8 (digits_value 16 (take 4 l)) ++ unescaped quote 4 l) p.is in
    record {
      within = 92 ∷ 117 ∷ p.first ∷ p.second ∷ p.third ∷ p.fourth ∷ s.within;
      is = ap (λ l. l ∷ c ∷ bs) is_slash ∙ ap (λ l. 92 ∷ l ∷ bs) is_u ∙ ap (λ l. 92 ∷ 117 ∷ l) p.is ∙ ap (λ l. 92 ∷ 117 ∷ p.first ∷ p.second ∷ p.third ∷ p.fourth ∷ l) s.is;
      spells = subst (Spells quote (92 ∷ 117 ∷ p.first ∷ p.second ∷ p.third ∷ p.fourth ∷ s.within)) (sym (text ∙ there)) (character s.spells);
    }

shorter : (quote n : ℕ) (bs : List ℕ) (p : Code quote bs) → length bs ≤ n → length p.rest ≤ n
shorter quote n bs p h = let len : length bs ≡ length (p.first ∷ p.second ∷ p.third ∷ p.fourth ∷ p.rest) = ap length p.is in omega arith

-- what is known of shorter bytes
abbrev Rest : ℕ → ℕ → Type 0
Rest quote n = (more : List ℕ) → length more ≤ n → closes step (Quoted quote) more ≡ true → Spelled quote more

at_escape : (quote n b c : ℕ) (bs : List ℕ) (u : Bool) → (c == 117) ≡ u → (b == quote) ≡ false → (b == 92) ≡ true → length bs ≤ n → closes step (Escape quote) (c ∷ bs) ≡ true → Rest quote n → Spelled quote (b ∷ c ∷ bs)
at_escape quote n b c bs true u e k short h rest =
    let p = digits_behind quote c bs u h in
    at_character quote b c bs e k u p (rest p.rest (shorter quote n bs p short) p.closed)
at_escape quote n b c bs false u e k short h rest =
    at_letter quote b c bs e k u (rest bs short (taken (is_escape c) (Quoted quote) (λ t. closes step t bs) (is_end bs) (step_false (c == 117) (Ok (FirstDigit quote)) (digit_then is_escape (Quoted quote) c) (λ t. closes step t bs) (is_end bs) u h)).1)

at_slash : (quote n b : ℕ) (bs : List ℕ) → (b == quote) ≡ false → (b == 92) ≡ true → length bs ≤ n → closes step (Escape quote) bs ≡ true → Rest quote n → Spelled quote (b ∷ bs)
at_slash quote n b [] e k short h rest = let no_way : false ≡ true = h in absurd (cc)
at_slash quote n b (c ∷ bs) e k short h rest = at_escape quote n b c bs (c == 117) refl e k (omega arith) h rest

in_line : (quote : ℕ) (bs : List ℕ) (t : Bool) → by_step (if t then Err Refused else Ok (Quoted quote)) (λ s. closes step s bs) (is_end bs) false ≡ true → closes step (Quoted quote) bs ≡ true
in_line quote bs true h = let no_way : false ≡ true = h in absurd (cc)
in_line quote bs false h = h

-- behind a byte that is no quote
at_other : (quote n b : ℕ) (bs : List ℕ) (k : Bool) → (b == 92) ≡ k → (b == quote) ≡ false → length bs ≤ n → by_step (if k then Ok (Escape quote) else (if b == 10 then Err Refused else Ok (Quoted quote))) (λ s. closes step s bs) (is_end bs) false ≡ true → Rest quote n → Spelled quote (b ∷ bs)
at_other quote n b bs true k e short h rest = at_slash quote n b bs e k short h rest
at_other quote n b bs false k e short h rest = at_plain quote b bs e k (rest bs short (in_line quote bs (b == 10) h))

at_byte : (quote n b : ℕ) (bs : List ℕ) (e : Bool) → (b == quote) ≡ e → length bs ≤ n → by_step (if e then Err Closed else (if b == 92 then Ok (Escape quote) else (if b == 10 then Err Refused else Ok (Quoted quote)))) (λ s. closes step s bs) (is_end bs) false ≡ true → Rest quote n → Spelled quote (b ∷ bs)
at_byte quote n b bs true e short h rest = at_end quote b bs e h
at_byte quote n b bs false e short h rest = at_other quote n b bs (b == 92) refl e short h rest

spelled_within : (quote n : ℕ) (bs : List ℕ) → length bs ≤ n → closes step (Quoted quote) bs ≡ true → Spelled quote bs
spelled_within quote n [] short h = let no_way : false ≡ true = h in absurd (cc)
spelled_within quote zero (b ∷ bs) short h = absurd (omega arith)
spelled_within quote (suc n) (b ∷ bs) short h = at_byte quote n b bs (b == quote) refl (omega arith) h (λ more less g. spelled_within quote n more less g)

quoted_stands : (bytes : List ℕ) → is_string bytes ≡ true → SpellsText kind.String bytes (quoted_text_of bytes)
quoted_stands [] h = let no_way : false ≡ true = h in absurd (cc)
quoted_stands (quote ∷ bs) h =
    let s = spelled_within quote (length bs) bs (omega arith) (both_true (is_quote quote) (closes step (Quoted quote) bs) h).1 in
    (quote, s.within, ap (λ l. quote ∷ l) s.is, s.spells)

-- ---- verbatim strings

double_at : (quote b : ℕ) (text : List ℕ) (t : Bool) → (b == quote) ≡ t → doubled quote (b ∷ text) ≡ (if t then b ∷ b ∷ doubled quote text else b ∷ doubled quote text)
double_at quote b text true e = rw e refl
double_at quote b text false e = rw e refl

record Doubled (quote : ℕ) (bs : List ℕ) : Type 0 where
  open_is : is_verbatim quote false bs ≡ true → bs ≡ doubled quote (undoubled quote false bs) ++ quote ∷ []
  closed_is : is_verbatim quote true bs ≡ true → quote ∷ bs ≡ doubled quote (undoubled quote true bs) ++ quote ∷ []

open_at : (quote b : ℕ) (bs : List ℕ) (t : Bool) → (b == quote) ≡ t → is_verbatim quote t bs ≡ true → Doubled quote bs → b ∷ bs ≡ doubled quote (if t then undoubled quote true bs else b ∷ undoubled quote false bs) ++ quote ∷ []
open_at quote b bs true e h d = ap (λ c. c ∷ bs) (equal_of b quote e) ∙ d.closed_is h
open_at quote b bs false e h d = ap (λ l. b ∷ l) (d.open_is h) ∙ ap (λ l. l ++ quote ∷ []) (sym (double_at quote b (undoubled quote false bs) false e))

closed_at : (quote b : ℕ) (bs : List ℕ) → (b == quote) ≡ true → is_verbatim quote false bs ≡ true → Doubled quote bs → quote ∷ b ∷ bs ≡ doubled quote (b ∷ undoubled quote false bs) ++ quote ∷ []
closed_at quote b bs e h d =
    ap (λ c. c ∷ b ∷ bs) (sym (equal_of b quote e)) ∙ ap (λ l. b ∷ b ∷ l) (d.open_is h) ∙ ap (λ l. l ++ quote ∷ []) (sym (double_at quote b (undoubled quote false bs) true e))

doubled_is : (quote : ℕ) (bs : List ℕ) → Doubled quote bs
doubled_is quote [] = record { open_is = λ h. (let no_way : false ≡ true = h in absurd (cc)); closed_is = λ h. refl }
doubled_is quote (b ∷ bs) = record {
  open_is = λ h. open_at quote b bs (b == quote) refl h (doubled_is quote bs);
  closed_is = λ h. (let p = both_true (b == quote) (is_verbatim quote false bs) h in closed_at quote b bs p.0 p.1 (doubled_is quote bs));
}

verbatim_stands : (bytes : List ℕ) → is_verbatim_string bytes ≡ true → SpellsText kind.VerbatimString bytes (verbatim_text_of bytes)
verbatim_stands [] h = let no_way : false ≡ true = h in absurd (cc)
verbatim_stands (a ∷ []) h = let no_way : false ≡ true = (both_true (a == 64) false h).1 in absurd (cc)
verbatim_stands (a ∷ quote ∷ bs) h =
    let p = both_true (a == 64) (is_verbatim_quoted (quote ∷ bs)) h in
    let q = both_true (is_quote quote) (is_verbatim quote false bs) p.1 in
    (quote, ap (λ c. c ∷ quote ∷ bs) (equal_of a 64 p.0) ∙ ap (λ l. 64 ∷ quote ∷ l) ((doubled_is quote bs).open_is q.1))

-- ---- long strings

abbrev ticks : List ℕ
ticks = 96 ∷ 96 ∷ 96 ∷ []

abbrev EndsTicked : List ℕ → Type 0
EndsTicked bytes = (text : List ℕ) × (bytes ≡ text ++ 96 ∷ 96 ∷ 96 ∷ [])

-- with as many ticks before the bytes as the state says
record Ticks (bs : List ℕ) : Type 0 where
  none : closes step Ticked bs ≡ true → EndsTicked bs
  one : closes step OneTick bs ≡ true → EndsTicked (96 ∷ bs)
  two : closes step TwoTicks bs ≡ true → EndsTicked (96 ∷ 96 ∷ bs)

more_text : (b : ℕ) (bs : List ℕ) → EndsTicked bs → EndsTicked (b ∷ bs)
more_text b bs e = (b ∷ e.0, ap (λ l. b ∷ l) e.1)

none_at : (b : ℕ) (bs : List ℕ) (t : Bool) → (b == 96) ≡ t → by_step (if t then Ok OneTick else Ok Ticked) (λ s. closes step s bs) (is_end bs) false ≡ true → Ticks bs → EndsTicked (b ∷ bs)
none_at b bs true e h r = subst (λ c. EndsTicked (c ∷ bs)) (sym (equal_of b 96 e)) (r.one h)
none_at b bs false e h r = more_text b bs (r.none h)

one_at : (b : ℕ) (bs : List ℕ) (t : Bool) → (b == 96) ≡ t → by_step (if t then Ok TwoTicks else Ok Ticked) (λ s. closes step s bs) (is_end bs) false ≡ true → Ticks bs → EndsTicked (96 ∷ b ∷ bs)
one_at b bs true e h r = subst (λ c. EndsTicked (96 ∷ c ∷ bs)) (sym (equal_of b 96 e)) (r.two h)
one_at b bs false e h r = more_text 96 (b ∷ bs) (more_text b bs (r.none h))

two_at : (b : ℕ) (bs : List ℕ) (t : Bool) → (b == 96) ≡ t → by_step (if t then Err Closed else Ok Ticked) (λ s. closes step s bs) (is_end bs) false ≡ true → Ticks bs → EndsTicked (96 ∷ 96 ∷ b ∷ bs)
two_at b [] true e h r = ([], ap (λ c. 96 ∷ 96 ∷ c ∷ []) (equal_of b 96 e))
two_at b (c ∷ bs) true e h r = let no_way : false ≡ true = h in absurd (cc)
two_at b bs false e h r = more_text 96 (96 ∷ b ∷ bs) (more_text 96 (b ∷ bs) (more_text b bs (r.none h)))

ticks_of : (bs : List ℕ) → Ticks bs
ticks_of [] = record {
  none = λ h. (let no_way : false ≡ true = h in absurd (cc));
  one = λ h. (let no_way : false ≡ true = h in absurd (cc));
  two = λ h. (let no_way : false ≡ true = h in absurd (cc));
}
ticks_of (b ∷ bs) = record {
  none = λ h. none_at b bs (b == 96) refl h (ticks_of bs);
  one = λ h. one_at b bs (b == 96) refl h (ticks_of bs);
  two = λ h. two_at b bs (b == 96) refl h (ticks_of bs);
}

take_front : (front rest : List ℕ) → take (length front) (front ++ rest) ≡ front
take_front [] rest = refl
take_front (a ∷ front) rest = ap (λ l. a ∷ l) (take_front front rest)

pub long_stands : (bytes : List ℕ) → is_long_string bytes ≡ true → SpellsText kind.LongString bytes (long_text_of bytes)
long_stands bytes h =
    let p = both_true (begins_with ticks bytes) (closes step Ticked (drop 3 bytes)) h in
    let begun : ticks ≡ take 3 bytes = same_text ticks (take 3 bytes) p.0 in
    let front : bytes ≡ ticks ++ drop 3 bytes = sym (take-append-drop 3 bytes) ∙ ap (λ l. l ++ drop 3 bytes) (sym begun) in
    let end = (ticks_of (drop 3 bytes)).none p.1 in
    let whole : bytes ≡ ticks ++ (end.0 ++ ticks) = front ∙ ap (λ l. ticks ++ l) end.1 in
    let len : length bytes ≡ length (ticks ++ (end.0 ++ ticks)) = ap length whole in
    let count : length bytes - 6 ≡ length end.0 = omega (arith, length-append end.0 ticks) in
    let text : long_text_of bytes ≡ end.0 = ap (λ n. take n (drop 3 bytes)) count ∙ ap (λ l. take (length end.0) l) end.1 ∙ take_front end.0 ticks in
    subst (λ l. bytes ≡ ticks ++ l ++ ticks) (sym text) (whole ∙ sym (append_assoc ticks end.0 ticks))

pub stands_for : (k : TokenKind) (bytes : List ℕ) → is_string_token k bytes ≡ true → SpellsText k bytes (string_text_of k bytes)
unfolding string_text_of
stands_for kind.String bytes h = quoted_stands bytes h
stands_for kind.VerbatimString bytes h = verbatim_stands bytes h
stands_for kind.LongString bytes h = long_stands bytes h
stands_for kind.Word bytes h = no_string h
stands_for (kind.DashedWord w) bytes h = no_string h
stands_for (kind.Side s) bytes h = no_string h
stands_for kind.WholeNumber bytes h = no_string h
stands_for kind.Real bytes h = no_string h
stands_for kind.Timespan bytes h = no_string h
stands_for (kind.TypedLiteral w) bytes h = no_string h
stands_for (kind.WordOperator o) bytes h = no_string h
stands_for (kind.Punctuation p) bytes h = no_string h
stands_for (kind.Operator o) bytes h = no_string h

pub stands_if_ok : {E : Type 0} (r : Result (List ℕ) E) (k : TokenKind) (bytes : List ℕ) → is_string_token k bytes ≡ true → IfOk r (λ t. t ≡ string_text_of k bytes) → IfOk r (λ t. SpellsText k bytes t)
stands_if_ok (Ok t) k bytes h e = subst (SpellsText k bytes) (sym e) (stands_for k bytes h)
stands_if_ok (Err x) k bytes h e = tt
