-- The number that is found is the longest.
use Rattle.std.proofs.Common.{◌≡◌, ℕ, zero, suc, ◌<◌, ◌≤◌, ◌+◌, ◌-◌, Bool, true, false, ◌||◌, not, ◌==◌, if◌then◌else◌, List, [], ◌∷◌, inl, inr, length, take, drop, Some, None, refl, sym, ◌∙◌, ap, subst, arith, length-drop, drop-drop}
use Rattle.std.specs.List.{prefix_len}
use Rattle.std.proofs.lemmas.List.Sums.{prefix_len-le-length}
use Rattle.kq_read_tokens.specs.declared.kind.TokenKind.{TokenKind}
use Rattle.kq_read_tokens.specs.declared.kind.TokenKind.TheVariants as kind
use Rattle.kq_read_tokens.specs.Bytes.{is_digit, is_word_byte, is_hexadecimal_digit, starts, is_end, run_then}
use Rattle.kq_read_tokens.specs.Numbers.{digits, fraction, is_exponent, is_unit, is_hexadecimal, is_x_and_digits}
use Rattle.kq_read_tokens.specs.Forms.{is_form, may_precede}
use Rattle.kq_read_tokens.specs.Reading.{IsLongest, IsTokenOrNone}
use Rattle.kq_read_tokens.specs.Scanning.{fraction_len, x_len, hexadecimal_len, suffixed, behind, decimal_at, longest_number, number_at}
use Rattle.kq_read_tokens.proofs.TestLemmas.{both_true, equal_of}
use Rattle.kq_read_tokens.proofs.RunLemmas.{Reach, run_reach, behind_reach, run_take, run_none, prefix_yes}
use Rattle.kq_read_tokens.proofs.NumberTails.{zero_of, some_of, tail, LongestTail, suffixed_longest}
use Rattle.kq_read_tokens.proofs.SpelledLemmas.{letter, digit, other, kind_family, spelled_family, is_spelled}
use Rattle.kq_read_tokens.proofs.LeadLemmas.{point_real, behind_real, behind_span, digit_family, first_of, refused}

not_false : {A : Type 0} → false ≡ true → A
not_false h = absurd (cc)

or_no : (a b c : Bool) → a ≡ c → b ≡ false → (a || b) ≡ c
or_no true b c e h = e
or_no false b c e h = h ∙ e

or_yes : (a b c : Bool) → a ≡ false → b ≡ c → (a || b) ≡ c
or_yes true b c h e = let no_way : true ≡ false = h in absurd (cc)
or_yes false b c h e = e

false_of : (b : Bool) → (b ≡ true → ⊥) → b ≡ false
false_of true h = absurd (h refl)
false_of false h = refl

reach_none : (test : List ℕ → Bool) (n : ℕ) (bytes : List ℕ) → Reach test n bytes → n ≡ 0 → (m : ℕ) → m ≤ length bytes → test (take m bytes) ≡ false
reach_none test n bytes r none m within = false_of (test (take m bytes)) (λ met. omega (arith, (r.only m (omega arith) within met).0))

-- ---- kinds of numbers

abbrev pub is_number : TokenKind → Bool
is_number kind.WholeNumber = true
is_number kind.Real = true
is_number kind.Timespan = true
is_number _ = false

no_spelled_digit : (k : TokenKind) → is_spelled k ≡ true → kind_family k ≡ digit → ⊥
no_spelled_digit k s e = elim (spelled_family k s) [ inl f ↦ let no_way : letter ≡ digit = sym f ∙ e in cc | inr f ↦ let no_way : other ≡ digit = sym f ∙ e in cc ]

pub digit_numbers : (k : TokenKind) → kind_family k ≡ digit → is_number k ≡ true
digit_numbers kind.Word e = absurd (cc)
digit_numbers kind.WholeNumber e = refl
digit_numbers kind.Real e = refl
digit_numbers kind.Timespan e = refl
digit_numbers (kind.TypedLiteral w) e = absurd (cc)
digit_numbers kind.String e = absurd (cc)
digit_numbers kind.VerbatimString e = absurd (cc)
digit_numbers kind.LongString e = absurd (cc)
digit_numbers (kind.DashedWord x) e = absurd (no_spelled_digit (kind.DashedWord x) refl e)
digit_numbers (kind.Side x) e = absurd (no_spelled_digit (kind.Side x) refl e)
digit_numbers (kind.WordOperator x) e = absurd (no_spelled_digit (kind.WordOperator x) refl e)
digit_numbers (kind.Punctuation x) e = absurd (no_spelled_digit (kind.Punctuation x) refl e)
digit_numbers (kind.Operator x) e = absurd (no_spelled_digit (kind.Operator x) refl e)

pub number_precedes : (k : TokenKind) → is_number k ≡ true → (bytes rest : List ℕ) → may_precede k bytes rest ≡ not (starts is_word_byte rest)
number_precedes kind.WholeNumber h bytes rest = refl
number_precedes kind.Real h bytes rest = refl
number_precedes kind.Timespan h bytes rest = refl
number_precedes _ h bytes rest = not_false h

tail_number : (fraction : Bool) (k : TokenKind) (u : List ℕ) → tail fraction k u ≡ true → is_number k ≡ true
tail_number f kind.WholeNumber u h = refl
tail_number f kind.Real u h = refl
tail_number f kind.Timespan u h = refl
tail_number false _ u h = not_false h
tail_number true _ u h = not_false h

-- the number that the bytes begin with: n bytes of digits, with a fraction or without, and a tail
abbrev Splits : Bool → ℕ → List ℕ → Type 0
Splits fraction n bytes = (k : TokenKind) → is_number k ≡ true → (m : ℕ) → n ≤ m → m ≤ length bytes → is_form k (take m bytes) ≡ tail fraction k (take (m - n) (drop n bytes))

number_kind : (b : ℕ) (bs : List ℕ) → is_digit b ≡ true → (k : TokenKind) (m : ℕ) → 0 < m → is_form k (take m (b ∷ bs)) ≡ true → is_number k ≡ true
number_kind b bs h k m some form = digit_numbers k (sym (first_of k b bs m some form) ∙ digit_family b h)

split_longest : (fraction : Bool) (n : ℕ) (b : ℕ) (bs : List ℕ) → is_digit b ≡ true → 0 < n → n ≤ length (b ∷ bs) → Splits fraction n (b ∷ bs) → (k : TokenKind) (x : ℕ) → LongestTail fraction k x (drop n (b ∷ bs)) → IsLongest k (n + x) (b ∷ bs)
split_longest fraction n b bs h some within splits k x t =
    let left = length-drop n (b ∷ bs) in
    let count : n + x - n ≡ x = omega arith in
    record {
      some = omega arith;
      within = omega (arith, t.within);
      form = splits k (tail_number fraction k (take x (drop n (b ∷ bs))) t.form) (n + x) (omega arith) (omega (arith, t.within)) ∙ ap (λ i. tail fraction k (take i (drop n (b ∷ bs)))) count ∙ t.form;
      only = λ j m le fits form.
          let number = number_kind b bs h j m (omega arith) form in
          let found = t.only j (m - n) (omega arith) (omega arith) (sym (splits j number m (omega arith) fits) ∙ form) in
          (found.0, omega (arith, found.1));
    }

-- ---- no fraction

no_fraction_at : (others : List ℕ → Bool) (b : ℕ) (bs : List ℕ) (t : Bool) → (b == 46) ≡ t → (if t then prefix_len is_digit bs else 0) ≡ 0 → (m : ℕ) → fraction others (take m (b ∷ bs)) ≡ false
no_fraction_at others b bs t e none zero = refl
no_fraction_at others b bs false e none (suc m) = rw e refl
no_fraction_at others b bs true e none (suc m) = rw e (run_none is_digit others bs m (no_run bs none)) where
  no_run_at : (c : ℕ) (cs : List ℕ) (t : Bool) → is_digit c ≡ t → (if t then 1 + prefix_len is_digit cs else 0) ≡ 0 → t ≡ false
  no_run_at c cs true e n = absurd (omega arith)
  no_run_at c cs false e n = refl

  no_run : (bs : List ℕ) → prefix_len is_digit bs ≡ 0 → starts is_digit bs ≡ false
  no_run [] n = refl
  no_run (c ∷ cs) n = no_run_at c cs (is_digit c) refl n

no_fraction : (others : List ℕ → Bool) (rest : List ℕ) → fraction_len rest ≡ 0 → (m : ℕ) → fraction others (take m rest) ≡ false
no_fraction others [] none zero = refl
no_fraction others [] none (suc m) = refl
no_fraction others (b ∷ bs) none m = no_fraction_at others b bs (b == 46) refl none m

no_hexadecimal : (bytes : List ℕ) → hexadecimal_len bytes ≡ 0 → (m : ℕ) → m ≤ length bytes → is_hexadecimal (take m bytes) ≡ false
no_hexadecimal bytes none = reach_none is_hexadecimal (hexadecimal_len bytes) bytes (hexadecimal_reach bytes) none where
  x_reach : (bs : List ℕ) → Reach is_x_and_digits (x_len bs) bs
  x_reach bs = behind_reach (λ b. b == 120) (run_then is_hexadecimal_digit is_end) (prefix_len is_hexadecimal_digit) (run_reach is_hexadecimal_digit) bs

  hexadecimal_reach : (bs : List ℕ) → Reach is_hexadecimal (hexadecimal_len bs) bs
  hexadecimal_reach bs = behind_reach (λ b. b == 48) is_x_and_digits x_len x_reach bs

plain_splits : (bytes : List ℕ) → starts is_digit bytes ≡ true → hexadecimal_len bytes ≡ 0 → fraction_len (drop (prefix_len is_digit bytes) bytes) ≡ 0 → Splits false (prefix_len is_digit bytes) bytes
plain_splits bytes h x f kind.WholeNumber n m le within = or_no (digits is_end (take m bytes)) (is_hexadecimal (take m bytes)) (is_end (take (m - prefix_len is_digit bytes) (drop (prefix_len is_digit bytes) bytes))) (run_take is_digit is_end bytes m h le) (no_hexadecimal bytes x m within)
plain_splits bytes h x f kind.Real n m le within =
    let rest = take (m - prefix_len is_digit bytes) (drop (prefix_len is_digit bytes) bytes) in
    run_take is_digit behind_real bytes m h le ∙ or_no (is_exponent rest) (fraction point_real rest) (is_exponent rest) refl (no_fraction point_real (drop (prefix_len is_digit bytes) bytes) f (m - prefix_len is_digit bytes))
plain_splits bytes h x f kind.Timespan n m le within =
    let rest = take (m - prefix_len is_digit bytes) (drop (prefix_len is_digit bytes) bytes) in
    run_take is_digit behind_span bytes m h le ∙ or_no (is_unit rest) (fraction is_unit rest) (is_unit rest) refl (no_fraction is_unit (drop (prefix_len is_digit bytes) bytes) f (m - prefix_len is_digit bytes))
plain_splits bytes h x f _ n m le within = not_false n

-- ---- a fraction

-- a rest that begins with a point and digits
pub record Pointed (rest : List ℕ) : Type 0 where
  pub behind_point : List ℕ
  pub rest_is : rest ≡ 46 ∷ behind_point
  pub digit_first : starts is_digit behind_point ≡ true
  pub count : fraction_len rest ≡ prefix_len is_digit behind_point

some_run : (bs : List ℕ) → 0 < prefix_len is_digit bs → starts is_digit bs ≡ true
some_run [] n = absurd (omega arith)
some_run (c ∷ cs) n = some_run_at c cs (is_digit c) refl n where
  some_run_at : (c : ℕ) (cs : List ℕ) (t : Bool) → is_digit c ≡ t → 0 < (if t then 1 + prefix_len is_digit cs else 0) → t ≡ true
  some_run_at c cs true e n = refl
  some_run_at c cs false e n = absurd (omega arith)

pointed_at : (b : ℕ) (bs : List ℕ) (t : Bool) → (b == 46) ≡ t → 0 < (if t then prefix_len is_digit bs else 0) → Pointed (b ∷ bs)
pointed_at b bs true e some =
    let b_is = equal_of b 46 e in
    subst (λ c. Pointed (c ∷ bs)) (sym b_is) (record { behind_point = bs; rest_is = refl; digit_first = some_run bs some; count = refl })
pointed_at b bs false e some = absurd (omega arith)

pointed : (rest : List ℕ) → 0 < fraction_len rest → Pointed rest
pointed [] some = absurd (omega arith)
pointed (b ∷ bs) some = pointed_at b bs (b == 46) refl some

point_take : (others : List ℕ → Bool) (bs : List ℕ) (m : ℕ) → starts is_digit bs ≡ true → 1 + prefix_len is_digit bs ≤ m → fraction others (take m (46 ∷ bs)) ≡ others (take (m - (1 + prefix_len is_digit bs)) (drop (1 + prefix_len is_digit bs) (46 ∷ bs)))
point_take others bs zero h le = absurd (omega arith)
point_take others bs (suc m) h le =
    let count : m - prefix_len is_digit bs ≡ suc m - (1 + prefix_len is_digit bs) = omega arith in
    let one_more : suc (prefix_len is_digit bs) ≡ 1 + prefix_len is_digit bs = omega arith in
    run_take is_digit others bs m h (omega arith) ∙ ap (λ i. others (take i (drop (prefix_len is_digit bs) bs))) count ∙ ap (λ i. others (take (suc m - (1 + prefix_len is_digit bs)) (drop i (46 ∷ bs)))) one_more

point_no_end : (bs : List ℕ) (m : ℕ) → 0 < m → is_end (take m (46 ∷ bs)) ≡ false
point_no_end bs zero some = absurd (omega arith)
point_no_end bs (suc m) some = refl

point_no_exponent : (bs : List ℕ) (m : ℕ) → 0 < m → is_exponent (take m (46 ∷ bs)) ≡ false
point_no_exponent bs zero some = absurd (omega arith)
point_no_exponent bs (suc m) some = refl

point_no_unit : (bs : List ℕ) (m : ℕ) → 0 < m → is_unit (take m (46 ∷ bs)) ≡ false
point_no_unit bs zero some = absurd (omega arith)
point_no_unit bs (suc m) some = refl

-- what is left behind n bytes and f more
left_behind : (bytes : List ℕ) (n f m : ℕ) → n + f ≤ m → take (m - n - f) (drop f (drop n bytes)) ≡ take (m - (n + f)) (drop (n + f) bytes)
left_behind bytes n f m le =
    let count : m - n - f ≡ m - (n + f) = omega arith in
    ap (λ l. take (m - n - f) l) (drop-drop f n bytes) ∙ ap (λ i. take i (drop (n + f) bytes)) count

pointed_splits : (bytes : List ℕ) → starts is_digit bytes ≡ true → hexadecimal_len bytes ≡ 0 → (p : Pointed (drop (prefix_len is_digit bytes) bytes)) → Splits true (prefix_len is_digit bytes + (1 + prefix_len is_digit p.behind_point)) bytes
pointed_splits bytes h x p kind.WholeNumber n m le within =
    or_no (digits is_end (take m bytes)) (is_hexadecimal (take m bytes)) false
    (run_take is_digit is_end bytes m h (omega arith) ∙ subst (λ r. is_end (take (m - prefix_len is_digit bytes) r) ≡ false) (sym p.rest_is) (point_no_end p.behind_point (m - prefix_len is_digit bytes) (omega arith)))
    (no_hexadecimal bytes x m within)
pointed_splits bytes h x p kind.Real n m le within =
    let k = m - prefix_len is_digit bytes in
    let f = 1 + prefix_len is_digit p.behind_point in
    let rest = drop (prefix_len is_digit bytes) bytes in
    run_take is_digit behind_real bytes m h (omega arith)
    ∙ or_yes (is_exponent (take k rest)) (fraction point_real (take k rest)) (point_real (take (k - f) (drop f rest)))
    (subst (λ r. is_exponent (take k r) ≡ false) (sym p.rest_is) (point_no_exponent p.behind_point k (omega arith)))
    (subst (λ r. fraction point_real (take k r) ≡ point_real (take (k - f) (drop f r))) (sym p.rest_is) (point_take point_real p.behind_point k p.digit_first (omega arith)))
    ∙ ap point_real (left_behind bytes (prefix_len is_digit bytes) f m le)
pointed_splits bytes h x p kind.Timespan n m le within =
    let k = m - prefix_len is_digit bytes in
    let f = 1 + prefix_len is_digit p.behind_point in
    let rest = drop (prefix_len is_digit bytes) bytes in
    run_take is_digit behind_span bytes m h (omega arith)
    ∙ or_yes (is_unit (take k rest)) (fraction is_unit (take k rest)) (is_unit (take (k - f) (drop f rest)))
    (subst (λ r. is_unit (take k r) ≡ false) (sym p.rest_is) (point_no_unit p.behind_point k (omega arith)))
    (subst (λ r. fraction is_unit (take k r) ≡ is_unit (take (k - f) (drop f r))) (sym p.rest_is) (point_take is_unit p.behind_point k p.digit_first (omega arith)))
    ∙ ap is_unit (left_behind bytes (prefix_len is_digit bytes) f m le)
pointed_splits bytes h x p _ n m le within = not_false n

-- ---- hexadecimal digits

hexadecimal_reach : (bytes : List ℕ) → Reach is_hexadecimal (hexadecimal_len bytes) bytes
hexadecimal_reach bytes = behind_reach (λ b. b == 48) is_x_and_digits x_len (λ bs. behind_reach (λ b. b == 120) (run_then is_hexadecimal_digit is_end) (prefix_len is_hexadecimal_digit) (run_reach is_hexadecimal_digit) bs) bytes

-- `0x` and more
record Hexadecimal (n : ℕ) (bytes : List ℕ) : Type 0 where
  behind_x : List ℕ
  bytes_are : bytes ≡ 48 ∷ 120 ∷ behind_x
  two : 2 ≤ n

hexadecimal_is : (bytes : List ℕ) (n : ℕ) → is_hexadecimal (take n bytes) ≡ true → Hexadecimal n bytes
hexadecimal_is bytes zero h = not_false h
hexadecimal_is [] (suc n) h = not_false h
hexadecimal_is (b ∷ bs) (suc zero) h = not_false (both_true (b == 48) (is_x_and_digits []) h).1
hexadecimal_is (b ∷ []) (suc (suc n)) h = not_false (both_true (b == 48) (is_x_and_digits []) h).1
hexadecimal_is (b ∷ c ∷ u) (suc (suc n)) h =
    let p = both_true (b == 48) (is_x_and_digits (c ∷ take n u)) h in
    let b_is = equal_of b 48 p.0 in
    let c_is = equal_of c 120 (both_true (c == 120) (run_then is_hexadecimal_digit is_end (take n u)) p.1).0 in
    record { behind_x = u; bytes_are = ap (λ x. x ∷ c ∷ u) b_is ∙ ap (λ x. 48 ∷ x ∷ u) c_is; two = omega arith }

hexadecimal_kinds : (u : List ℕ) (k : TokenKind) (m : ℕ) → is_number k ≡ true → 2 ≤ m → is_form k (take m (48 ∷ 120 ∷ u)) ≡ true → (k ≡ kind.WholeNumber) × (is_hexadecimal (take m (48 ∷ 120 ∷ u)) ≡ true)
hexadecimal_kinds u k zero n two form = absurd (omega arith)
hexadecimal_kinds u k (suc zero) n two form = absurd (omega arith)
hexadecimal_kinds u kind.WholeNumber (suc (suc m)) n two form = (refl, form)
hexadecimal_kinds u kind.Real (suc (suc m)) n two form = not_false form
hexadecimal_kinds u kind.Timespan (suc (suc m)) n two form = not_false form
hexadecimal_kinds u _ (suc (suc m)) n two form = not_false n

whole_of_hexadecimal : (a b : Bool) → b ≡ true → (a || b) ≡ true
whole_of_hexadecimal true b h = refl
whole_of_hexadecimal false b h = h

hexadecimal_longest : (b : ℕ) (bs : List ℕ) → is_digit b ≡ true → 0 < hexadecimal_len (b ∷ bs) → IsLongest kind.WholeNumber (hexadecimal_len (b ∷ bs)) (b ∷ bs)
hexadecimal_longest b bs h some =
    let r = hexadecimal_reach (b ∷ bs) in
    let met = r.form some in
    let x = hexadecimal_is (b ∷ bs) (hexadecimal_len (b ∷ bs)) met in
    record {
      some = some;
      within = r.within;
      form = whole_of_hexadecimal (digits is_end (take (hexadecimal_len (b ∷ bs)) (b ∷ bs))) (is_hexadecimal (take (hexadecimal_len (b ∷ bs)) (b ∷ bs))) met;
      only = λ j m le within form.
          let number = number_kind b bs h j m (omega arith) form in
          let found = hexadecimal_kinds x.behind_x j m number (omega (arith, x.two)) (subst (λ l. is_form j (take m l) ≡ true) x.bytes_are form) in
          (found.0, (r.only m le within (subst (λ l. is_hexadecimal (take m l) ≡ true) (sym x.bytes_are) found.1)).1);
    }

-- ---- all numbers

decimal_longest_at : (b : ℕ) (bs : List ℕ) (t : Bool) → is_digit b ≡ true → hexadecimal_len (b ∷ bs) ≡ 0 → (fraction_len (drop (prefix_len is_digit (b ∷ bs)) (b ∷ bs)) == 0) ≡ t →
    (let n = prefix_len is_digit (b ∷ bs) in let rest = drop n (b ∷ bs) in let r = (if t then behind n (suffixed kind.WholeNumber rest) else behind (n + (1 + fraction_len rest)) (suffixed kind.Real (drop (1 + fraction_len rest) rest))) in
    IsLongest r.0 r.1 (b ∷ bs))
decimal_longest_at b bs true h x f =
    let n = prefix_len is_digit (b ∷ bs) in
    let some = prefix_yes is_digit b bs h in
    split_longest false n b bs h (omega arith) (prefix_len-le-length is_digit (b ∷ bs)) (plain_splits (b ∷ bs) h x (zero_of (fraction_len (drop n (b ∷ bs))) f)) (suffixed kind.WholeNumber (drop n (b ∷ bs))).0 (suffixed kind.WholeNumber (drop n (b ∷ bs))).1 (suffixed_longest false (drop n (b ∷ bs)))
decimal_longest_at b bs false h x f =
    let n = prefix_len is_digit (b ∷ bs) in
    let rest = drop n (b ∷ bs) in
    let p = pointed rest (some_of (fraction_len rest) f) in
    let k = 1 + fraction_len rest in
    let some = prefix_yes is_digit b bs h in
    let splits = subst (λ i. Splits true (n + (1 + i)) (b ∷ bs)) (sym p.count) (pointed_splits (b ∷ bs) h x p) in
    let fits : n + k ≤ length (b ∷ bs) = omega (arith, prefix_len-le-length is_digit p.behind_point, ap length p.rest_is, length-drop n (b ∷ bs), p.count, prefix_len-le-length is_digit (b ∷ bs)) in
    split_longest true (n + k) b bs h (omega arith) fits splits (suffixed kind.Real (drop k rest)).0 (suffixed kind.Real (drop k rest)).1
    (subst (λ l. LongestTail true (suffixed kind.Real (drop k rest)).0 (suffixed kind.Real (drop k rest)).1 l) (drop-drop k n (b ∷ bs)) (suffixed_longest true (drop k rest)))

longest_number_at : (b : ℕ) (bs : List ℕ) (t : Bool) → is_digit b ≡ true → (hexadecimal_len (b ∷ bs) == 0) ≡ t →
    (let r = (if t then decimal_at (prefix_len is_digit (b ∷ bs)) (drop (prefix_len is_digit (b ∷ bs)) (b ∷ bs)) else (kind.WholeNumber, hexadecimal_len (b ∷ bs))) in IsLongest r.0 r.1 (b ∷ bs))
unfolding decimal_at
longest_number_at b bs true h x = decimal_longest_at b bs (fraction_len (drop (prefix_len is_digit (b ∷ bs)) (b ∷ bs)) == 0) h (zero_of (hexadecimal_len (b ∷ bs)) x) refl
longest_number_at b bs false h x = hexadecimal_longest b bs h (some_of (hexadecimal_len (b ∷ bs)) x)

longest_number_is : (b : ℕ) (bs : List ℕ) → is_digit b ≡ true → IsLongest (longest_number (b ∷ bs)).0 (longest_number (b ∷ bs)).1 (b ∷ bs)
unfolding longest_number
longest_number_is b bs h = longest_number_at b bs (hexadecimal_len (b ∷ bs) == 0) h refl

unless_right : (k : TokenKind) (n : ℕ) (b : ℕ) (bs : List ℕ) (t : Bool) → is_digit b ≡ true → IsLongest k n (b ∷ bs) → starts is_word_byte (drop n (b ∷ bs)) ≡ t → IsTokenOrNone (if t then None else Some (k, n)) (b ∷ bs)
unless_right k n b bs true h longest follows =
    let number = number_kind b bs h k n longest.some longest.form in
    refused k n (b ∷ bs) longest (number_precedes k number (take n (b ∷ bs)) (drop n (b ∷ bs)) ∙ ap not follows)
unless_right k n b bs false h longest follows =
    let number = number_kind b bs h k n longest.some longest.form in
    record { longest = longest; may_precede = number_precedes k number (take n (b ∷ bs)) (drop n (b ∷ bs)) ∙ ap not follows }

pub number_right : (b : ℕ) (bs : List ℕ) → is_digit b ≡ true → IsTokenOrNone (number_at (b ∷ bs)) (b ∷ bs)
unfolding number_at
number_right b bs h = unless_right (longest_number (b ∷ bs)).0 (longest_number (b ∷ bs)).1 b bs (starts is_word_byte (drop (longest_number (b ∷ bs)).1 (b ∷ bs))) h (longest_number_is b bs h) refl
