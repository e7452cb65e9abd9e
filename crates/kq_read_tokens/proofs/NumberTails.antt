-- What follows the digits of a number.
use Rattle.std.proofs.Common.{◌≡◌, ℕ, zero, suc, ◌<◌, ◌≤◌, Bool, true, false, ◌||◌, not, ◌==◌, if◌then◌else◌, List, [], ◌∷◌, ◌⊎◌, inl, inr, length, take, Option, Some, None, refl, sym, ◌∙◌, ap, subst, arith}
use Rattle.std.proofs.lemmas.Bool.Decides.{nat_tests}
use Rattle.std.specs.List.{find, prefix_len}
use Rattle.std.specs.Option.{option_map_or}
use Rattle.kq_read_tokens.specs.declared.kind.TokenKind.{TokenKind}
use Rattle.kq_read_tokens.specs.declared.kind.TokenKind.TheVariants as kind
use Rattle.kq_read_tokens.specs.Bytes.{is_digit, is_text, begins_with, starts, is_end, byte_then}
use Rattle.kq_read_tokens.specs.Numbers.{digits, fraction, is_signed, is_exponent, units, is_unit}
use Rattle.kq_read_tokens.specs.Scanning.{more_than, len_behind, signed_len, exponent_len, unit_len, suffixed}
use Rattle.kq_read_tokens.proofs.TestLemmas.{both_true, either_true, false_true, equal_of, text_len, text_begins, begins_within}
use Rattle.kq_read_tokens.proofs.TableLemmas.{all_in, any_in, in_any, find_in, find_none, first_longest}
use Rattle.kq_read_tokens.proofs.RunLemmas.{Reach, run_reach, behind_reach, end_only}

pub zero_of : (n : ℕ) → (n == 0) ≡ true → n ≡ 0
zero_of n h = grind (arith, nat_tests)

pub some_of : (n : ℕ) → (n == 0) ≡ false → 0 < n
some_of n h = grind (arith, nat_tests)

pub reach_same : (test other : List ℕ → Bool) (n : ℕ) (bytes : List ℕ) → ((m : ℕ) → test (take m bytes) ≡ other (take m bytes)) → Reach test n bytes → Reach other n bytes
reach_same test other n bytes same r = record {
  within = r.within;
  form = λ some. sym (same n) ∙ r.form some;
  only = λ m le within met. r.only m le within (same m ∙ met);
}

-- ---- exponents

abbrev is_sign : ℕ → Bool
is_sign b = b == 43 || b == 45

signed_yes : (b : ℕ) (bs : List ℕ) → is_sign b ≡ true → (m : ℕ) → byte_then is_sign (digits is_end) (take m (b ∷ bs)) ≡ is_signed (take m (b ∷ bs))
signed_yes b bs h zero = refl
signed_yes b bs h (suc m) = rw h refl

signed_no : (b : ℕ) (bs : List ℕ) → is_sign b ≡ false → (m : ℕ) → digits is_end (take m (b ∷ bs)) ≡ is_signed (take m (b ∷ bs))
signed_no b bs h zero = refl
signed_no b bs h (suc m) = rw h refl

behind_yes : (class : ℕ → Bool) (len : List ℕ → ℕ) (b : ℕ) (bs : List ℕ) → class b ≡ true → len_behind class len (b ∷ bs) ≡ more_than 1 (len bs)
behind_yes class len b bs h = rw h refl

signed_at : (b : ℕ) (bs : List ℕ) (t : Bool) → is_sign b ≡ t → Reach is_signed (if t then more_than 1 (prefix_len is_digit bs) else prefix_len is_digit (b ∷ bs)) (b ∷ bs)
signed_at b bs true h = subst (λ n. Reach is_signed n (b ∷ bs)) (behind_yes is_sign (prefix_len is_digit) b bs h) (reach_same (byte_then is_sign (digits is_end)) is_signed (len_behind is_sign (prefix_len is_digit) (b ∷ bs)) (b ∷ bs) (signed_yes b bs h) (behind_reach is_sign (digits is_end) (prefix_len is_digit) (run_reach is_digit) (b ∷ bs)))
signed_at b bs false h = reach_same (digits is_end) is_signed (prefix_len is_digit (b ∷ bs)) (b ∷ bs) (signed_no b bs h) (run_reach is_digit (b ∷ bs))

signed_reach : (bytes : List ℕ) → Reach is_signed (signed_len bytes) bytes
signed_reach [] = record {
  within = omega arith;
  form = λ some. absurd (omega arith);
  only = nothing_signed;
} where
  nothing_signed : (m : ℕ) → 0 ≤ m → m ≤ length {A = ℕ} [] → is_signed (take m []) ≡ true → (0 < 0) × (m ≡ 0)
  nothing_signed zero le within met = let no_way : false ≡ true = met in absurd (cc)
  nothing_signed (suc m) le within met = absurd (omega arith)
signed_reach (b ∷ bs) = signed_at b bs (is_sign b) refl

abbrev pub is_e : ℕ → Bool
is_e b = b == 101 || b == 69

pub exponent_reach : (bytes : List ℕ) → Reach is_exponent (exponent_len bytes) bytes
exponent_reach bytes = behind_reach is_e is_signed signed_len signed_reach bytes

-- ---- units

unit_reach_at : (bytes : List ℕ) (o : Option (List ℕ)) → find (λ unit. begins_with unit bytes) units ≡ o → Reach is_unit (option_map_or length o 0) bytes
unit_reach_at bytes None e = record {
  within = omega arith;
  form = λ some. absurd (omega arith);
  only = λ m le within met.
      let found = any_in (λ unit. is_text unit (take m bytes)) units met in
      absurd (find_none (λ unit. begins_with unit bytes) units found.0 e found.1 (text_begins found.0 bytes m within found.2));
}
unit_reach_at bytes (Some unit) e =
    let here = find_in (λ unit. begins_with unit bytes) units unit e in
    record {
      within = begins_within unit bytes here.1;
      form = λ some. in_any (λ other. is_text other (take (length unit) bytes)) units unit here.0 here.1;
      only = λ m le within met.
          let found = any_in (λ unit. is_text unit (take m bytes)) units met in
          let m_is = text_len found.0 bytes m within found.2 in
          let same : found.0 ≡ unit = first_longest (λ t. t) bytes units unit found.0 refl e found.1 (text_begins found.0 bytes m within found.2) (omega arith) in
          let len : m ≡ length unit = m_is ∙ ap length same in
          let long : starts (λ _. true) unit ≡ true = all_in (starts (λ _. true)) units unit refl here.0 in
          (some_long unit long, len);
    } where
      some_long : (text : List ℕ) → starts (λ _. true) text ≡ true → 0 < length text
      some_long [] h = let no_way : false ≡ true = h in absurd (cc)
      some_long (b ∷ bs) h = omega arith

pub unit_reach : (bytes : List ℕ) → Reach is_unit (unit_len bytes) bytes
unit_reach bytes = unit_reach_at bytes (find (λ unit. begins_with unit bytes) units) refl

-- the first byte of a text is of the class that the bytes' is
pub text_starts : (class : ℕ → Bool) (text : List ℕ) (b : ℕ) (u : List ℕ) → is_text text (b ∷ u) ≡ true → starts class text ≡ class b
text_starts class [] b u h = let no_way : false ≡ true = h in absurd (cc)
text_starts class (c ∷ text) b u h = ap class (equal_of c b (both_true (c == b) (is_text text u) h).0)

unit_no_e : (b : ℕ) (u : List ℕ) → is_unit (b ∷ u) ≡ true → is_e b ≡ false
unit_no_e b u h =
    let found = any_in (λ unit. is_text unit (b ∷ u)) units h in
    let apart : not (starts is_e found.0) ≡ true = all_in (λ t. not (starts is_e t)) units found.0 refl found.1 in
    sym (text_starts is_e found.0 b u found.2) ∙ not_is (starts is_e found.0) apart where
      not_is : (t : Bool) → not t ≡ true → t ≡ false
      not_is true k = let no_way : false ≡ true = k in cc
      not_is false k = refl

exponent_or_unit : (bytes : List ℕ) (n m : ℕ) → 0 < n → 0 < m → is_exponent (take n bytes) ≡ true → is_unit (take m bytes) ≡ true → ⊥
exponent_or_unit bytes zero m p q e u = omega arith
exponent_or_unit bytes (suc n) zero p q e u = omega arith
exponent_or_unit [] (suc n) (suc m) p q e u = let no_way : false ≡ true = e in cc
exponent_or_unit (b ∷ bs) (suc n) (suc m) p q e u = false_true (is_e b) (unit_no_e b (take m bs) u) (both_true (is_e b) (is_signed (take n bs)) e).0

-- ---- what may follow the digits of a number of a kind, with a fraction before it or without

abbrev pub tail : Bool → TokenKind → List ℕ → Bool
tail false kind.WholeNumber u = is_end u
tail true kind.WholeNumber u = false
tail false kind.Real u = is_exponent u
tail true kind.Real u = is_end u || is_exponent u
tail _ kind.Timespan u = is_unit u
tail _ _ u = false

abbrev pub plain : Bool → TokenKind
plain false = kind.WholeNumber
plain true = kind.Real

data TailIs (fraction : Bool) (k : TokenKind) (u : List ℕ) : Type 0 where
  ends : k ≡ plain fraction → is_end u ≡ true → TailIs fraction k u
  powers : k ≡ kind.Real → is_exponent u ≡ true → TailIs fraction k u
  spans : k ≡ kind.Timespan → is_unit u ≡ true → TailIs fraction k u

end_or_power : (u : List ℕ) → (is_end u ≡ true) ⊎ (is_exponent u ≡ true) → TailIs true kind.Real u
end_or_power u (inl e) = ends refl e
end_or_power u (inr e) = powers refl e

not_false : {A : Type 0} → false ≡ true → A
not_false h = absurd (cc)

tail_is : (fraction : Bool) (k : TokenKind) (u : List ℕ) → tail fraction k u ≡ true → TailIs fraction k u
tail_is false kind.WholeNumber u h = ends refl h
tail_is true kind.WholeNumber u h = not_false h
tail_is false kind.Real u h = powers refl h
tail_is true kind.Real u h = end_or_power u (either_true (is_end u) (is_exponent u) h)
tail_is false kind.Timespan u h = spans refl h
tail_is true kind.Timespan u h = spans refl h
tail_is false _ u h = not_false h
tail_is true _ u h = not_false h

pub record LongestTail (fraction : Bool) (k : TokenKind) (n : ℕ) (rest : List ℕ) : Type 0 where
  pub within : n ≤ length rest
  pub form : tail fraction k (take n rest) ≡ true
  pub only : (other : TokenKind) (m : ℕ) → n ≤ m → m ≤ length rest → tail fraction other (take m rest) ≡ true → (other ≡ k) × (m ≡ n)

real_tail : (fraction : Bool) (u : List ℕ) → is_exponent u ≡ true → tail fraction kind.Real u ≡ true
real_tail false u h = h
real_tail true u h = or_right (is_end u) (is_exponent u) h where
  or_right : (a b : Bool) → b ≡ true → (a || b) ≡ true
  or_right true b h = refl
  or_right false b h = h

span_tail : (fraction : Bool) (u : List ℕ) → is_unit u ≡ true → tail fraction kind.Timespan u ≡ true
span_tail false u h = h
span_tail true u h = h

plain_tail : (fraction : Bool) (rest : List ℕ) → tail fraction (plain fraction) (take 0 rest) ≡ true
plain_tail false rest = refl
plain_tail true rest = refl

power_only : (fraction : Bool) (rest : List ℕ) → 0 < exponent_len rest → (other : TokenKind) (m : ℕ) → exponent_len rest ≤ m → m ≤ length rest → TailIs fraction other (take m rest) → (other ≡ kind.Real) × (m ≡ exponent_len rest)
power_only fraction rest some other m le within (ends k e) = absurd (omega (arith, end_only rest m within e))
power_only fraction rest some other m le within (powers k e) = (k, ((exponent_reach rest).only m le within e).1)
power_only fraction rest some other m le within (spans k e) = absurd (exponent_or_unit rest (exponent_len rest) m some (omega arith) ((exponent_reach rest).form some) e)

span_only : (fraction : Bool) (rest : List ℕ) → exponent_len rest ≡ 0 → 0 < unit_len rest → (other : TokenKind) (m : ℕ) → unit_len rest ≤ m → m ≤ length rest → TailIs fraction other (take m rest) → (other ≡ kind.Timespan) × (m ≡ unit_len rest)
span_only fraction rest none some other m le within (ends k e) = absurd (omega (arith, end_only rest m within e))
span_only fraction rest none some other m le within (powers k e) = absurd (omega (arith, ((exponent_reach rest).only m (omega arith) within e).0))
span_only fraction rest none some other m le within (spans k e) = (k, ((unit_reach rest).only m le within e).1)

plain_only : (fraction : Bool) (rest : List ℕ) → exponent_len rest ≡ 0 → unit_len rest ≡ 0 → (other : TokenKind) (m : ℕ) → m ≤ length rest → TailIs fraction other (take m rest) → (other ≡ plain fraction) × (m ≡ 0)
plain_only fraction rest none no_unit other m within (ends k e) = (k, end_only rest m within e)
plain_only fraction rest none no_unit other m within (powers k e) = absurd (omega (arith, ((exponent_reach rest).only m (omega arith) within e).0))
plain_only fraction rest none no_unit other m within (spans k e) = absurd (omega (arith, ((unit_reach rest).only m (omega arith) within e).0))

abbrev IsLongestTail : Bool → TokenKind × ℕ → List ℕ → Type 0
IsLongestTail fraction t rest = LongestTail fraction t.0 t.1 rest

suffixed_at : (fraction : Bool) (rest : List ℕ) (e u : Bool) → (exponent_len rest == 0) ≡ e → (unit_len rest == 0) ≡ u → IsLongestTail fraction (if e then (if u then (plain fraction, 0) else (kind.Timespan, unit_len rest)) else (kind.Real, exponent_len rest)) rest
suffixed_at fraction rest false u e_is u_is =
    let some = some_of (exponent_len rest) e_is in
    record {
      within = (exponent_reach rest).within;
      form = real_tail fraction (take (exponent_len rest) rest) ((exponent_reach rest).form some);
      only = λ other m le within met. power_only fraction rest some other m le within (tail_is fraction other (take m rest) met);
    }
suffixed_at fraction rest true false e_is u_is =
    let some = some_of (unit_len rest) u_is in
    record {
      within = (unit_reach rest).within;
      form = span_tail fraction (take (unit_len rest) rest) ((unit_reach rest).form some);
      only = λ other m le within met. span_only fraction rest (zero_of (exponent_len rest) e_is) some other m le within (tail_is fraction other (take m rest) met);
    }
suffixed_at fraction rest true true e_is u_is = record {
  within = omega arith;
  form = plain_tail fraction rest;
  only = λ other m le within met. plain_only fraction rest (zero_of (exponent_len rest) e_is) (zero_of (unit_len rest) u_is) other m within (tail_is fraction other (take m rest) met);
}

pub suffixed_longest : (fraction : Bool) (rest : List ℕ) → LongestTail fraction (suffixed (plain fraction) rest).0 (suffixed (plain fraction) rest).1 rest
unfolding suffixed
suffixed_longest fraction rest = suffixed_at fraction rest (exponent_len rest == 0) (unit_len rest == 0) refl refl
