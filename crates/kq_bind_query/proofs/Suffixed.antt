-- A default name becomes the least free one.
use Rattle.std.proofs.Common.{◌≡◌, ℕ, zero, suc, ◌+◌, ◌<◌, ◌≤◌, Bool, true, false, ◌||◌, cond, List, [], ◌++◌, length, length-append, refl, sym, ap, ◌∙◌, subst, arith}
use Rattle.std.specs.Prelude.{decimal, nat_eq}
use Rattle.std.proofs.lemmas.Bool.{eqb-true, eqb-false}
use Rattle.kq_bind_columns.specs.Naming.{is_taken, numbered, first_free, free_name}
use Rattle.kq_bind_columns.proofs.Free.{free_name-free}
use Rattle.kq_value.specs.declared.schema.Field.{Field}
use Rattle.kq_bind_query.specs.Suffixes.{HaveRoom, IsNamed, IsMadeFree}
use Rattle.kq_bind_query.proofs.Apart.{not_both, or_first, taken_append, taken_there, there_taken}

pub taken_named : (cs : List Field) (name : List ℕ) → is_taken cs name ≡ true → IsNamed cs name
taken_named cs name e = let r = taken_there cs name e in record { number = r.0; column = r.1; there = r.2; so = r.3 }

pub named_taken : (cs : List Field) (name : List ℕ) → IsNamed cs name → is_taken cs name ≡ true
named_taken cs name n = subst (λ m. is_taken cs m ≡ true) n.so (there_taken cs n.number n.column n.there)

abbrev is_used : List Field → List Field → List ℕ → Bool
is_used given avoided name = is_taken given name || is_taken avoided name

-- the number that is found, and that all before it are used
pub record Found (n k : ℕ) (given avoided : List Field) (base : List ℕ) : Type 0 where
  pub number : ℕ
  pub written : first_free n k given avoided base ≡ numbered base number
  pub least : k ≤ number
  pub lesser : (i : ℕ) → k ≤ i → i < number → is_used given avoided (numbered base i) ≡ true

here_found : (n k : ℕ) (given avoided : List Field) (base : List ℕ) → first_free n k given avoided base ≡ numbered base k → Found n k given avoided base
here_found n k given avoided base is = record { number = k; written = is; least = omega arith; lesser = λ i low high. absurd (omega (arith, low, high)) }

pub found : (n k : ℕ) (given avoided : List Field) (base : List ℕ) → Found n k given avoided base
found zero k given avoided base = here_found zero k given avoided base refl
found (suc n) k given avoided base = by (is_used given avoided (numbered base k)) refl (found n (k + 1) given avoided base) where
  by : (b : Bool) → is_used given avoided (numbered base k) ≡ b → Found n (k + 1) given avoided base → Found (suc n) k given avoided base
  by false is r = here_found (suc n) k given avoided base (ap (λ c. cond c (first_free n (k + 1) given avoided base) (numbered base k)) is)
  by true is r = record {
    number = r.number;
    written = ap (λ c. cond c (first_free n (k + 1) given avoided base) (numbered base k)) is ∙ r.written;
    least = omega (arith, r.least);
    lesser = λ i low high. first i (nat_eq i k) refl low high;
  } where
    next : (i : ℕ) → (i ≡ k → ⊥) → k ≤ i → k + 1 ≤ i
    next i other low = omega (arith, other, low)

    first : (i : ℕ) (b : Bool) → (nat_eq i k) ≡ b → k ≤ i → i < r.number → is_used given avoided (numbered base i) ≡ true
    first i true e low high = let same : i ≡ k = eqb-true i k e in subst (λ z. is_used given avoided (numbered base z) ≡ true) (sym same) is
    first i false e low high = let other = eqb-false i k e in r.lesser i (next i other low) high

-- columns that are avoided are as good as given, where a suffix is looked for
all_given : (n k : ℕ) (given avoided : List Field) (base : List ℕ) → first_free n k given avoided base ≡ first_free n k (given ++ avoided) [] base
all_given zero k given avoided base = refl
all_given (suc n) k given avoided base =
    by (is_used given avoided (numbered base k)) (is_used (given ++ avoided) [] (numbered base k)) same (all_given n (k + 1) given avoided base)
  where
    no_more : (b : Bool) → b ≡ (b || false)
    no_more true = refl
    no_more false = refl

    same : is_used given avoided (numbered base k) ≡ is_used (given ++ avoided) [] (numbered base k)
    same = sym (taken_append given avoided (numbered base k)) ∙ no_more (is_taken (given ++ avoided) (numbered base k))

    by : (a b : Bool) → a ≡ b → first_free n (k + 1) given avoided base ≡ first_free n (k + 1) (given ++ avoided) [] base
        → cond a (first_free n (k + 1) given avoided base) (numbered base k) ≡ cond b (first_free n (k + 1) (given ++ avoided) [] base) (numbered base k)
    by true true e more = more
    by false false e more = refl
    by true false e more = absurd (cc)
    by false true e more = absurd (cc)

is_free : (given avoided : List Field) (base : List ℕ) → HaveRoom given avoided → is_taken given base ≡ true
    → is_taken (given ++ avoided) (first_free (length given + length avoided) 1 given avoided base) ≡ false
is_free given avoided base small is =
    let every = given ++ avoided in
    let long : length every + length {A = Field} [] ≡ length given + length avoided = omega (arith, length-append given avoided) in
    let used : is_taken every base ≡ true = taken_append given avoided base ∙ or_first (is_taken given base) (is_taken avoided base) is in
    let free = free_name-free every [] base (omega (arith, length-append given avoided, small)) in
    let first : is_taken every (first_free (length every + length {A = Field} []) 1 every [] base) ≡ false =
    subst (λ b. is_taken every (cond b (first_free (length every + length {A = Field} []) 1 every [] base) base) ≡ false) used free in
    subst (λ name. is_taken every name ≡ false) (sym (all_given (length given + length avoided) 1 given avoided base))
    (subst (λ n. is_taken every (first_free n 1 every [] base) ≡ false) long first)

-- a default name stays as it is, or gets the least suffix that is free
pub made_free : (given avoided : List Field) (base : List ℕ) → HaveRoom given avoided → IsMadeFree given avoided base (free_name given avoided base)
made_free given avoided base small = by (is_taken given base) refl where
  first : List ℕ
  first = first_free (length given + length avoided) 1 given avoided base

  by : (b : Bool) → is_taken given base ≡ b → IsMadeFree given avoided base (cond b first base)
  by false is = record { itself = λ none. refl; suffixed = λ n. absurd (not_both (is_taken given base) (named_taken given base n) is) }
  by true is =
      let r = found (length given + length avoided) 1 given avoided base in
      let free = is_free given avoided base small is in
      record {
        itself = λ none. absurd (none (taken_named given base is));
        suffixed = λ n. record {
          number = r.number;
          written = r.written;
          positive = r.least;
          free = λ named. not_both (is_taken (given ++ avoided) first) (named_taken (given ++ avoided) first named) free;
          lesser = λ k low high. taken_named (given ++ avoided) (base ++ decimal k) (taken_append given avoided (numbered base k) ∙ r.lesser k low high);
        };
      }
