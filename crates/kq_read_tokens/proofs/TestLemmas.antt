-- Tests, and texts that begin another.
use Rattle.std.proofs.Common.{◌≡◌, ℕ, ◌≤◌, Bool, true, false, ◌||◌, ◌&&◌, ◌==◌, nat_eq, List, [], ◌∷◌, ◌⊎◌, inl, inr, length, take, refl, sym, ◌∙◌, subst, length-take-le, arith}
use Rattle.std.proofs.lemmas.Bool.Decides.{nat_tests}
use Rattle.std.specs.Cmp.Lexicographic.{as_long}
use Rattle.kq_read_tokens.specs.Bytes.{is_text, begins_with}

pub both_true : (a b : Bool) → (a && b) ≡ true → (a ≡ true) × (b ≡ true)
both_true true true h = (refl, refl)
both_true true false h = let no_way : false ≡ true = h in cc
both_true false b h = let no_way : false ≡ true = h in cc

pub and_true : (a b : Bool) → a ≡ true → b ≡ true → (a && b) ≡ true
and_true true b p q = q
and_true false b p q = let no_way : false ≡ true = p in cc

pub either_true : (a b : Bool) → (a || b) ≡ true → (a ≡ true) ⊎ (b ≡ true)
either_true true b h = inl refl
either_true false b h = inr h

pub or_false : (a b : Bool) → a ≡ false → (a || b) ≡ b
or_false true b h = let no_way : true ≡ false = h in cc
or_false false b h = refl

pub false_true : {A : Type 0} (b : Bool) → b ≡ false → b ≡ true → A
false_true b p q = let no_way : false ≡ true = sym p ∙ q in absurd (cc)

pub equal_of : (a b : ℕ) → (a == b) ≡ true → a ≡ b
equal_of a b h = grind (arith, nat_tests)

-- ---- texts

pub text_len : (text bytes : List ℕ) (m : ℕ) → m ≤ length bytes → is_text text (take m bytes) ≡ true → m ≡ length text
text_len text bytes m within h = sym (length-take-le m bytes within) ∙ sym (as_long nat_eq text (take m bytes) h)

pub text_begins : (text bytes : List ℕ) (m : ℕ) → m ≤ length bytes → is_text text (take m bytes) ≡ true → begins_with text bytes ≡ true
text_begins text bytes m within h = subst (λ n. is_text text (take n bytes) ≡ true) (text_len text bytes m within h) h

pub begins_within : (text bytes : List ℕ) → begins_with text bytes ≡ true → length text ≤ length bytes
begins_within [] bytes h = omega arith
begins_within (c ∷ text) [] h = let no_way : false ≡ true = h in absurd (cc)
begins_within (c ∷ text) (b ∷ bytes) h = omega (arith, begins_within text bytes (both_true (nat_eq c b) (begins_with text bytes) h).1)

-- of two texts that begin the bytes the shorter one begins the longer one
pub begins_common : (text other bytes : List ℕ) → begins_with text bytes ≡ true → begins_with other bytes ≡ true → length text ≤ length other → begins_with text other ≡ true
begins_common [] other bytes h k le = refl
begins_common (c ∷ text) [] bytes h k le = absurd (omega arith)
begins_common (c ∷ text) (d ∷ other) [] h k le = let no_way : false ≡ true = h in absurd (cc)
begins_common (c ∷ text) (d ∷ other) (b ∷ bytes) h k le =
    let p = both_true (nat_eq c b) (begins_with text bytes) h in
    let q = both_true (nat_eq d b) (begins_with other bytes) k in
    let c_is = equal_of c b p.0 in
    let d_is = equal_of d b q.0 in
    let same : nat_eq c d ≡ true = subst (λ x. nat_eq c x ≡ true) (sym d_is) p.0 in
    and_true (nat_eq c d) (begins_with text other) same (begins_common text other bytes p.1 q.1 (omega arith))
