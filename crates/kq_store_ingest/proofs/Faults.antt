-- The first fault among records.
use Rattle.std.proofs.Common.{◌≡◌, ◌≢◌, ◌≤◌, ◌<◌, ℕ, ◌+◌, Bool, true, false, ◌&&◌, not, eq-eqb, List, [], ◌∷◌, ◌++◌, length, length-append, Some, None, refl, ◌∙◌, arith}
use Rattle.std.specs.Prelude.{nat_lt, nat_le}
use Rattle.std.specs.List.{position_or_len}
use Rattle.std.proofs.lemmas.Bool.Decides.{nat_tests}
use Rattle.std.proofs.lemmas.List.Folds.{prefix_len-append}
use Rattle.kq_value.specs.declared.schema.Field.{Field}
use Rattle.kq_store_ingest.specs.Ingestion.{IsFaultAt, fault_among, is_wide, number_skipped}
use Rattle.kq_store_ingest.specs.declared.fault.IngestFault.{IngestFault}
use Rattle.kq_store_ingest.specs.declared.fault.IngestFault.TheVariants as fault

-- none of the records is too wide
abbrev pub AreNarrow : List Field → List (List (List ℕ)) → Type 0
AreNarrow schema rs = position_or_len (is_wide schema) rs ≡ length rs

-- the place of the first that passes, past some that don't
position-past : {A : Type 0} (p : A → Bool) (xs ys : List A) → position_or_len p xs ≡ length xs → position_or_len p (xs ++ ys) ≡ length xs + position_or_len p ys
position-past p xs ys h = prefix_len-append (λ x. not (p x)) xs ys ∙ rw (eq-eqb (position_or_len p xs) (length xs) h) refl

position-hit : {A : Type 0} (p : A → Bool) (x : A) (xs : List A) → p x ≡ true → position_or_len p (x ∷ xs) ≡ 0
position-hit p x xs e = rw e refl

position-miss : {A : Type 0} (p : A → Bool) (x : A) (xs : List A) → p x ≡ false → position_or_len p (x ∷ xs) ≡ 1 + position_or_len p xs
position-miss p x xs e = rw e refl

pub one_more_narrow : (schema : List Field) (rs : List (List (List ℕ))) (r : List (List ℕ)) → AreNarrow schema rs → is_wide schema r ≡ false → AreNarrow schema (rs ++ r ∷ [])
one_more_narrow schema rs r h e =
    position-past (is_wide schema) rs (r ∷ []) h ∙ omega (arith, position-miss (is_wide schema) r [] e, length-append rs (r ∷ []))

test_lt : (a b : ℕ) → a < b → nat_lt a b ≡ true
test_lt a b h = grind (arith, nat_tests)

test_le : (a b : ℕ) → a ≤ b → nat_le a b ≡ true
test_le a b h = grind (arith, nat_tests)

test_not_lt : (a b : ℕ) → b ≤ a → nat_lt a b ≡ false
test_not_lt a b h = grind (arith, nat_tests)

test_not_le : (a b : ℕ) → b < a → nat_le a b ≡ false
test_not_le a b h = grind (arith, nat_tests)

and_false : (b : Bool) → (b && false) ≡ false
and_false true = refl
and_false false = refl

-- the fault, by the place of the first that is too wide
fault_wide : (schema : List Field) (skip_first : Bool) (limit at : ℕ) (rs : List (List (List ℕ))) → position_or_len (is_wide schema) rs ≡ at → at < length rs → at ≤ limit
    → fault_among schema skip_first limit rs ≡ Some (fault.WideRow (number_skipped skip_first + at + 1))
fault_wide schema skip_first limit at rs e lt le = rw (e, test_lt at (length rs) lt, test_le at limit le) refl

fault_full : (schema : List Field) (skip_first : Bool) (limit : ℕ) (rs : List (List (List ℕ))) → limit < position_or_len (is_wide schema) rs → limit < length rs
    → fault_among schema skip_first limit rs ≡ Some (fault.Full limit)
fault_full schema skip_first limit rs past lt = rw (test_not_le (position_or_len (is_wide schema) rs) limit past, and_false (nat_lt (position_or_len (is_wide schema) rs) (length rs)), test_lt limit (length rs) lt) refl

-- all records were good
pub no_fault : (schema : List Field) (skip_first : Bool) (limit : ℕ) (rs : List (List (List ℕ))) → AreNarrow schema rs → length rs ≤ limit → fault_among schema skip_first limit rs ≡ None
no_fault schema skip_first limit rs narrow le = rw (narrow, test_not_lt (length rs) (length rs) (omega arith), test_not_lt limit (length rs) le) refl

-- the first record that wasn't good
pub fault_at : (schema : List Field) (skip_first : Bool) (limit : ℕ) (rs more : List (List (List ℕ))) (r : List (List ℕ)) (e : IngestFault)
    → AreNarrow schema rs → length rs ≤ limit → IsFaultAt schema skip_first limit (length rs) r e → e ≢ fault.Memory
    → fault_among schema skip_first limit (rs ++ r ∷ more) ≡ Some e
fault_at schema skip_first limit rs more r (fault.WideRow number) narrow le h free =
    let place = position-past (is_wide schema) rs (r ∷ more) narrow in
    let hit = position-hit (is_wide schema) r more h.0 in
    let at : position_or_len (is_wide schema) (rs ++ r ∷ more) ≡ length rs = omega (arith, place, hit) in
    rw h.1 (fault_wide schema skip_first limit (length rs) (rs ++ r ∷ more) at (omega (arith, length-append rs (r ∷ more))) le)
fault_at schema skip_first limit rs more r (fault.Full most) narrow le h free =
    let place = position-past (is_wide schema) rs (r ∷ more) narrow in
    let miss = position-miss (is_wide schema) r more h.0 in
    let size = length-append rs (r ∷ more) in
    rw h.2 (fault_full schema skip_first limit (rs ++ r ∷ more) (omega (arith, place, miss, h.1)) (omega (arith, size, h.1, le)))
fault_at schema skip_first limit rs more r fault.Memory narrow le h free = absurd (free refl)
