-- What the choosing functions choose has the type of the values to choose from.
use Rattle.std.proofs.lemmas.Bool.Decides.{nat_tests}
use Rattle.std.proofs.Common.{◌≡◌, ℕ, Bool, true, false, ◌&&◌, List, [], ◌∷◌, length, Option, Some, None, refl, sym, subst, arith}
use Rattle.std.specs.Prelude.{nat_eq, if◌then◌else◌}
use Rattle.kq_value.specs.declared.ty.Ty.{Ty}
use Rattle.kq_value.specs.declared.ty.Ty.TheVariants as ty
use Rattle.kq_value.specs.declared.value.Value.{Value}
use Rattle.kq_value.specs.Ty.{same_ty}
use Rattle.kq_value.specs.Typed.{HasType}
use Rattle.kq_value.proofs.Fields.{same_ty-Decides}
use Rattle.kq_value.specs.Computed.{Computed, Is, Overflow, and_then}
use Rattle.kq_plan_functions.specs.Table.{when, of_length, choice_type, choice_fits, alike_type, all_same}
use Rattle.kq_value_arithmetic.proofs.Typed.{GivesType}
use Rattle.kq_value_arithmetic.specs.Logic.{is_yes}
use Rattle.kq_value_string_functions.specs.kq_value_conversions.Converted.{empty_test}
use Rattle.kq_eval_row.specs.Val.{Surroundings, Meaning, first_chosen, first_present}

-- ---- lists of types and of values

-- values of these types, in order
abbrev pub AllHaveType : List Ty → List Value → Type 0
AllHaveType [] [] = Unit {0}
AllHaveType [] (v ∷ vs) = ⊥
AllHaveType (t ∷ ts) [] = ⊥
AllHaveType (t ∷ ts) (v ∷ vs) = HasType t v × AllHaveType ts vs

-- meanings that give values of these types, in order
abbrev pub AllGiveType : Surroundings → List Value → List Ty → List Meaning → Type 0
AllGiveType s row [] [] = Unit {0}
AllGiveType s row [] (m ∷ ms) = ⊥
AllGiveType s row (t ∷ ts) [] = ⊥
AllGiveType s row (t ∷ ts) (m ∷ ms) = GivesType t (m s row) × AllGiveType s row ts ms

same_ty-is : (t u : Ty) → same_ty t u ≡ true → t ≡ u
same_ty-is t u h = (same_ty-Decides t u).0 h

pub both : (a b : Bool) → (a && b) ≡ true → (a ≡ true) × (b ≡ true)
both true true h = (refl, refl)
both true false h = absurd (cc)
both false b h = absurd (cc)

-- what a test lets through
pub let_through : (b : Bool) (t u : Ty) → when b t ≡ Some u → (b ≡ true) × (t ≡ u)
let_through true t u h = (refl, cc)
let_through false t u h = absurd (cc)

-- what only so many arguments have
pub of_length-is : (n : ℕ) (ts : List Ty) (o : Option Ty) (t : Ty) → of_length n ts o ≡ Some t → (nat_eq (length ts) n ≡ true) × (o ≡ Some t)
of_length-is n ts o t h = by_test (nat_eq (length ts) n) h
  where
    by_test : (b : Bool) → (if b then o else None) ≡ Some t → (b ≡ true) × (o ≡ Some t)
    by_test true e = (refl, e)
    by_test false e = absurd (cc)

pub two_long : (ts : List Ty) → nat_eq (length ts) 2 ≡ true → (a : Ty) × (b : Ty) × (ts ≡ a ∷ b ∷ [])
two_long [] h = absurd (cc)
two_long (a ∷ []) h = absurd (grind (arith, nat_tests))
two_long (a ∷ b ∷ []) h = (a, b, refl)
two_long (a ∷ b ∷ c ∷ ts) h = absurd (grind (arith, nat_tests))

-- ---- the choosing functions

gives_along : (t u : Ty) (c : Computed Value) → t ≡ u → GivesType t c → GivesType u c
gives_along t u c e h = subst (λ (w : Ty). GivesType w c) e h

-- what is chosen by the first value, or else goes on
chosen_or : (t : Ty) (c : Computed Value) (test : Value → Bool) (a b : Value → Computed Value) → ((v : Value) → c ≡ Is v → GivesType t (a v)) → ((v : Value) → c ≡ Is v → GivesType t (b v))
    → GivesType t (and_then c (λ v. if test v then a v else b v))
chosen_or t Overflow test a b h k = tt
chosen_or t (Is v) test a b h k = by_test (test v) (h v refl) (k v refl)
  where
    by_test : (yes : Bool) → GivesType t (a v) → GivesType t (b v) → GivesType t (if yes then a v else b v)
    by_test true g l = g
    by_test false g l = l

first_chosen-typed : (s : Surroundings) (row : List Value) (t : Ty) (ts : List Ty) (ms : List Meaning) → AllGiveType s row ts ms → choice_fits t ts ≡ true → GivesType t (first_chosen ms s row)
first_chosen-typed s row t [] ms h k = absurd (cc)
first_chosen-typed s row t (u ∷ []) [] h k = absurd h
first_chosen-typed s row t (u ∷ []) (m ∷ []) h k = gives_along u t (m s row) (sym (same_ty-is t u k)) h.0
first_chosen-typed s row t (u ∷ []) (m ∷ n ∷ ms) h k = absurd h.1
first_chosen-typed s row t (p ∷ u ∷ ts) [] h k = absurd h
first_chosen-typed s row t (p ∷ u ∷ ts) (m ∷ []) h k = absurd h.1
first_chosen-typed s row t (p ∷ u ∷ ts) (m ∷ n ∷ ms) h k =
    let all = both (same_ty p ty.Bool && same_ty t u) (choice_fits t ts) k in
    let next = both (same_ty p ty.Bool) (same_ty t u) all.0 in
    chosen_or t (m s row) is_yes (λ v. n s row) (λ v. first_chosen ms s row)
    (λ v e. gives_along u t (n s row) (sym (same_ty-is t u next.1)) h.1.0) (λ v e. first_chosen-typed s row t ts ms h.1.1 all.1)

pub choice-typed : (s : Surroundings) (row : List Value) (t : Ty) (ts : List Ty) (ms : List Meaning) → AllGiveType s row ts ms → choice_type ts ≡ Some t → GivesType t (first_chosen ms s row)
choice-typed s row t [] ms h k = absurd (cc)
choice-typed s row t (p ∷ []) ms h k = absurd (cc)
choice-typed s row t (p ∷ u ∷ ts) [] h k = absurd h
choice-typed s row t (p ∷ u ∷ ts) (m ∷ []) h k = absurd h.1
choice-typed s row t (p ∷ u ∷ ts) (m ∷ n ∷ ms) h k =
    let through = let_through _ u t k in
    let fits = both (same_ty p ty.Bool) (choice_fits u ts) through.0 in
    gives_along u t (first_chosen (m ∷ n ∷ ms) s row) through.1
    (chosen_or u (m s row) is_yes (λ v. n s row) (λ v. first_chosen ms s row) (λ v e. h.1.0) (λ v e. first_chosen-typed s row u ts ms h.1.1 fits.1))

first_present-typed : (s : Surroundings) (row : List Value) (t u : Ty) (us : List Ty) (ms : List Meaning) → AllGiveType s row (u ∷ us) ms → t ≡ u → all_same t us ≡ true → GivesType t (first_present ms s row)
first_present-typed s row t u us [] h e k = absurd h
first_present-typed s row t u [] (m ∷ []) h e k = gives_along u t (m s row) (sym e) h.0
first_present-typed s row t u [] (m ∷ n ∷ ms) h e k = absurd h.1
first_present-typed s row t u (w ∷ us) (m ∷ []) h e k = absurd h.1
first_present-typed s row t u (w ∷ us) (m ∷ n ∷ ms) h e k =
    let alike = both (same_ty t w) (all_same t us) k in
    chosen_or t (m s row) (λ v. is_yes (empty_test v)) (λ v. first_present (n ∷ ms) s row) Is
    (λ v g. first_present-typed s row t w us (n ∷ ms) h.1 (same_ty-is t w alike.0) alike.1)
    (λ v g. let kept : GivesType t (m s row) = gives_along u t (m s row) (sym e) h.0 in subst (GivesType t) g kept)

pub alike-typed : (s : Surroundings) (row : List Value) (t : Ty) (ts : List Ty) (ms : List Meaning) → AllGiveType s row ts ms → alike_type ts ≡ Some t → GivesType t (first_present ms s row)
alike-typed s row t [] ms h k = absurd (cc)
alike-typed s row t (u ∷ []) ms h k = absurd (cc)
alike-typed s row t (u ∷ w ∷ ts) ms h k =
    let through = let_through (all_same u (w ∷ ts)) u t k in
    gives_along u t (first_present ms s row) through.1 (first_present-typed s row u u (w ∷ ts) ms h refl through.0)
