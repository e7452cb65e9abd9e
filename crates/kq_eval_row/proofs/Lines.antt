-- What a function gives of arguments of one of its lines has the type of that line.
use Rattle.std.proofs.lemmas.Bool.Decides.{nat_tests}
use Rattle.std.proofs.Common.{arith, ◌≡◌, ℤ, Bool, true, false, List, [], ◌∷◌, length, Option, Some, refl, sym, subst, cond}
use Rattle.std.specs.Prelude.{◌&&◌, nat_le}
use Rattle.std.specs.Cmp.Lexicographic.{pointwise_decides}
use Rattle.kq_value.specs.declared.ty.Ty.{Ty}
use Rattle.kq_value.specs.declared.ty.Ty.TheVariants as ty
use Rattle.kq_value.specs.declared.value.Value.{Value}
use Rattle.kq_value.specs.declared.value.Value.TheVariants.{Null}
use Rattle.kq_value.specs.Typed.{type_of, IsProper, HasType}
use Rattle.kq_value.proofs.Fields.{same_ty-Decides}
use Rattle.kq_plan_functions.specs.declared.function.Function.{Function}
use Rattle.kq_plan_functions.specs.Table.{Signature, Typing, lines, typing, first_line, same_types, when, of_length, equal_type, text_type, all_comparable, all_texts}
use Rattle.kq_value_arithmetic.proofs.Typed.{GivesType}
use Rattle.kq_eval_row.specs.Applied.{applied}
use Rattle.kq_eval_row.proofs.Choosing.{AllHaveType, both, let_through, of_length-is, two_long}

-- at values of these types the function gives a value of that type, if any
abbrev pub Line : Function → ℤ → List Ty → Ty → Type 0
Line g now ts t = (vs : List Value) → AllHaveType ts vs → GivesType t (applied g now vs)

pub none : (g : Function) (now : ℤ) (t : Ty) → GivesType t (applied g now []) → Line g now [] t
none g now t k [] h = k
none g now t k (v ∷ vs) h = absurd h

pub one : (g : Function) (now : ℤ) (s t : Ty) → ((a : Value) → HasType s a → GivesType t (applied g now (a ∷ []))) → Line g now (s ∷ []) t
one g now s t k [] h = absurd h
one g now s t k (a ∷ []) h = k a h.0
one g now s t k (a ∷ b ∷ vs) h = absurd h.1

pub two : (g : Function) (now : ℤ) (s t u : Ty) → ((a b : Value) → HasType s a → HasType t b → GivesType u (applied g now (a ∷ b ∷ []))) → Line g now (s ∷ t ∷ []) u
two g now s t u k [] h = absurd h
two g now s t u k (a ∷ []) h = absurd h.1
two g now s t u k (a ∷ b ∷ []) h = k a b h.0 h.1.0
two g now s t u k (a ∷ b ∷ c ∷ vs) h = absurd h.1.1

pub three : (g : Function) (now : ℤ) (s t u w : Ty) → ((a b c : Value) → GivesType w (applied g now (a ∷ b ∷ c ∷ []))) → Line g now (s ∷ t ∷ u ∷ []) w
three g now s t u w k [] h = absurd h
three g now s t u w k (a ∷ []) h = absurd h.1
three g now s t u w k (a ∷ b ∷ []) h = absurd h.1.1
three g now s t u w k (a ∷ b ∷ c ∷ []) h = k a b c
three g now s t u w k (a ∷ b ∷ c ∷ d ∷ vs) h = absurd h.1.1.1

-- an operator on numbers, whose result's type has a null
pub number : (g : Function) (now : ℤ) (s t u : Ty) → IsProper (Null u) → ((a b : Value) → type_of a ≡ s → type_of b ≡ t → IsProper (Null u) → GivesType u (applied g now (a ∷ b ∷ []))) → Line g now (s ∷ t ∷ []) u
number g now s t u n k = two g now s t u (λ a b h l. k a b h.0 l.0 n)

pub signed : (g : Function) (now : ℤ) (t : Ty) → IsProper (Null t) → ((a : Value) → type_of a ≡ t → IsProper (Null t) → GivesType t (applied g now (a ∷ []))) → Line g now (t ∷ []) t
signed g now t n k = one g now t t (λ a h. k a h.0 n)

abbrev pub AllLines : Function → ℤ → List Signature → Type 0
AllLines g now [] = Unit {0}
AllLines g now (l ∷ ls) = Line g now l.0 l.1 × AllLines g now ls

line_at : (g : Function) (now : ℤ) (l : Signature) (ts : List Ty) (t : Ty) (rest : Option Ty) (b : Bool) → same_types l.0 ts ≡ b
    → Line g now l.0 l.1 → (rest ≡ Some t → Line g now ts t) → cond b (Some l.1) rest ≡ Some t → Line g now ts t
line_at g now l ts t rest true same here next e =
    let types : l.0 ≡ ts = (pointwise_decides same_ty-Decides l.0 ts).0 same in
    let result : l.1 ≡ t = cc in
    subst (λ (us : List Ty). Line g now us t) types (subst (λ (u : Ty). Line g now l.0 u) result here)
line_at g now l ts t rest false same here next e = next e

one_of_lines : (g : Function) (now : ℤ) (ls : List Signature) (ts : List Ty) (t : Ty) → AllLines g now ls → first_line ls ts ≡ Some t → Line g now ts t
one_of_lines g now [] ts t h e = absurd (cc)
one_of_lines g now (l ∷ ls) ts t h e = line_at g now l ts t (first_line ls ts) (same_types l.0 ts) refl h.0 (λ k. one_of_lines g now ls ts t h.1 k) e

abbrev pub lines_of : Typing → List Signature
lines_of (lines ls) = ls
lines_of rule = []

-- the line that takes the arguments is one of the function's
pub by_lines : (g : Function) (now : ℤ) (ts : List Ty) (t : Ty) → AllLines g now (lines_of (typing g)) → first_line (lines_of (typing g)) ts ≡ Some t → Line g now ts t
by_lines g now ts t h e = one_of_lines g now (lines_of (typing g)) ts t h e

one_long : (ts : List Ty) (t u : Ty) → when (nat_le 1 (length ts) && nat_le (length ts) 1) t ≡ Some u → (s : Ty) × (ts ≡ s ∷ []) × (t ≡ u)
one_long [] t u e = absurd (cc)
one_long (s ∷ []) t u e = (s, refl, cc)
one_long (s ∷ r ∷ ts) t u e =
    let through = let_through (nat_le 1 (length (s ∷ r ∷ ts)) && nat_le (length (s ∷ r ∷ ts)) 1) t u e in
    let fits : nat_le (length (s ∷ r ∷ ts)) 1 ≡ true = (both (nat_le 1 (length (s ∷ r ∷ ts))) _ through.0).1 in
    absurd (grind (arith, nat_tests))

-- a function of one value of any type
pub conversion : (g : Function) (now : ℤ) (ts : List Ty) (t u : Ty) → ((a : Value) → (s : Ty) → HasType s a → GivesType t (applied g now (a ∷ []))) → when (nat_le 1 (length ts) && nat_le (length ts) 1) t ≡ Some u → Line g now ts u
conversion g now ts t u k e =
    let o = one_long ts t u e in
    subst (λ (w : Ty). Line g now ts w) o.2 (subst (λ (us : List Ty). Line g now us t) (sym o.1) (one g now o.0 t (λ a h. k a o.0 h)))

-- a test of two values
pub test : (g : Function) (now : ℤ) (ts : List Ty) (o : Option Ty) (t : Ty) → ((a b : Value) → GivesType ty.Bool (applied g now (a ∷ b ∷ []))) → (o ≡ Some t → ty.Bool ≡ t) → of_length 2 ts o ≡ Some t → Line g now ts t
test g now ts o t k is e =
    let m = of_length-is 2 ts o t e in
    let p = two_long ts m.0 in
    subst (λ (w : Ty). Line g now ts w) (is m.1) (subst (λ (us : List Ty). Line g now us ty.Bool) (sym p.2) (two g now p.0 p.1 ty.Bool (λ a b h l. k a b)))

pub equal_is_bool : (ts : List Ty) (t : Ty) → equal_type ts ≡ Some t → ty.Bool ≡ t
equal_is_bool [] t e = absurd (cc)
equal_is_bool (a ∷ []) t e = absurd (cc)
equal_is_bool (a ∷ b ∷ ts) t e = (let_through (all_comparable a (b ∷ ts)) ty.Bool t e).1

pub text_is_bool : (ts : List Ty) (t : Ty) → text_type ts ≡ Some t → ty.Bool ≡ t
text_is_bool ts t e = (let_through (nat_le 2 (length ts) && all_texts ts) ty.Bool t e).1
