-- What a bound expression gives has its type.
use Rattle.std.proofs.Common.{◌≡◌, ℕ, zero, suc, ℤ, List, [], ◌∷◌, Some, refl, sym, subst}
use Rattle.std.specs.Prelude.{nat_le, ◌&&◌, length}
use Rattle.std.specs.Ordering.{is_lt, is_le, is_gt, is_ge}
use Rattle.kq_value.specs.declared.ty.Ty.{Ty}
use Rattle.kq_value.specs.declared.ty.Ty.TheVariants as ty
use Rattle.kq_value.specs.declared.schema.Field.{Field}
use Rattle.kq_value.specs.declared.value.Value.{Value}
use Rattle.kq_value.specs.declared.value.Value.TheVariants.{Null, Moment}
use Rattle.kq_value.specs.Typed.{IsMoment, IsProper, HasType, HasTypes}
use Rattle.kq_value.specs.Computed.{Computed, Is, Overflow, and_then}
use Rattle.kq_plan_functions.specs.declared.function.Function.{Function}
use Rattle.kq_plan_functions.specs.declared.function.Function.TheVariants as f
use Rattle.kq_plan_functions.specs.Table.{typing, given, choice_type}
use Rattle.kq_plan_expressions.specs.declared.expr.Expr.{Expr}
use Rattle.kq_plan_expressions.specs.Terms.{term_of, Term, literal, column, cell, call, Terms, no_term, and_term}
use Rattle.kq_plan_expressions.specs.HasType.{IsPlace, Has, Have, HoldsProper, AllHoldProper}
use Rattle.kq_value_arithmetic.specs.Comparing.{equal}
use Rattle.kq_value_arithmetic.proofs.Typed.{GivesType, plus-typed, minus-typed, times-typed, divided-typed, remainder-typed, bin_of-typed, negated-typed, absolute-typed, compared-typed, equal-typed, unequal-typed, conjunction-typed, disjunction-typed, negation-typed, in_list-typed, between_of-typed}
use Rattle.kq_value_arithmetic.specs.Logic.{between_of}
use Rattle.kq_value_calendar.specs.kq_value_time.TheVariants.{Hour, Day, Week, Month, Year}
use Rattle.kq_value_calendar.specs.Calendar.{start_of_day, start_of_week, start_of_month, start_of_year}
use Rattle.kq_value_calendar.proofs.Typed.{start-typed, day_of_week-typed, part-typed}
use Rattle.kq_value_string_functions.proofs.kq_value_conversions.Typing.{as_long-typed, as_int-typed, as_bool-typed, as_moment-typed, as_span-typed, empty_test-typed, not_empty_test-typed, member_of-typed, array_length_of-typed, sorted_of-typed, keys_of-typed}
use Rattle.kq_value_string_functions.specs.Texts.{found, equal_folded}
use Rattle.kq_value_string_functions.proofs.Typing.{str_len-typed, lowered-typed, uppered-typed, sub_text-typed, sub_text_to-typed, index_in-typed, pieces-typed, replaced-typed}
use Rattle.kq_eval_row.specs.Applied.{applied, among}
use Rattle.kq_eval_row.specs.Val.{Surroundings, Meaning, cell_of, values, called, val, meaning, meanings}
use Rattle.kq_eval_row.proofs.Meant.{val_is_meaning}
use Rattle.kq_eval_row.proofs.Choosing.{AllHaveType, AllGiveType, of_length-is, choice-typed, alike-typed, let_through}
use Rattle.kq_eval_row.proofs.Lines.{Line, none, one, two, three, number, signed, by_lines, conversion, test, equal_is_bool, text_is_bool}

-- ---- the functions that look at all their arguments

long_null : IsProper (Null ty.Long)
long_null = (λ e. cc, λ e. cc)

int_null : IsProper (Null ty.Int)
int_null = (λ e. cc, λ e. cc)

span_null : IsProper (Null ty.Span)
span_null = (λ e. cc, λ e. cc)

moment_null : IsProper (Null ty.Moment)
moment_null = (λ e. cc, λ e. cc)

bool_null : IsProper (Null ty.Bool)
bool_null = (λ e. cc, λ e. cc)

-- what the calendar says of a value, of what may overflow
gives : (t : Ty) (c : Computed Value) → ((v : Value) → c ≡ Is v → HasType t v) → GivesType t c
gives t (Is v) h = h v refl
gives t Overflow h = tt

among-typed : (equality : Value → Value → Value) (vs : List Value) → HasType ty.Bool (among equality vs)
among-typed equality [] = (refl, bool_null)
among-typed equality (x ∷ vs) = in_list-typed equality x vs

is_among : (g : Function) (now : ℤ) (ts : List Ty) (t : Ty) → ty.Bool ≡ t → ((vs : List Value) → GivesType ty.Bool (applied g now vs)) → Line g now ts t
is_among g now ts t e h vs k = subst (λ (u : Ty). GivesType u (applied g now vs)) e (h vs)

-- three functions choose, and of all others each line is met
abbrev Looked : Function → ℤ → List Ty → Ty → Type 0
Looked f.Iff now ts t = Unit {0}
Looked f.Case now ts t = Unit {0}
Looked f.Coalesce now ts t = Unit {0}
Looked g now ts t = Line g now ts t

looked : (g : Function) (now : ℤ) (ts : List Ty) (t : Ty) → IsMoment now → given (typing g) ts ≡ Some t → Looked g now ts t
looked f.Add now ts t m e = let n = number f.Add now in by_lines f.Add now ts t (
  n ty.Long ty.Long ty.Long long_null (plus-typed ty.Long ty.Long),
  (
    n ty.Int ty.Int ty.Int int_null (plus-typed ty.Int ty.Int),
    (
      n ty.Span ty.Span ty.Span span_null (plus-typed ty.Span ty.Span),
      (n ty.Moment ty.Span ty.Moment moment_null (plus-typed ty.Moment ty.Span), (n ty.Span ty.Moment ty.Moment moment_null (plus-typed ty.Span ty.Moment), tt)),
    ),
  ),
) e
looked f.Subtract now ts t m e = let n = number f.Subtract now in by_lines f.Subtract now ts t (
  n ty.Long ty.Long ty.Long long_null (minus-typed ty.Long ty.Long),
  (
    n ty.Int ty.Int ty.Int int_null (minus-typed ty.Int ty.Int),
    (
      n ty.Span ty.Span ty.Span span_null (minus-typed ty.Span ty.Span),
      (n ty.Moment ty.Span ty.Moment moment_null (minus-typed ty.Moment ty.Span), (n ty.Moment ty.Moment ty.Span span_null (minus-typed ty.Moment ty.Moment), tt)),
    ),
  ),
) e
looked f.Multiply now ts t m e = let n = number f.Multiply now in by_lines f.Multiply now ts t (
  n ty.Long ty.Long ty.Long long_null (times-typed ty.Long ty.Long),
  (
    n ty.Int ty.Int ty.Int int_null (times-typed ty.Int ty.Int),
    (n ty.Span ty.Long ty.Span span_null (times-typed ty.Span ty.Long), (n ty.Long ty.Span ty.Span span_null (times-typed ty.Long ty.Span), tt)),
  ),
) e
looked f.Divide now ts t m e = let n = number f.Divide now in by_lines f.Divide now ts t (
  n ty.Long ty.Long ty.Long long_null (divided-typed ty.Long ty.Long),
  (n ty.Int ty.Int ty.Int int_null (divided-typed ty.Int ty.Int), (n ty.Span ty.Long ty.Span span_null (divided-typed ty.Span ty.Long), tt)),
) e
looked f.Remainder now ts t m e = let n = number f.Remainder now in by_lines f.Remainder now ts t (
  n ty.Long ty.Long ty.Long long_null (remainder-typed ty.Long ty.Long),
  (n ty.Int ty.Int ty.Int int_null (remainder-typed ty.Int ty.Int), (n ty.Span ty.Span ty.Span span_null (remainder-typed ty.Span ty.Span), tt)),
) e
looked f.Bin now ts t m e = let n = number f.Bin now in by_lines f.Bin now ts t (
  n ty.Long ty.Long ty.Long long_null (bin_of-typed ty.Long ty.Long),
  (
    n ty.Int ty.Int ty.Int int_null (bin_of-typed ty.Int ty.Int),
    (
      n ty.Span ty.Span ty.Span span_null (bin_of-typed ty.Span ty.Span),
      (n ty.Moment ty.Span ty.Moment moment_null (bin_of-typed ty.Moment ty.Span), tt),
    ),
  ),
) e
looked f.Negate now ts t m e = let n = signed f.Negate now in by_lines f.Negate now ts t (
  n ty.Long long_null (negated-typed ty.Long),
  (n ty.Int int_null (negated-typed ty.Int), (n ty.Span span_null (negated-typed ty.Span), tt)),
) e
looked f.Abs now ts t m e = let n = signed f.Abs now in by_lines f.Abs now ts t (
  n ty.Long long_null (absolute-typed ty.Long),
  (n ty.Int int_null (absolute-typed ty.Int), (n ty.Span span_null (absolute-typed ty.Span), tt)),
) e
looked f.Keep now ts t m e = let n = one f.Keep now in by_lines f.Keep now ts t (
  n ty.Long ty.Long (λ a h. h),
  (n ty.Int ty.Int (λ a h. h), (n ty.Span ty.Span (λ a h. h), tt)),
) e
looked f.Equal now ts t m e = test f.Equal now ts _ t equal-typed (equal_is_bool ts t) e
looked f.Unequal now ts t m e = test f.Unequal now ts _ t unequal-typed (equal_is_bool ts t) e
looked f.Less now ts t m e = let n = two f.Less now in by_lines f.Less now ts t (
  n ty.Long ty.Long ty.Bool (λ a b h k. compared-typed is_lt a b),
  (n ty.Moment ty.Moment ty.Bool (λ a b h k. compared-typed is_lt a b), (n ty.Span ty.Span ty.Bool (λ a b h k. compared-typed is_lt a b), tt)),
) e
looked f.AtMost now ts t m e = let n = two f.AtMost now in by_lines f.AtMost now ts t (
  n ty.Long ty.Long ty.Bool (λ a b h k. compared-typed is_le a b),
  (n ty.Moment ty.Moment ty.Bool (λ a b h k. compared-typed is_le a b), (n ty.Span ty.Span ty.Bool (λ a b h k. compared-typed is_le a b), tt)),
) e
looked f.Greater now ts t m e = let n = two f.Greater now in by_lines f.Greater now ts t (
  n ty.Long ty.Long ty.Bool (λ a b h k. compared-typed is_gt a b),
  (n ty.Moment ty.Moment ty.Bool (λ a b h k. compared-typed is_gt a b), (n ty.Span ty.Span ty.Bool (λ a b h k. compared-typed is_gt a b), tt)),
) e
looked f.AtLeast now ts t m e = let n = two f.AtLeast now in by_lines f.AtLeast now ts t (
  n ty.Long ty.Long ty.Bool (λ a b h k. compared-typed is_ge a b),
  (n ty.Moment ty.Moment ty.Bool (λ a b h k. compared-typed is_ge a b), (n ty.Span ty.Span ty.Bool (λ a b h k. compared-typed is_ge a b), tt)),
) e
looked f.EqualFolded now ts t m e = test f.EqualFolded now ts _ t (λ a b. (refl, tt)) (text_is_bool ts t) e
looked f.UnequalFolded now ts t m e = test f.UnequalFolded now ts _ t (λ a b. negation-typed (equal_folded a b)) (text_is_bool ts t) e
looked (f.Find kind) now ts t m e = test (f.Find kind) now ts _ t (λ a b. (refl, tt)) (text_is_bool ts t) e
looked (f.FindNot kind) now ts t m e = test (f.FindNot kind) now ts _ t (λ a b. negation-typed (found kind a b)) (text_is_bool ts t) e
looked f.And now ts t m e = by_lines f.And now ts t (two f.And now ty.Bool ty.Bool ty.Bool (λ a b h k. conjunction-typed a b), tt) e
looked f.Or now ts t m e = by_lines f.Or now ts t (two f.Or now ty.Bool ty.Bool ty.Bool (λ a b h k. disjunction-typed a b), tt) e
looked f.Not now ts t m e = by_lines f.Not now ts t (one f.Not now ty.Bool ty.Bool (λ a h. negation-typed a), tt) e
looked f.In now ts t m e = is_among f.In now ts t (equal_is_bool ts t e) (λ vs. among-typed equal vs)
looked f.NotIn now ts t m e = is_among f.NotIn now ts t (equal_is_bool ts t e) (λ vs. negation-typed (among equal vs))
looked f.InFolded now ts t m e = is_among f.InFolded now ts t (text_is_bool ts t e) (λ vs. among-typed equal_folded vs)
looked f.NotInFolded now ts t m e = is_among f.NotInFolded now ts t (text_is_bool ts t e) (λ vs. negation-typed (among equal_folded vs))
looked f.Between now ts t m e = let n = three f.Between now in by_lines f.Between now ts t (
  n ty.Long ty.Long ty.Long ty.Bool between_of-typed,
  (n ty.Moment ty.Moment ty.Moment ty.Bool between_of-typed, (n ty.Span ty.Span ty.Span ty.Bool between_of-typed, tt)),
) e
looked f.NotBetween now ts t m e = let n = three f.NotBetween now in by_lines f.NotBetween now ts t (
  n ty.Long ty.Long ty.Long ty.Bool (λ a b c. negation-typed (between_of a b c)),
  (n ty.Moment ty.Moment ty.Moment ty.Bool (λ a b c. negation-typed (between_of a b c)), (n ty.Span ty.Span ty.Span ty.Bool (λ a b c. negation-typed (between_of a b c)), tt)),
) e
looked f.Member now ts t m e = let n = two f.Member now in by_lines f.Member now ts t (
  n ty.Dynamic ty.Text ty.Dynamic (λ a b h k. member_of-typed a b),
  (n ty.Dynamic ty.Long ty.Dynamic (λ a b h k. member_of-typed a b), tt),
) e
looked f.Now now ts t m e = by_lines f.Now now ts t (
  none f.Now now ty.Moment (refl, m),
  (one f.Now now ty.Span ty.Moment (λ a h. plus-typed ty.Moment ty.Span (Moment now) a refl h.0 moment_null), tt),
) e
looked f.Ago now ts t m e = by_lines f.Ago now ts t (one f.Ago now ty.Span ty.Moment (λ a h. minus-typed ty.Moment ty.Span (Moment now) a refl h.0 moment_null), tt) e
looked f.Iff now ts t m e = tt
looked f.Case now ts t m e = tt
looked f.Coalesce now ts t m e = tt
looked f.IsNull now ts t m e = conversion f.IsNull now ts ty.Bool t (λ a s h. (refl, tt)) e
looked f.IsNotNull now ts t m e = conversion f.IsNotNull now ts ty.Bool t (λ a s h. (refl, tt)) e
looked f.IsEmpty now ts t m e = conversion f.IsEmpty now ts ty.Bool t (λ a s h. empty_test-typed a) e
looked f.IsNotEmpty now ts t m e = conversion f.IsNotEmpty now ts ty.Bool t (λ a s h. not_empty_test-typed a) e
looked f.StrLen now ts t m e = by_lines f.StrLen now ts t (one f.StrLen now ty.Text ty.Long (λ a h. str_len-typed a), tt) e
looked f.ToLower now ts t m e = by_lines f.ToLower now ts t (one f.ToLower now ty.Text ty.Text (λ a h. lowered-typed a), tt) e
looked f.ToUpper now ts t m e = by_lines f.ToUpper now ts t (one f.ToUpper now ty.Text ty.Text (λ a h. uppered-typed a), tt) e
looked f.StrCat now ts t m e = λ vs h. subst (λ (u : Ty). GivesType u (applied f.StrCat now vs)) (let_through (nat_le 1 (length ts) && nat_le (length ts) 64) ty.Text t e).1 (refl, tt)
looked f.Substring now ts t m e = by_lines f.Substring now ts t (
  two f.Substring now ty.Text ty.Long ty.Text (λ a b h k. sub_text-typed a b),
  (three f.Substring now ty.Text ty.Long ty.Long ty.Text sub_text_to-typed, tt),
) e
looked f.IndexOf now ts t m e = by_lines f.IndexOf now ts t (two f.IndexOf now ty.Text ty.Text ty.Long (λ a b h k. index_in-typed a b), tt) e
looked f.Split now ts t m e = by_lines f.Split now ts t (two f.Split now ty.Text ty.Text ty.Dynamic (λ a b h k. pieces-typed a b), tt) e
looked f.ReplaceString now ts t m e = by_lines f.ReplaceString now ts t (three f.ReplaceString now ty.Text ty.Text ty.Text ty.Text replaced-typed, tt) e
looked f.ToText now ts t m e = conversion f.ToText now ts ty.Text t (λ a s h. (refl, tt)) e
looked f.ToLong now ts t m e = conversion f.ToLong now ts ty.Long t (λ a s h. as_long-typed a) e
looked f.ToInt now ts t m e = conversion f.ToInt now ts ty.Int t (λ a s h. as_int-typed a) e
looked f.ToBool now ts t m e = conversion f.ToBool now ts ty.Bool t (λ a s h. as_bool-typed a) e
looked f.ToMoment now ts t m e = conversion f.ToMoment now ts ty.Moment t (λ a s h. as_moment-typed a h.1) e
looked f.ToSpan now ts t m e = conversion f.ToSpan now ts ty.Span t (λ a s h. as_span-typed a) e
looked f.ToDynamic now ts t m e = conversion f.ToDynamic now ts ty.Dynamic t (λ a s h. (refl, tt)) e
looked f.StartOfDay now ts t m e = by_lines f.StartOfDay now ts t (one f.StartOfDay now ty.Moment ty.Moment (λ a h. gives ty.Moment (start_of_day a) (start-typed Day a)), tt) e
looked f.StartOfWeek now ts t m e = by_lines f.StartOfWeek now ts t (one f.StartOfWeek now ty.Moment ty.Moment (λ a h. gives ty.Moment (start_of_week a) (start-typed Week a)), tt) e
looked f.StartOfMonth now ts t m e = by_lines f.StartOfMonth now ts t (one f.StartOfMonth now ty.Moment ty.Moment (λ a h. gives ty.Moment (start_of_month a) (start-typed Month a)), tt) e
looked f.StartOfYear now ts t m e = by_lines f.StartOfYear now ts t (one f.StartOfYear now ty.Moment ty.Moment (λ a h. gives ty.Moment (start_of_year a) (start-typed Year a)), tt) e
looked f.DayOfWeek now ts t m e = by_lines f.DayOfWeek now ts t (one f.DayOfWeek now ty.Moment ty.Span (λ a h. day_of_week-typed a), tt) e
looked f.GetYear now ts t m e = by_lines f.GetYear now ts t (one f.GetYear now ty.Moment ty.Long (λ a h. part-typed Year a), tt) e
looked f.MonthOfYear now ts t m e = by_lines f.MonthOfYear now ts t (one f.MonthOfYear now ty.Moment ty.Long (λ a h. part-typed Month a), tt) e
looked f.DayOfMonth now ts t m e = by_lines f.DayOfMonth now ts t (one f.DayOfMonth now ty.Moment ty.Long (λ a h. part-typed Day a), tt) e
looked f.HourOfDay now ts t m e = by_lines f.HourOfDay now ts t (one f.HourOfDay now ty.Moment ty.Long (λ a h. part-typed Hour a), tt) e
looked f.ArrayLength now ts t m e = by_lines f.ArrayLength now ts t (one f.ArrayLength now ty.Dynamic ty.Long (λ a h. array_length_of-typed a), tt) e
looked f.ArraySortAsc now ts t m e = by_lines f.ArraySortAsc now ts t (one f.ArraySortAsc now ty.Dynamic ty.Dynamic (λ a h. sorted_of-typed a), tt) e
looked f.BagKeys now ts t m e = by_lines f.BagKeys now ts t (one f.BagKeys now ty.Dynamic ty.Dynamic (λ a h. keys_of-typed a), tt) e

-- ---- calls

cons_have : (u : Ty) (ts : List Ty) (c : Computed Value) (cs : Computed (List Value)) (ws : List Value) → GivesType u c → ((vs : List Value) → cs ≡ Is vs → AllHaveType ts vs)
    → and_then c (λ v. and_then cs (λ vs. Is (v ∷ vs))) ≡ Is ws → AllHaveType (u ∷ ts) ws
cons_have u ts Overflow cs ws h k e = absurd (cc)
cons_have u ts (Is v) Overflow ws h k e = absurd (cc)
cons_have u ts (Is v) (Is vs) ws h k e = let same : (v ∷ vs) ≡ ws = cc in subst (AllHaveType (u ∷ ts)) same (h, k vs refl)

-- the values of meanings that give these types have them
values-typed : (s : Surroundings) (row : List Value) (ts : List Ty) (ms : List Meaning) → AllGiveType s row ts ms → (vs : List Value) → values ms s row ≡ Is vs → AllHaveType ts vs
values-typed s row [] [] h vs e = let same : [] ≡ vs = cc in subst (AllHaveType []) same tt
values-typed s row [] (m ∷ ms) h vs e = absurd h
values-typed s row (t ∷ ts) [] h vs e = absurd h
values-typed s row (t ∷ ts) (m ∷ ms) h vs e = cons_have t ts (m s row) (values ms s row) vs h.0 (λ ws k. values-typed s row ts ms h.1 ws k) e

then-typed : (t : Ty) (c : Computed (List Value)) (k : List Value → Computed Value) → ((vs : List Value) → c ≡ Is vs → GivesType t (k vs)) → GivesType t (and_then c k)
then-typed t (Is vs) k h = h vs refl
then-typed t Overflow k h = tt

looks : (g : Function) (s : Surroundings) (row : List Value) (ts : List Ty) (ms : List Meaning) (t : Ty) → AllGiveType s row ts ms → Line g s.now ts t → GivesType t (and_then (values ms s row) (applied g s.now))
looks g s row ts ms t h line = then-typed t (values ms s row) (applied g s.now) (λ vs e. line vs (values-typed s row ts ms h vs e))

called-typed : (g : Function) (s : Surroundings) (row : List Value) (ts : List Ty) (ms : List Meaning) (t : Ty) → IsMoment s.now → AllGiveType s row ts ms → given (typing g) ts ≡ Some t → GivesType t (called g ms s row)
called-typed f.Iff s row ts ms t m h e = choice-typed s row t ts ms h (of_length-is 3 ts (choice_type ts) t e).1
called-typed f.Case s row ts ms t m h e = choice-typed s row t ts ms h e
called-typed f.Coalesce s row ts ms t m h e = alike-typed s row t ts ms h e
called-typed g s row ts ms t m h e = looks g s row ts ms t h (looked g s.now ts t m e)

-- ---- terms

cell-typed : (cs : List Field) (row : List Value) (i : ℕ) (t : Ty) → HasTypes cs row → IsPlace cs i t → HasType t (cell_of row i)
cell-typed [] row i t h e = absurd e
cell-typed (c ∷ cs) [] i t h e = absurd h
cell-typed (c ∷ cs) (v ∷ vs) zero t h e = subst (λ (u : Ty). HasType u v) e h.0
cell-typed (c ∷ cs) (v ∷ vs) (suc i) t h e = cell-typed cs vs i t h.1 e

-- over lets and a row of these columns' types, a term that has a type gives a value of it, or an overflow
mutual
  pub meaning-typed : (lets cs : List Field) (s : Surroundings) (row : List Value) → IsMoment s.now → HasTypes lets s.lets → HasTypes cs row
      → (e : Term) (t : Ty) → HoldsProper e → Has lets cs e t → GivesType t (meaning e s row)
  meaning-typed lets cs s row m l r (literal v) t p h = (h, p)
  meaning-typed lets cs s row m l r (column i) t p h = cell-typed cs row i t r h
  meaning-typed lets cs s row m l r (cell i) t p h = cell-typed lets s.lets i t l h
  meaning-typed lets cs s row m l r (call g es) t p h = called-typed g s row h.0 (meanings es) t m (meanings-typed lets cs s row m l r es h.0 p h.1) h.2

  pub meanings-typed : (lets cs : List Field) (s : Surroundings) (row : List Value) → IsMoment s.now → HasTypes lets s.lets → HasTypes cs row
      → (es : Terms) (ts : List Ty) → AllHoldProper es → Have lets cs es ts → AllGiveType s row ts (meanings es)
  meanings-typed lets cs s row m l r no_term [] p h = tt
  meanings-typed lets cs s row m l r no_term (t ∷ ts) p h = absurd h
  meanings-typed lets cs s row m l r (and_term e es) [] p h = absurd h
  meanings-typed lets cs s row m l r (and_term e es) (t ∷ ts) p h = (meaning-typed lets cs s row m l r e t p.0 h.0, meanings-typed lets cs s row m l r es ts p.1 h.1)

-- the same of an expression
pub val-typed : (lets cs : List Field) (s : Surroundings) (row : List Value) → IsMoment s.now → HasTypes lets s.lets → HasTypes cs row
    → (e : Expr) (t : Ty) → HoldsProper (term_of e) → Has lets cs (term_of e) t → GivesType t (val e s row)
val-typed lets cs s row m l r e t p h =
    subst (λ (c : Meaning). GivesType t (c s row)) (sym (val_is_meaning e)) (meaning-typed lets cs s row m l r (term_of e) t p h)
