-- Which arguments each operator and function takes, and the type of what it gives.
use Rattle.std.specs.Prelude.{ℕ, Bool, true, false, ◌&&◌, ◌||◌, if◌then◌else◌, nat_le, nat_eq, List, [], ◌∷◌, ◌++◌, map, length, Option, Some, None}
use Rattle.std.specs.Option.{option_map}
use Rattle.std.specs.Cmp.Lexicographic.{pointwise}
use Rattle.kq_value.specs.declared.ty.Ty.{Ty}
use Rattle.kq_value.specs.declared.ty.Ty.TheVariants.{Long, Int, Text, Bool as Truth, Moment, Span, Dynamic}
use Rattle.kq_value.specs.Ty.{same_ty}
use Rattle.kq_plan_functions.specs.declared.function.Function.{Function}
use Rattle.kq_plan_functions.specs.declared.function.Function.TheVariants as f

-- ---- the kinds of rules

-- what a line takes, and what it gives
abbrev pub Signature : Type 0
Signature = List Ty × Ty

pub data Typing : Type 0 where
  -- the first of these lines that takes the arguments
  lines : List Signature → Typing
  -- from so many to so many arguments of any type
  any : ℕ → ℕ → Ty → Typing
  -- two that can be tested for equality; one, and others with which it can be
  equals : Typing
  equals_one : Typing
  -- two that are strings or dynamics; two or more
  texts : Typing
  texts_one : Typing
  -- a bool and a value, once or more often, and a last value; the values are of one type, which is given
  one_choice : Typing
  choices : Typing
  -- two or more of one type, which is given
  alike : Typing

abbrev pub numbers : List Signature
numbers = (Long ∷ Long ∷ [], Long) ∷ (Int ∷ Int ∷ [], Int) ∷ []

abbrev pub signs : List Signature
signs = (Long ∷ [], Long) ∷ (Int ∷ [], Int) ∷ (Span ∷ [], Span) ∷ []

abbrev pub ordered : List Signature
ordered = (Long ∷ Long ∷ [], Truth) ∷ (Moment ∷ Moment ∷ [], Truth) ∷ (Span ∷ Span ∷ [], Truth) ∷ []

abbrev pub ranges : List Signature
ranges = (Long ∷ Long ∷ Long ∷ [], Truth) ∷ (Moment ∷ Moment ∷ Moment ∷ [], Truth) ∷ (Span ∷ Span ∷ Span ∷ [], Truth) ∷ []

-- one line
abbrev pub one : List Ty → Ty → Typing
one ts t = lines ((ts, t) ∷ [])

-- ---- the table

abbrev pub typing : Function → Typing
typing f.Add = lines (numbers ++ (Span ∷ Span ∷ [], Span) ∷ (Moment ∷ Span ∷ [], Moment) ∷ (Span ∷ Moment ∷ [], Moment) ∷ [])
typing f.Subtract = lines (numbers ++ (Span ∷ Span ∷ [], Span) ∷ (Moment ∷ Span ∷ [], Moment) ∷ (Moment ∷ Moment ∷ [], Span) ∷ [])
typing f.Multiply = lines (numbers ++ (Span ∷ Long ∷ [], Span) ∷ (Long ∷ Span ∷ [], Span) ∷ [])
typing f.Divide = lines (numbers ++ (Span ∷ Long ∷ [], Span) ∷ [])
typing f.Remainder = lines (numbers ++ (Span ∷ Span ∷ [], Span) ∷ [])
typing f.Negate = lines signs
typing f.Keep = lines signs
typing f.Equal = equals
typing f.Unequal = equals
typing f.Less = lines ordered
typing f.AtMost = lines ordered
typing f.Greater = lines ordered
typing f.AtLeast = lines ordered
typing f.EqualFolded = texts
typing f.UnequalFolded = texts
typing f.And = one (Truth ∷ Truth ∷ []) Truth
typing f.Or = one (Truth ∷ Truth ∷ []) Truth
typing f.In = equals_one
typing f.NotIn = equals_one
typing f.InFolded = texts_one
typing f.NotInFolded = texts_one
typing f.Between = lines ranges
typing f.NotBetween = lines ranges
typing (f.Find kind) = texts
typing (f.FindNot kind) = texts
typing f.Member = lines ((Dynamic ∷ Text ∷ [], Dynamic) ∷ (Dynamic ∷ Long ∷ [], Dynamic) ∷ [])
typing f.Now = lines (([], Moment) ∷ (Span ∷ [], Moment) ∷ [])
typing f.Ago = one (Span ∷ []) Moment
typing f.Bin = lines (numbers ++ (Span ∷ Span ∷ [], Span) ∷ (Moment ∷ Span ∷ [], Moment) ∷ [])
typing f.Abs = lines signs
typing f.Iff = one_choice
typing f.Case = choices
typing f.Coalesce = alike
typing f.Not = one (Truth ∷ []) Truth
typing f.IsNull = any 1 1 Truth
typing f.IsNotNull = any 1 1 Truth
typing f.IsEmpty = any 1 1 Truth
typing f.IsNotEmpty = any 1 1 Truth
typing f.StrLen = one (Text ∷ []) Long
typing f.ToLower = one (Text ∷ []) Text
typing f.ToUpper = one (Text ∷ []) Text
typing f.StrCat = any 1 64 Text
typing f.Substring = lines ((Text ∷ Long ∷ [], Text) ∷ (Text ∷ Long ∷ Long ∷ [], Text) ∷ [])
typing f.IndexOf = one (Text ∷ Text ∷ []) Long
typing f.Split = one (Text ∷ Text ∷ []) Dynamic
typing f.ReplaceString = one (Text ∷ Text ∷ Text ∷ []) Text
typing f.ToText = any 1 1 Text
typing f.ToLong = any 1 1 Long
typing f.ToInt = any 1 1 Int
typing f.ToBool = any 1 1 Truth
typing f.ToMoment = any 1 1 Moment
typing f.ToSpan = any 1 1 Span
typing f.ToDynamic = any 1 1 Dynamic
typing f.StartOfDay = one (Moment ∷ []) Moment
typing f.StartOfWeek = one (Moment ∷ []) Moment
typing f.StartOfMonth = one (Moment ∷ []) Moment
typing f.StartOfYear = one (Moment ∷ []) Moment
typing f.DayOfWeek = one (Moment ∷ []) Span
typing f.GetYear = one (Moment ∷ []) Long
typing f.MonthOfYear = one (Moment ∷ []) Long
typing f.DayOfMonth = one (Moment ∷ []) Long
typing f.HourOfDay = one (Moment ∷ []) Long
typing f.ArrayLength = one (Dynamic ∷ []) Long
typing f.ArraySortAsc = one (Dynamic ∷ []) Dynamic
typing f.BagKeys = one (Dynamic ∷ []) Dynamic

-- ---- what a rule gives of arguments of these types

abbrev pub same_types : List Ty → List Ty → Bool
same_types = pointwise same_ty

abbrev pub first_line : List Signature → List Ty → Option Ty
first_line [] ts = None
first_line (l ∷ ls) ts = if same_types l.0 ts then Some l.1 else first_line ls ts

-- a dynamic may equal a long, a string or a bool
abbrev pub is_plain : Ty → Bool
is_plain Long = true
is_plain Text = true
is_plain Truth = true
is_plain _ = false

abbrev pub is_comparable : Ty → Ty → Bool
is_comparable t u = same_ty t u || (same_ty t Dynamic && is_plain u) || (is_plain t && same_ty u Dynamic)

abbrev pub all_comparable : Ty → List Ty → Bool
all_comparable t [] = true
all_comparable t (u ∷ us) = is_comparable t u && all_comparable t us

abbrev pub is_text : Ty → Bool
is_text t = same_ty t Text || same_ty t Dynamic

abbrev pub all_texts : List Ty → Bool
all_texts [] = true
all_texts (t ∷ ts) = is_text t && all_texts ts

abbrev pub all_same : Ty → List Ty → Bool
all_same t [] = true
all_same t (u ∷ us) = same_ty t u && all_same t us

-- a bool and a value of this type, and so on, and such a value at the end
abbrev pub choice_fits : Ty → List Ty → Bool
choice_fits t [] = false
choice_fits t (u ∷ []) = same_ty t u
choice_fits t (p ∷ u ∷ us) = same_ty p Truth && same_ty t u && choice_fits t us

-- the type, where the test holds
abbrev pub when : Bool → Ty → Option Ty
when b t = if b then Some t else None

abbrev pub equal_type : List Ty → Option Ty
equal_type [] = None
equal_type (t ∷ []) = None
equal_type (t ∷ u ∷ us) = when (all_comparable t (u ∷ us)) Truth

abbrev pub text_type : List Ty → Option Ty
text_type ts = when (nat_le 2 (length ts) && all_texts ts) Truth

-- the type of what is chosen, which is that of the first value
abbrev pub choice_type : List Ty → Option Ty
choice_type [] = None
choice_type (t ∷ []) = None
choice_type (p ∷ t ∷ ts) = when (same_ty p Truth && choice_fits t ts) t

abbrev pub alike_type : List Ty → Option Ty
alike_type [] = None
alike_type (t ∷ []) = None
alike_type (t ∷ u ∷ us) = when (all_same t (u ∷ us)) t

-- of so many arguments alone
abbrev pub of_length : ℕ → List Ty → Option Ty → Option Ty
of_length n ts o = if nat_eq (length ts) n then o else None

abbrev pub given : Typing → List Ty → Option Ty
given (lines ls) ts = first_line ls ts
given (any m n t) ts = when (nat_le m (length ts) && nat_le (length ts) n) t
given equals ts = of_length 2 ts (equal_type ts)
given equals_one ts = equal_type ts
given texts ts = of_length 2 ts (text_type ts)
given texts_one ts = text_type ts
given one_choice ts = of_length 3 ts (choice_type ts)
given choices ts = choice_type ts
given alike ts = alike_type ts

-- an int stands for the long of its value
abbrev pub widened : Ty → Ty
widened Int = Long
widened t = t

-- whether an int that fits nowhere stands for a long
abbrev pub widens : Typing → Bool
widens (lines ls) = true
widens (any m n t) = false
widens equals = true
widens equals_one = true
widens texts = false
widens texts_one = false
widens one_choice = false
widens choices = false
widens alike = false

-- how a call is typed: whether its ints are widened, and what it gives
abbrev pub TypedCall : Type 0
TypedCall = Bool × Ty

abbrev pub as_it_is : Option Ty → Option TypedCall → Option TypedCall
as_it_is (Some t) other = Some (false, t)
as_it_is None other = other

abbrev pub when_widened : Bool → Option Ty → Option TypedCall
when_widened true (Some t) = Some (true, t)
when_widened true None = None
when_widened false o = None

-- the arguments as they are, or else with each int widened
abbrev pub chosen : Function → List Ty → Option TypedCall
chosen f ts = as_it_is (given (typing f) ts) (when_widened (widens (typing f)) (given (typing f) (map widened ts)))
