-- The value of a literal is one of its type.
use Rattle.std.proofs.Common.{◌≡◌, ℕ, ◌*◌, ℤ, pos, negsuc, ◌+ℤ◌, ◌-ℤ◌, Bool, true, false, cond, List, [], take, drop, Option, Some, None, refl, subst, arith}
use Rattle.std.specs.Prelude.{codes, if◌then◌else◌, option_and_then, option_map}
use Rattle.std.specs.Str.{bytes_eq}
use Rattle.std.proofs.lemmas.Bool.Decides.{nat_tests}
use Rattle.std.proofs.lemmas.Option.{cond_some}
use Rattle.kq_read_meanings.specs.Literals.{first_word, literal_said, literal_value, number_said, raw_said}
use Rattle.kq_read_meanings.specs.Names.{string_said}
use Rattle.kq_read_meanings.specs.Pieces.{piece}
use Rattle.kq_read_meanings.specs.Types.{ty_of}
use Rattle.kq_read_symbols.specs.declared.kind.Kind.{Kind}
use Rattle.kq_read_symbols.specs.declared.kind.Kind.TheVariants as kind
use Rattle.kq_read_symbols.specs.declared.kind.Symbol.{Symbol}
use Rattle.kq_read_symbols.specs.declared.word.ReservedWord.TheVariants as reserved
use Rattle.kq_read_symbols.specs.declared.word.Word.TheVariants as word
use Rattle.kq_value.specs.declared.dynamic.Dyn.TheVariants as dyn
use Rattle.kq_value.specs.declared.ty.Ty.{Ty}
use Rattle.kq_value.specs.declared.ty.Ty.TheVariants as ty
use Rattle.kq_value.specs.declared.value.Value.{Value}
use Rattle.kq_value.specs.declared.value.Value.TheVariants.{Long, Int, Text, Bool as Truth, Moment, Span, Dynamic}
use Rattle.kq_value.specs.Typed.{IsMoment, IsProper, missing_of}
use Rattle.kq_value_formats.specs.Cells.{form_of, is_white, literal_of, trimmed}
use Rattle.kq_value_formats.specs.Civil.{days_of_year_0}
use Rattle.kq_value_formats.specs.Datetimes.{after_date, date_days, datetime_of, is_moment, ticks_per_day}
use Rattle.kq_value_formats.specs.Numerals.{bool_of, int_of, long_of}
use Rattle.kq_value_formats.specs.Timespans.{timespan_of}

-- ---- datetimes

in_range : (z : ℤ) → is_moment z ≡ true → IsMoment z
in_range (pos n) h = grind (arith, nat_tests)
in_range (negsuc n) h = grind (arith, nat_tests)

passed : (days : Option ℕ) (ticks : Option ℤ) (at : ℕ → ℤ → ℤ) (z : ℤ)
    → option_and_then (λ d. option_and_then (λ t. if is_moment (at d t) then Some (at d t) else None) ticks) days ≡ Some z → is_moment z ≡ true
passed None ticks at z e = cc
passed (Some d) None at z e = cc
passed (Some d) (Some t) at z e = let p = cond_some (is_moment (at d t)) (at d t) z e in subst (λ x. is_moment x ≡ true) p.1 p.0

-- a datetime that is read is in range
moment_read : (text : List ℕ) (z : ℤ) → datetime_of text ≡ Some z → IsMoment z
unfolding datetime_of
moment_read text z e = in_range z (passed (date_days (take 10 text)) (after_date (drop 10 text)) (λ days ticks. (pos (days * ticks_per_day) -ℤ pos (days_of_year_0 * ticks_per_day)) +ℤ ticks) z e)

-- ---- options of values

abbrev AllProper : Option Value → Type 0
AllProper o = (v : Value) → o ≡ Some v → IsProper v

some_proper : (v : Value) → IsProper v → AllProper (Some v)
some_proper v h w e = let is : v ≡ w = cc in subst IsProper is h

none_proper : AllProper None
none_proper v e = absurd (cc)

map_proper : {A : Type 0} (made : A → Value) (o : Option A) → ((x : A) → o ≡ Some x → IsProper (made x)) → AllProper (option_map made o)
map_proper made (Some x) h = some_proper (made x) (h x refl)
map_proper made None h = none_proper

then_proper : {A : Type 0} (f : A → Option Value) (o : Option A) → ((x : A) → AllProper (f x)) → AllProper (option_and_then f o)
then_proper f (Some x) h = h x
then_proper f None h = none_proper

either_proper : (b : Bool) (x y : Option Value) → AllProper x → AllProper y → AllProper (cond b x y)
either_proper true x y h k = h
either_proper false x y h k = k

-- ---- the forms of types

missing_proper : (t : Ty) → IsProper (missing_of t)
missing_proper ty.Long = ((λ e. cc), (λ e. cc))
missing_proper ty.Int = ((λ e. cc), (λ e. cc))
missing_proper ty.Text = tt
missing_proper ty.Bool = ((λ e. cc), (λ e. cc))
missing_proper ty.Moment = ((λ e. cc), (λ e. cc))
missing_proper ty.Span = ((λ e. cc), (λ e. cc))
missing_proper ty.Dynamic = tt

form_proper : (t : Ty) (text : List ℕ) → AllProper (form_of t text)
form_proper ty.Long text = map_proper Long (long_of text) (λ x e. tt)
form_proper ty.Int text = map_proper Int (int_of text) (λ x e. tt)
form_proper ty.Text text = some_proper (Text text) tt
form_proper ty.Bool text = map_proper Truth (bool_of text) (λ x e. tt)
form_proper ty.Moment text = map_proper Moment (datetime_of text) (moment_read text)
form_proper ty.Span text = map_proper Span (timespan_of text) (λ x e. tt)
form_proper ty.Dynamic text = some_proper _ tt

-- null, nothing or a form
raw_proper_by : (t : Ty) (raw : List ℕ) (empty : Option Value) → AllProper empty
    → AllProper (cond (bytes_eq (trimmed is_white raw) (codes "null")) (Some (missing_of t)) (cond (bytes_eq (trimmed is_white raw) []) empty (form_of t (trimmed is_white raw))))
raw_proper_by t raw empty h =
    let text = trimmed is_white raw in
    either_proper (bytes_eq text (codes "null")) _ _ (some_proper (missing_of t) (missing_proper t)) (either_proper (bytes_eq text []) empty (form_of t text) h (form_proper t text))

raw_proper : (t : Ty) (raw : List ℕ) → AllProper (literal_of t raw)
raw_proper ty.Long raw = raw_proper_by ty.Long raw None none_proper
raw_proper ty.Int raw = raw_proper_by ty.Int raw None none_proper
raw_proper ty.Text raw = raw_proper_by ty.Text raw None none_proper
raw_proper ty.Bool raw = raw_proper_by ty.Bool raw None none_proper
raw_proper ty.Moment raw = raw_proper_by ty.Moment raw None none_proper
raw_proper ty.Span raw = raw_proper_by ty.Span raw None none_proper
raw_proper ty.Dynamic raw = raw_proper_by ty.Dynamic raw (Some (Dynamic dyn.Null)) (some_proper (Dynamic dyn.Null) tt)

-- ---- literals

said_proper : (k : Kind) (bytes : List ℕ) → AllProper (literal_said k bytes)
said_proper kind.WholeNumber bytes = map_proper Long (number_said bytes) (λ x e. tt)
said_proper kind.Timespan bytes = form_proper ty.Span bytes
said_proper kind.TypedLiteral bytes = then_proper (λ t. literal_of t (raw_said bytes)) (ty_of (first_word bytes)) (λ t. raw_proper t (raw_said bytes))
said_proper (kind.String q) bytes = some_proper (Text (string_said bytes)) tt
said_proper (kind.Word (word.Reserved reserved.True)) bytes = some_proper (Truth true) tt
said_proper (kind.Word (word.Reserved reserved.False)) bytes = some_proper (Truth false) tt
said_proper _ bytes = none_proper

pub literal_proper : (text : List ℕ) (s : Symbol) (v : Value) → literal_value text s ≡ Some v → IsProper v
literal_proper text s v e = said_proper s.kind (piece text s) v e
