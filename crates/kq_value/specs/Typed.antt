-- Which values a type has.
use Rattle.std.specs.Prelude.{◌≡◌, ◌≢◌, ℤ, pos, ◌≤ℤ◌, Bool, true, false, List, [], ◌∷◌}
use Rattle.kq_value.specs.declared.ty.Ty.{Ty}
use Rattle.kq_value.specs.declared.ty.Ty.TheVariants as ty
use Rattle.kq_value.specs.declared.schema.Field.{Field}
use Rattle.kq_value.specs.declared.dynamic.Dyn.TheVariants as dyn
use Rattle.kq_value.specs.declared.value.Value.{Value}
use Rattle.kq_value.specs.declared.value.Value.TheVariants.{Null, Long, Int, Text, Bool as Truth, Moment, Span, Dynamic}

-- the type of a value, that of a null among them
abbrev pub type_of : Value → Ty
type_of (Null t) = t
type_of (Long z) = ty.Long
type_of (Int z) = ty.Int
type_of (Text bs) = ty.Text
type_of (Truth b) = ty.Bool
type_of (Moment z) = ty.Moment
type_of (Span z) = ty.Span
type_of (Dynamic d) = ty.Dynamic

-- the ticks of a datetime, from 0001-01-01 to the last of the year 9999
abbrev pub IsMoment : ℤ → Type 0
IsMoment z = (pos 0 ≤ℤ z) × (z ≤ℤ pos 3155378975999999999)

-- a missing string is empty and a missing dynamic is its own null, so no null has these types; a datetime is in range
abbrev pub IsProper : Value → Type 0
IsProper (Null t) = (t ≢ ty.Text) × (t ≢ ty.Dynamic)
IsProper (Long z) = Unit {0}
IsProper (Int z) = Unit {0}
IsProper (Text bs) = Unit {0}
IsProper (Truth b) = Unit {0}
IsProper (Moment z) = IsMoment z
IsProper (Span z) = Unit {0}
IsProper (Dynamic d) = Unit {0}

-- the value is one of the type
abbrev pub HasType : Ty → Value → Type 0
HasType t v = (type_of v ≡ t) × IsProper v

-- the row has a cell of each column's type, in order
abbrev pub HasTypes : List Field → List Value → Type 0
HasTypes [] [] = Unit {0}
HasTypes [] (v ∷ vs) = ⊥
HasTypes (f ∷ fs) [] = ⊥
HasTypes (f ∷ fs) (v ∷ vs) = HasType f.ty v × HasTypes fs vs

-- whether a value is missing: a null, or the null of dynamics
abbrev pub is_null : Value → Bool
is_null (Null t) = true
is_null (Long z) = false
is_null (Int z) = false
is_null (Text bs) = false
is_null (Truth b) = false
is_null (Moment z) = false
is_null (Span z) = false
is_null (Dynamic dyn.Null) = true
is_null (Dynamic d) = false

-- the cell that stands where a row has none: null, or empty for a string
abbrev pub missing_of : Ty → Value
missing_of ty.Long = Null ty.Long
missing_of ty.Int = Null ty.Int
missing_of ty.Text = Text []
missing_of ty.Bool = Null ty.Bool
missing_of ty.Moment = Null ty.Moment
missing_of ty.Span = Null ty.Span
missing_of ty.Dynamic = Dynamic dyn.Null
