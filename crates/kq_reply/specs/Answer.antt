-- The printed form of an answer.
use Rattle.std.specs.Prelude.{◌≡◌, ℕ, zero, suc, Bool, List, [], ◌∷◌, ◌++◌, length, map, codes, decimal, Option, Some, None}
use Rattle.std.specs.List.{flat_map, join_with_byte}
use Rattle.kq_value.specs.declared.ty.Ty.{Ty}
use Rattle.kq_value.specs.declared.ty.Ty.TheVariants.{Long, Int, Text, Bool as Truth, Moment, Span, Dynamic}
use Rattle.kq_value.specs.declared.schema.Field.{Field}
use Rattle.kq_value.specs.declared.value.Value.{Value}
use Rattle.kq_value_formats.specs.Cells.{escaped, reply_text_of}
use Rattle.kq_store_rows.specs.declared.answer.Answer.{Answer}
pub use Rattle.kq_reply.specs.Lines.{AreArranged, ended}

-- words and a number
abbrev pub counted : List ℕ → ℕ → List ℕ
counted words n = words ++ decimal n

abbrev pub type_name : Ty → List ℕ
type_name Long = codes "long"
type_name Int = codes "int"
type_name Text = codes "string"
type_name Truth = codes "bool"
type_name Moment = codes "datetime"
type_name Span = codes "timespan"
type_name Dynamic = codes "dynamic"

abbrev pub column_text : Field → List ℕ
column_text f = escaped f.name ++ codes ":" ++ type_name f.ty

-- the pieces of a line, a tab between each two
abbrev pub tabbed : List (List ℕ) → List ℕ
tabbed = join_with_byte 9

abbrev pub header_text : List Field → List ℕ
header_text schema = tabbed (map column_text schema)

abbrev pub row_text : List Value → List ℕ
row_text row = tabbed (map reply_text_of row)

-- rows are put behind a text, a line each, as they are to be arranged
pub record PutsRows (ordered : Bool) (rows : List (List Value)) (old new : List ℕ) : Type 0 where
  pub lines : List (List ℕ)
  pub arranged : AreArranged ordered (map row_text rows) lines
  pub whole : new ≡ old ++ flat_map ended lines

-- the number of rows, the header, and a line for each row
pub record Prints (answer : Answer) (text : List ℕ) : Type 0 where
  pub lines : List (List ℕ)
  pub arranged : AreArranged answer.ordered (map row_text answer.rows) lines
  pub whole : text ≡ ended (counted (codes "rows ") (length answer.rows)) ++ ended (header_text answer.schema) ++ flat_map ended lines

-- a tab before each piece but the first
abbrev pub tab_before : ℕ → List ℕ
tab_before zero = []
tab_before (suc n) = 9 ∷ []

-- a byte as it is, or as a backslash and a sign
abbrev pub written_as : ℕ → Option ℕ → List ℕ
written_as byte None = byte ∷ []
written_as byte (Some sign) = 92 ∷ sign ∷ []
