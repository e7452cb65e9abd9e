-- The values of literals.
use Rattle.std.specs.Prelude.{ℕ, ℤ, ◌+◌, ◌-◌, ◌==◌, true, false, List, [], length, take, if◌then◌else◌, Option, Some, None, option_map, option_and_then}
use Rattle.std.specs.List.{position_or_len, prefix_len}
use Rattle.kq_read_literals.specs.Numbers.{whole_number_of}
use Rattle.kq_read_literals.specs.Raw.{raw_text_of}
use Rattle.kq_read_meanings.specs.Names.{string_said}
use Rattle.kq_read_meanings.specs.Pieces.{is_cut, piece}
use Rattle.kq_read_meanings.specs.Types.{ty_of}
use Rattle.kq_read_symbols.specs.declared.kind.Kind.{Kind}
use Rattle.kq_read_symbols.specs.declared.kind.Kind.TheVariants as kind
use Rattle.kq_read_symbols.specs.declared.kind.Symbol.{Symbol}
use Rattle.kq_read_symbols.specs.declared.word.ReservedWord.TheVariants as reserved
use Rattle.kq_read_symbols.specs.declared.word.Word.TheVariants as word
use Rattle.kq_read_tokens.specs.Bytes.{is_word_byte}
use Rattle.kq_read_tokens.specs.Numbers.{is_whole_number}
use Rattle.kq_value.specs.declared.dynamic.Dyn.TheVariants as dyn
use Rattle.kq_value.specs.declared.ty.Ty.{Ty}
use Rattle.kq_value.specs.declared.ty.Ty.TheVariants as ty
use Rattle.kq_value.specs.declared.value.Value.{Value}
use Rattle.kq_value.specs.declared.value.Value.TheVariants.{Long, Text, Bool as Truth, Dynamic}
use Rattle.kq_value_formats.specs.Cells.{form_of, literal_of}

abbrev pub number_said : List ℕ → Option ℤ
number_said bytes = if is_whole_number bytes then whole_number_of bytes else None

-- where the raw text of a typed literal begins: behind the first `(`
abbrev pub raw_start : List ℕ → ℕ
raw_start bytes = position_or_len (λ b. b == 40) bytes + 1

-- the raw text, and nothing where the bytes can't be cut before the last of them
abbrev pub raw_said : List ℕ → List ℕ
raw_said bytes = if is_cut bytes (raw_start bytes) (length bytes - 1) then raw_text_of bytes else []

-- the bytes of a word at the front
abbrev pub first_word : List ℕ → List ℕ
first_word bytes = take (prefix_len is_word_byte bytes) bytes

-- nothing is the null of dynamics
abbrev pub empty_form : Ty → Option Value
empty_form ty.Dynamic = Some (Dynamic dyn.Null)
empty_form t = None

-- the value of a typed literal, where its word is that of a type and its raw text has a form of it
abbrev pub typed_said : List ℕ → Option Value
typed_said bytes = option_and_then (λ t. literal_of t (raw_said bytes)) (ty_of (first_word bytes))

-- the value of a literal of this kind; none where it is over the greatest long, is no long number of ticks or has no form of its type, and of a real
abbrev pub literal_said : Kind → List ℕ → Option Value
literal_said kind.WholeNumber bytes = option_map Long (number_said bytes)
literal_said kind.Timespan bytes = form_of ty.Span bytes
literal_said kind.TypedLiteral bytes = typed_said bytes
literal_said (kind.String quoted) bytes = Some (Text (string_said bytes))
literal_said (kind.Word (word.Reserved reserved.True)) bytes = Some (Truth true)
literal_said (kind.Word (word.Reserved reserved.False)) bytes = Some (Truth false)
literal_said _ bytes = None

-- the value of the literal that stands in the text where the symbol is
abbrev pub literal_value : List ℕ → Symbol → Option Value
literal_value text s = literal_said s.kind (piece text s)
