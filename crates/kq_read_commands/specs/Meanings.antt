-- What the symbols of a command say in its text.
use Rattle.std.specs.Prelude.{ℕ, List, [], ◌∷◌, ◌++◌, Option, Some, None, ◌==◌, slice_range, if◌then◌else◌}
use Rattle.kq_read_commands.specs.declared.columns.Column.{Column}
use Rattle.kq_read_commands.specs.declared.columns.Identifier.{Identifier}
use Rattle.kq_read_grammar.specs.declared.clause.Column.{Column as WrittenColumn}
use Rattle.kq_read_grammar.specs.declared.expression.Name.{Name}
use Rattle.kq_read_grammar.specs.declared.expression.Name.TheVariants as name
use Rattle.kq_read_literals.specs.Strings.{string_text_of}
use Rattle.kq_read_meanings.specs.Types.{ty_of}
use Rattle.kq_read_symbols.specs.declared.kind.Symbol.{Symbol}
use Rattle.kq_read_tokens.specs.declared.kind.TokenKind.{TokenKind}
use Rattle.kq_read_tokens.specs.declared.kind.TokenKind.TheVariants as token
use Rattle.kq_value.specs.declared.ty.Ty.{Ty}

-- the bytes of a symbol
abbrev pub piece : List ℕ → Symbol → List ℕ
piece text s = slice_range text s.from s.to

-- which of the three forms a string has, by its first byte
abbrev pub string_form : List ℕ → TokenKind
string_form [] = token.String
string_form (b ∷ bytes) = if b == 64 then token.VerbatimString else (if b == 96 then token.LongString else token.String)

-- what a string says
abbrev pub string_at : List ℕ → Symbol → List ℕ
string_at text s = string_text_of (string_form (piece text s)) (piece text s)

-- a name and the place of its first symbol
abbrev pub identifier_of : List ℕ → Name → Identifier
identifier_of text (name.Word t) = record { text = piece text t; at = t.from }
identifier_of text (name.Bracketed first t) = record { text = string_at text t; at = first.from }

-- ---- columns, where each has a known type

abbrev pub typed : Identifier → Option Ty → Option Column
typed name (Some ty) = Some (record { name = name; ty = ty })
typed name None = None

abbrev pub column_of : List ℕ → WrittenColumn → Option Column
column_of text c = typed (identifier_of text c.name) (ty_of (piece text c.ty))

abbrev pub with_more : Option Column → Option (List Column) → Option (List Column)
with_more (Some column) (Some more) = Some (column ∷ more)
with_more (Some column) None = None
with_more None more = None

abbrev pub columns_of : List ℕ → List WrittenColumn → Option (List Column)
columns_of text [] = Some []
columns_of text (c ∷ cs) = with_more (column_of text c) (columns_of text cs)

-- the columns behind others
abbrev pub behind : List Column → Option (List Column) → Option (List Column)
behind front (Some columns) = Some (front ++ columns)
behind front None = None
