-- What strings and names say.
use Rattle.std.specs.Prelude.{ℕ, ◌==◌, List, [], ◌∷◌, if◌then◌else◌}
use Rattle.kq_read_grammar.specs.declared.expression.Name.{Name}
use Rattle.kq_read_grammar.specs.declared.expression.Name.TheVariants as name
use Rattle.kq_read_literals.specs.Strings.{is_string_token, string_text_of}
use Rattle.kq_read_meanings.specs.Pieces.{piece}
use Rattle.kq_read_tokens.specs.declared.kind.TokenKind.{TokenKind}
use Rattle.kq_read_tokens.specs.declared.kind.TokenKind.TheVariants as token

-- which of the three forms a string has, by its first byte
abbrev pub string_form : List ℕ → TokenKind
string_form [] = token.String
string_form (b ∷ bytes) = if b == 64 then token.VerbatimString else (if b == 96 then token.LongString else token.String)

-- what a string says, and nothing where the bytes are none
abbrev pub string_said : List ℕ → List ℕ
string_said bytes = if is_string_token (string_form bytes) bytes then string_text_of (string_form bytes) bytes else []

-- what a name says in the text
abbrev pub name_said : List ℕ → Name → List ℕ
name_said text (name.Word t) = piece text t
name_said text (name.Bracketed first t) = string_said (piece text t)

-- the place of its first symbol
abbrev pub name_place : Name → ℕ
name_place (name.Word t) = t.from
name_place (name.Bracketed first t) = first.from
