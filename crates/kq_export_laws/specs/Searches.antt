-- What is looked for among the symbols of a query.
use Rattle.std.specs.Prelude.{ℕ, Bool, true, false, not, List, Option, is_some, option_map}
use Rattle.std.specs.List.{find}
use Rattle.kq_view_body.specs.Moments.{is_moment}
use Rattle.kq_read_meanings.specs.Literals.{literal_value}
use Rattle.kq_read_meanings.specs.Names.{name_said}
use Rattle.kq_read_meanings.specs.Pieces.{piece}
use Rattle.kq_read_meanings.specs.Types.{ty_of}
use Rattle.kq_read_tokens.specs.Bytes.{is_text}
use Rattle.kq_export_laws.specs.Symbols.{Spoken, source_name, literal_word, type_word, function_word, view_words, place_of}

-- the place of the first that is so
abbrev pub found : (Spoken → Bool) → List Spoken → Option ℕ
found is xs = option_map place_of (find is xs)

abbrev pub is_any : Spoken → Bool
is_any x = true

-- a literal without a value, or a word that is no type's
abbrev pub is_unsupported : List ℕ → Spoken → Bool
is_unsupported text (literal_word t) = not (is_some (literal_value text t))
is_unsupported text (type_word t) = not (is_some (ty_of (piece text t)))
is_unsupported text _ = false

-- the name of a function that asks for the moment of a command
abbrev pub calls_moment : List ℕ → Spoken → Bool
calls_moment text (function_word t) = is_moment text t
calls_moment text _ = false

-- what the body of an export may not have: another name of rows than the table's, a view's rows by their word, a call of now or ago
abbrev pub is_foreign : (text table : List ℕ) → Spoken → Bool
is_foreign text table (source_name n) = not (is_text (name_said text n) table)
is_foreign text table (view_words t v) = true
is_foreign text table (function_word t) = is_moment text t
is_foreign text table _ = false
