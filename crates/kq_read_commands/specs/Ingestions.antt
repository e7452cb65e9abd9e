-- What the properties of an ingestion say, all of which are supported.
use Rattle.std.specs.Prelude.{ℕ, Bool, false, List, [], ◌∷◌, ◌++◌, Option, Some, None, codes, if◌then◌else◌}
use Rattle.std.specs.Option.{option_map}
use Rattle.kq_read_commands.specs.declared.ingestion.Properties.{Properties}
use Rattle.kq_read_commands.specs.declared.ingestion.Quoted.{Quoted}
use Rattle.kq_read_commands.specs.Meanings.{piece, string_at}
use Rattle.kq_read_commands.specs.Unsupported.{or_later}
use Rattle.kq_read_control.specs.ControlTrees.{PropertiesTree}
use Rattle.kq_read_control.specs.declared.tree.Property.{Property}
use Rattle.kq_read_meanings.specs.Types.{same}
use Rattle.kq_read_symbols.specs.Classes as k
use Rattle.kq_read_symbols.specs.Classes.{of}
use Rattle.kq_read_symbols.specs.declared.word.ReservedWord.TheVariants as reserved

-- the first property of this name
abbrev pub first_named : List ℕ → List ℕ → List Property → Option Property
first_named text name [] = None
first_named text name (q ∷ qs) = if same (piece text q.name) name then Some q else first_named text name qs

-- what the string says that a property is given, and where it stands
abbrev pub quoted_of : List ℕ → Property → Quoted
quoted_of text q = record { text = string_at text q.value; at = q.value.from }

-- whether a property is given, as `true`
abbrev pub is_true : Option Property → Bool
is_true (Some q) = of (k.reserved reserved.True) q.value
is_true None = false

-- ---- names that stand twice

abbrev pub place_if : Option Property → ℕ → Option ℕ
place_if (Some q) place = Some place
place_if None place = None

-- the place of the first property whose name one before it has
abbrev pub repeated_behind : List ℕ → List Property → List Property → Option ℕ
repeated_behind text before [] = None
repeated_behind text before (q ∷ qs) = or_later (place_if (first_named text (piece text q.name) before) q.name.from) (repeated_behind text (before ++ q ∷ []) qs)

abbrev pub repeated_of : List ℕ → List Property → Option ℕ
repeated_of text = repeated_behind text []

-- ---- all properties

abbrev pub properties_in : List ℕ → List Property → Properties
properties_in text qs = record {
  tags = option_map (quoted_of text) (first_named text (codes "tags") qs);
  if_not_exists = option_map (quoted_of text) (first_named text (codes "ingestIfNotExists") qs);
  ignore_first = is_true (first_named text (codes "ignoreFirstRecord") qs);
  repeated = repeated_of text qs;
}

abbrev pub properties_of : List ℕ → Option PropertiesTree → Properties
properties_of text None = properties_in text []
properties_of text (Some ps) = properties_in text (ps.0 ∷ ps.1)
