-- Columns without their places.
use Rattle.std.specs.Prelude.{ℕ, List, map}
use Rattle.kq_value.specs.declared.schema.Field.{Field}
use Rattle.kq_read_commands.specs.declared.columns.Column.{Column}

abbrev pub field_of : Column → Field
field_of c = record { name = c.name.text; ty = c.ty }

abbrev pub schema_of : List Column → List Field
schema_of = map field_of

abbrev pub column_names : List Column → List (List ℕ)
column_names = map (λ (c : Column). c.name.text)
