-- Columns beside those that a table has.
use Rattle.std.specs.Prelude.{ℕ, Bool, ◌&&◌, not, nat_eq, List, [], ◌∷◌, Option, Some, None, if◌then◌else◌}
use Rattle.std.specs.List.{filter, list_any}
use Rattle.std.specs.Cmp.Lexicographic.{pointwise}
use Rattle.kq_value.specs.declared.schema.Field.{Field}
use Rattle.kq_value.specs.Ty.{same_ty}
use Rattle.kq_value_text_sets.specs.Names.{is_among, names_of}
use Rattle.kq_read_commands.specs.declared.columns.Column.{Column}

-- whether a field has the column's name, with another type
abbrev pub is_clash : Column → Field → Bool
is_clash c f = pointwise nat_eq f.name c.name.text && not (same_ty f.ty c.ty)

-- the place of the first column that a table with these fields has with another type
abbrev pub first_clash : List Field → List Column → Option ℕ
first_clash fields [] = None
first_clash fields (c ∷ columns) = if list_any (is_clash c) fields then Some c.name.at else first_clash fields columns

-- whether a table with these fields has no column of the name
abbrev pub is_new : List Field → Column → Bool
is_new fields c = not (is_among c.name.text (names_of fields))

-- the columns of which such a table has none by name, in their order
abbrev pub new_columns : List Field → List Column → List Column
new_columns fields = filter (is_new fields)
