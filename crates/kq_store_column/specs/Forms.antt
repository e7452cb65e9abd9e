-- The forms of a column.
use Rattle.std.specs.Prelude.{List}
use Rattle.kq_value.specs.declared.value.Value.{Value}
use Rattle.kq_store_column.specs.declared.form.Form.{Form}
use Rattle.kq_store_column.specs.declared.form.Form.TheVariants.{Numbers, Dictionary, Shared}

abbrev pub cells_in : Form → List Value
cells_in (Numbers cells) = cells
cells_in (Dictionary cells) = cells
cells_in (Shared cells) = cells
