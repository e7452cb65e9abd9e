-- How columns are laid out.
use Rattle.std.specs.Prelude.{List}
use Rattle.kq_value.specs.declared.value.Value.{Value}
use Rattle.kq_store_column.specs.Forms.{cells_in}
use Rattle.kq_store_column.specs.declared.layout.Layout.{Layout}
use Rattle.kq_store_column.specs.declared.layout.Layout.TheVariants.{Plain, Bags}

abbrev pub cells_laid : Layout → List Value
cells_laid (Plain form) = cells_in form
cells_laid (Bags cells) = cells
