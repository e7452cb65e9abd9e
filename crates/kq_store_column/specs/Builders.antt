-- What has grown in either form.
use Rattle.kq_store_column.specs.Growing.{Grown}
use Rattle.kq_store_column.specs.declared.builder.Growing.{Growing}
use Rattle.kq_store_column.specs.declared.builder.Growing.TheVariants.{Numbers, Words, Cells}

abbrev pub grown_in : Growing → Grown
grown_in (Numbers numbers) = numbers
grown_in (Words words) = words
grown_in (Cells cells) = cells
