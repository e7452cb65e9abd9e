-- The rows of a batch in either form.
use Rattle.std.specs.Prelude.{List}
use Rattle.kq_value.specs.declared.value.Value.{Value}
use Rattle.kq_policy_cascade.specs.declared.batch.Given.{Given}
use Rattle.kq_policy_cascade.specs.declared.batch.Given.TheVariants.{Rows, Columns}

abbrev pub rows_given : Given → List (List Value)
rows_given (Rows rows) = rows
rows_given (Columns columns) = columns
