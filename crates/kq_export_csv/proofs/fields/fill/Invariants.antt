use Rattle.std.proofs.Common.{◌≡◌, [], take, map}
use Rattle.csv.specs.Records.{fields_of, partial_of}
use Rattle.kq_value_conversions.specs.Converted.{printed}
use Rattle.kq_export_csv.proofs.fields.fill.Given as goal

abbrev pub invariant-loop-cell : goal.invariant-loop-cell
invariant-loop-cell l = (partial_of l.fields ≡ []) × (fields_of l.fields ≡ map printed (take l.cell-index l.cells))
