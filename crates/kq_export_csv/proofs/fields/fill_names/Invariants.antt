use Rattle.std.proofs.Common.{◌≡◌, [], take, map}
use Rattle.csv.specs.Records.{fields_of, partial_of}
use Rattle.kq_export_csv.specs.Artefacts.{name_of}
use Rattle.kq_export_csv.proofs.fields.fill_names.Given as goal

abbrev pub invariant-loop-column : goal.invariant-loop-column
invariant-loop-column l = (partial_of l.fields ≡ []) × (fields_of l.fields ≡ map name_of (take l.column-index l.columns))
