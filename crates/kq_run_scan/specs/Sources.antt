-- The rows of a source.
use Rattle.std.specs.Prelude.{List}
use Rattle.kq_value.specs.declared.value.Value.{Value}
use Rattle.kq_run_scan.specs.Lent.{extent_of, rows_of}
use Rattle.kq_run_scan.specs.Paired.{paired_rows}
use Rattle.kq_run_scan.specs.declared.source.Source.{Source}
use Rattle.kq_run_scan.specs.declared.source.Source.TheVariants as source

abbrev pub source_rows : Source → List (List Value)
source_rows (source.Rows rows) = rows.now
source_rows (source.Frame frame) = frame.now
source_rows (source.Extent records) = rows_of (extent_of records)
source_rows (source.Beside pairs) = paired_rows pairs
