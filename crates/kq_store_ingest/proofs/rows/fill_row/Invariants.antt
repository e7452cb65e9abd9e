use Rattle.std.proofs.Common.{◌≡◌, ◌++◌, drop}
use Rattle.csv.specs.Records.{fields_of}
use Rattle.kq_store_ingest.specs.Ingestion.{row_of}
use Rattle.kq_store_ingest.proofs.rows.fill_row.Given as goal

abbrev pub invariant-loop-i : goal.invariant-loop-i
invariant-loop-i l = l.row.items ++ row_of (drop l.i l.fields) (drop l.i (fields_of l.cells)) ≡ row_of l.fields (fields_of l.cells)
