use Rattle.csv.specs.Records.{fields_of}
use Rattle.kq_store_extent.proofs.Coming.{of_types}
use Rattle.kq_store_ingest.proofs.RowLemmas.{row_typed}
use Rattle.kq_store_ingest.proofs.rows.add_row.Goals as goal

pub push-requires : goal.push-requires
push-requires c =
    rw (c.requires.types, c.as_slice.ensures.value, c.in_ok-fill_row.ensures) (of_types c.args.schema.now _ (row_typed c.args.schema.now (fields_of c.args.cells.now)))
