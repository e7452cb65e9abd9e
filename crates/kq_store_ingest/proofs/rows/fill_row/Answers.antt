use Rattle.std.proofs.Common.{drop, get_or, ◌∙◌, ap}
use Rattle.csv.specs.Records.{fields_of}
use Rattle.kq_store_ingest.specs.Ingestion.{cell_in, row_of}
use Rattle.kq_store_ingest.proofs.RowLemmas.{row_of-next, row-pushed}
use Rattle.kq_store_ingest.proofs.rows.fill_row.Goals as goal

pub loop-i-preserved : goal.loop-i-preserved
loop-i-preserved c =
    let fields = c.as_slice-fields.result.now in
    let cell = c.in_ok-read_cell.ensures.value ∙ ap (cell_in (get_or fields c.loop-i.i c.index-fields-i.result).ty) c.get.ensures.value in
    let next = row_of-next fields (fields_of c.args.cells.now) c.loop-i.i c.index-fields-i.result c.loop-i-test.true in
    row-pushed c.loop-i.row.items c.push.new.self.items (row_of (drop c.loop-i.i fields) (drop c.loop-i.i (fields_of c.args.cells.now))) _ _ _ c.in_ok-push.ensures.items (rw cell next) c.loop-i.invariant
