use Rattle.kq_catalog_journal.specs.History.{log, tables}
use Rattle.kq_catalog_journal.proofs.Tables.{table_numbered-at}
use Rattle.kq_engine_prepare.proofs.ingestions.ingest.Goals as goal

pub read-requires : goal.read-requires
read-requires c =
    (table_numbered-at c.args.ingestion.now.table.text (tables (log c.args.snapshot.now.history)) (record { number = c.in-Some.number; table = c.in-Some.table.now }) c.in-Some.ensures).1
