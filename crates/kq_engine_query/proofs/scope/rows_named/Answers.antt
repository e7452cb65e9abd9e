use Rattle.kq_catalog_journal.specs.History.{log, tables}
use Rattle.kq_catalog_journal.proofs.Tables.{table_numbered-at}
use Rattle.kq_engine_query.proofs.scope.rows_named.Goals as goal

pub table_rows-requires : goal.table_rows-requires
table_rows-requires c =
    (table_numbered-at c.args.name.now (tables (log c.args.snapshot.now.history)) (record { number = c.in-Some.number; table = c.in-Some.table.now }) c.in-Some.ensures).1
