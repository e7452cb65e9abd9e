use Rattle.kq_catalog_journal.specs.History.{log, tables}
use Rattle.kq_catalog_journal.proofs.Tables.{table_numbered-at}
use Rattle.kq_engine_prepare.proofs.shows.show_extents.Goals as goal

pub extents_of-requires : goal.extents_of-requires
extents_of-requires c =
    (table_numbered-at c.args.table.now.text (tables (log c.args.snapshot.now.history)) (record { number = c.in-Some.number; table = c.in-Some._table.now }) c.in-Some.ensures).0
