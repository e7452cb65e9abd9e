use Rattle.std.proofs.lemmas.Option.{slice_get_within}
use Rattle.kq_catalog_journal.specs.History.{log, tables}
use Rattle.kq_catalog_journal.proofs.Tables.{table_numbered-at}
use Rattle.kq_engine_prepare.proofs.merges.find_merge.Goals as goal

pub may_merge-requires : goal.may_merge-requires
may_merge-requires c =
    let l = tables (log c.args.snapshot.now.history) in
    slice_get_within l c.in-Some.number _ (table_numbered-at c.args.table.now.text l (record { number = c.in-Some.number; table = c.in-Some.found.now }) c.in-Some.ensures).1

pub merging_in-requires : goal.merging_in-requires
merging_in-requires c =
    (table_numbered-at c.args.table.now.text (tables (log c.args.snapshot.now.history)) (record { number = c.in-Some.number; table = c.in-Some.found.now }) c.in-Some.ensures).1
