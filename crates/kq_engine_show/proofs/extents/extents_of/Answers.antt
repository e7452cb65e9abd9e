use Rattle.kq_store_extent.specs.Seen.{held_extents}
use Rattle.kq_catalog_journal.specs.Records.{extents}
use Rattle.kq_engine_show.proofs.ExtentLemmas.{held_rows-typed, rows-same}
use Rattle.kq_engine_show.proofs.extents.extents_of.Goals as goal

pub returns-clause-rows : goal.returns-clause-rows
returns-clause-rows c = rw c.in_ok-rows_of.ensures (rows-same (extents c.args.snapshot.now.history c.args.table) c.extents.result.now c.extents.ensures.items)

pub returns-clause-typed : goal.returns-clause-typed
returns-clause-typed c = rw (c.in_ok-rows_of.ensures, c.in_ok-extent_schema.ensures) (held_rows-typed (held_extents c.extents.result.now))
