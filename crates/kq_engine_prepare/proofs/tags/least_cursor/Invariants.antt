use Rattle.std.proofs.Common.{◌≡◌, drop}
use Rattle.kq_catalog_journal.specs.History.{log}
use Rattle.kq_catalog_journal.specs.Tagged.{least_tagged, lesser}
use Rattle.kq_engine_prepare.proofs.tags.least_cursor.Given as goal

abbrev pub invariant-loop-tag : goal.invariant-loop-tag
invariant-loop-tag l = lesser l.least (least_tagged (log l.snapshot.history) l.table (drop l.tag-index l.tags)) ≡ least_tagged (log l.snapshot.history) l.table l.tags
