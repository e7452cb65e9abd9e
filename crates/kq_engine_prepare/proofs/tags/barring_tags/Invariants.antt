use Rattle.std.proofs.Common.{◌≡◌, map, take}
use Rattle.kq_catalog_journal.specs.Tagged.{ingested_by}
use Rattle.kq_engine_prepare.proofs.tags.barring_tags.Given as goal

abbrev pub invariant-loop-name : goal.invariant-loop-name
invariant-loop-name l = l.tags ≡ map ingested_by (take l.name-index l.names)
