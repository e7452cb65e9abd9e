use Rattle.std.proofs.Common.{take}
use Rattle.std.specs.List.{list_any}
use Rattle.kq_catalog_journal.specs.Tagged.{gives_tag}
use Rattle.kq_catalog_indexes.specs.Tags.{AddsTags}
use Rattle.kq_catalog.proofs.tagging.with_batches.Given as goal

abbrev pub invariant-loop-batch : goal.invariant-loop-batch
invariant-loop-batch l = AddsTags l.index (λ t tag. list_any (gives_tag t tag) (take l.batch-index l.batches)) l.cursor l.all
