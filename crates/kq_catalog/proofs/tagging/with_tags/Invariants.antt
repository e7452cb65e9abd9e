use Rattle.std.proofs.Common.{take, ◌&&◌, nat_eq}
use Rattle.kq_catalog_journal.specs.kq_value_text_sets.Names.{is_among}
use Rattle.kq_catalog_indexes.specs.Tags.{AddsTags}
use Rattle.kq_catalog.proofs.tagging.with_tags.Given as goal

abbrev pub invariant-loop-tag : goal.invariant-loop-tag
invariant-loop-tag l = AddsTags l.index (λ t tag. nat_eq l.table t && is_among tag (take l.tag-index l.tags)) l.cursor l.all
