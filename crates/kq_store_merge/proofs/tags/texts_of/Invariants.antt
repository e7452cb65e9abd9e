use Rattle.std.proofs.Common.{◌≡◌, map, take}
use Rattle.std.specs.Arc.{arc_value}
use Rattle.kq_store_merge.specs.Merges.{tags_in}
use Rattle.kq_store_merge.proofs.tags.texts_of.Given as goal

abbrev pub invariant-loop-extent : goal.invariant-loop-extent
invariant-loop-extent l = l.texts.items ≡ tags_in (take l.extent-index (map arc_value l.extents))
