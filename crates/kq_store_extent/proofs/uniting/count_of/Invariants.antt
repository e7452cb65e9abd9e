use Rattle.std.proofs.Common.{◌≡◌, ◌<◌, length, map, take}
use Rattle.std.specs.Arc.{arc_value}
use Rattle.kq_store_extent.specs.Seen.{records_in}
use Rattle.kq_store_extent.proofs.uniting.count_of.Given as goal

abbrev pub invariant-loop-extent : goal.invariant-loop-extent
invariant-loop-extent l = record { count : l.count ≡ length (records_in (take l.extent-index (map arc_value l.extents))); small : l.count < 9223372036854775808 }
