use Rattle.std.proofs.Common.{◌≤◌, length, drop}
use Rattle.kq_value.specs.Seen.{entries_of}
use Rattle.kq_value.specs.Bags.{IsBefore}
use Rattle.kq_store_ingest.proofs.dynamic.place_of.Given as goal

abbrev pub invariant-loop-place : goal.invariant-loop-place
invariant-loop-place l = (l.place ≤ length l.bag.items) × IsBefore l.key (entries_of (drop l.place l.bag.items))

abbrev pub decreases-loop-place : goal.decreases-loop-place
decreases-loop-place l = l.place
