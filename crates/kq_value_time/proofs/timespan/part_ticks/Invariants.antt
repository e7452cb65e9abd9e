use Rattle.std.proofs.Common.{◌≡◌, ◌≤◌, ◌*◌, ◌^◌, ◌-◌, length, drop}
use Rattle.std.specs.Str.Parse.{digits_value}
use Rattle.kq_value_time.proofs.timespan.part_ticks.Given as goal

abbrev pub invariant-loop-place : goal.invariant-loop-place
invariant-loop-place l = record {
  place_in : l.place ≤ length l.decimals;
  part_in : l.part ≤ l.unit;
  part_is : l.part * 10 ^ (length l.decimals - l.place) ≡ digits_value 10 (drop l.place l.decimals) * l.unit;
}

abbrev pub decreases-loop-place : goal.decreases-loop-place
decreases-loop-place l = l.place
