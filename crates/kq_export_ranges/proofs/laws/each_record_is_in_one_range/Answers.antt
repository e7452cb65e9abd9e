use Rattle.kq_export_ranges.proofs.Ledgers.{in_one}
use Rattle.kq_export_ranges.specs.Exports.{ranges_of}
use Rattle.kq_export_ranges.proofs.laws.each_record_is_in_one_range.Goals as goal

pub returns : goal.returns
returns c = λ h x puts n at is low high. in_one at 0 (ranges_of n x.ranges) (is.ranges n).in_turn low high
