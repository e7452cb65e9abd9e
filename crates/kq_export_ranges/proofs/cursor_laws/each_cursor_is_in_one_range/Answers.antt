use Rattle.kq_export_ranges.proofs.Ledgers.{in_one}
use Rattle.kq_export_ranges.proofs.cursor_laws.each_cursor_is_in_one_range.Goals as goal

pub returns : goal.returns
returns c = λ n rs turn low high. in_one n 0 rs turn low high
