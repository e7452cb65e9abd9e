use Rattle.std.proofs.Common.{refl}
use Rattle.kq_run_gather.proofs.both.merged.Goals as goal

pub merge-requires : goal.merge-requires
merge-requires c = record { whole = c.requires.whole; other_whole = c.requires.other; width = c.requires.width; shapes = c.requires.shapes }

pub returns : goal.returns
returns c = (c.merge.new.self, refl, c.in_ok-merge.ensures)
