use Rattle.std.proofs.Common.{take}
use Rattle.std.specs.Prelude.{flat_map}
use Rattle.kq_plan.specs.Plans.{sorting_of}
use Rattle.kq_run_gather.specs.kq_eval_row.Val.{surroundings}
use Rattle.kq_run_plan.proofs.Parting.{Parted}
use Rattle.kq_run_plan.proofs.sorted.sort_pieces.Given as goal

abbrev pub invariant-loop-piece : goal.invariant-loop-piece
invariant-loop-piece g l = Parted (sorting_of l.key) (surroundings l.now l.lets) l.width (flat_map g.R.Relation.rows (take l.piece-index l.pieces)) l.parts.items
