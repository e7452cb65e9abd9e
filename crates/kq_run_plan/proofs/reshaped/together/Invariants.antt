use Rattle.std.proofs.Common.{◌≡◌, ◌++◌, drop, length, map}
use Rattle.std.specs.List.{All}
use Rattle.kq_plan.specs.Plans.{filling_of}
use Rattle.kq_run_reshape.specs.Union.{united}
use Rattle.kq_store_rows.specs.Chunks.{HasWidth}
use Rattle.kq_run_plan.specs.Reshaped.{arm_given}
use Rattle.kq_run_plan.proofs.reshaped.together.Given as goal

abbrev pub invariant-loop-arm : goal.invariant-loop-arm
invariant-loop-arm l =
    (united l.columns (map (arm_given l.done) (map filling_of l.arms)) ≡ l.rows ++ united l.columns (map (arm_given l.done) (map filling_of (drop l.arm-index l.arms))))
    × All (HasWidth (length l.columns)) l.rows
