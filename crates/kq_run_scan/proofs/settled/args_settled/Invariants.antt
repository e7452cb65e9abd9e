use Rattle.std.proofs.Common.{map, take}
use Rattle.kq_plan_expressions.specs.Terms.{term_of}
use Rattle.kq_run_scan.specs.Settled.{MeanAs, seen}
use Rattle.kq_run_scan.proofs.settled.args_settled.Given as goal

abbrev pub invariant-loop-arg : goal.invariant-loop-arg
invariant-loop-arg l = MeanAs (seen l.around) (map term_of l.settled.items) (map term_of (take l.arg-index l.args))
