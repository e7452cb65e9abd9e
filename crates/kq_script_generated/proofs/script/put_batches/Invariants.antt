-- What stands there, with what is still to come, is the whole.
use Rattle.std.proofs.Common.{◌≡◌, ◌+◌, ◌-◌, ◌*◌, ◌++◌}
use Rattle.std.specs.Prelude.{codes}
use Rattle.kq_script_generated.specs.Commands.{batches, commands_from, each_behind, rows_from}
use Rattle.kq_script_generated.proofs.script.put_batches.Given as goal

abbrev pub invariant-loop-batch : goal.invariant-loop-batch
invariant-loop-batch l =
    l.text ++ each_behind (codes "\n\n") (commands_from (l.batch + 1) (batches (rows_from (l.batch * 1000) (l.n - l.batch * 1000))))
    ≡ l.fn.text ++ each_behind (codes "\n\n") (commands_from 1 (batches (rows_from 0 l.n)))
