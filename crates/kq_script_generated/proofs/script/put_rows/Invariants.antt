-- What stands there, with what is still to come, is the whole.
use Rattle.std.proofs.Common.{◌≡◌, ◌-◌, ◌++◌}
use Rattle.std.specs.Prelude.{codes}
use Rattle.kq_script_generated.specs.Commands.{each_behind, rows_from}
use Rattle.kq_script_generated.proofs.script.put_rows.Given as goal

abbrev pub invariant-loop-i : goal.invariant-loop-i
invariant-loop-i l =
    l.text ++ each_behind (codes "\n") (rows_from l.i (l.end - l.i)) ≡ l.fn.text ++ each_behind (codes "\n") (rows_from l.first (l.end - l.first))
