use Rattle.std.proofs.Common.{◌≡◌, [], length, replicate, take}
use Rattle.kq_run_aggregates.specs.Steps.{TakesIn}
use Rattle.kq_run_aggregates.specs.Tables.{kept_of, kind_of}
use Rattle.kq_run_aggregates.proofs.table.Table.step_bare_rows.Given as goal

abbrev pub invariant-loop-i : goal.invariant-loop-i
invariant-loop-i l = record { kind : kind_of l.self ≡ kind_of l.fn.self; taken : TakesIn (kind_of l.fn.self) (take l.i l.groups) (take l.i (replicate (length l.groups) [])) (kept_of l.fn.self) (kept_of l.self) }
