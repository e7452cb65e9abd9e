use Rattle.std.proofs.Common.{◌≡◌, take}
use Rattle.kq_run_aggregates.specs.Steps.{TakesIn}
use Rattle.kq_run_aggregates.specs.Tables.{kept_of, kind_of}
use Rattle.kq_store_column_view.specs.Vectors.{cells_of}
use Rattle.kq_run_aggregates.specs.Alone.{each_alone}
use Rattle.kq_run_aggregates.proofs.table.Table.step_cells.Given as goal

abbrev pub invariant-loop-i : goal.invariant-loop-i
invariant-loop-i l = record { kind : kind_of l.self ≡ kind_of l.fn.self; taken : TakesIn (kind_of l.fn.self) (take l.i l.groups) (take l.i (each_alone (cells_of l.column))) (kept_of l.fn.self) (kept_of l.self) }
