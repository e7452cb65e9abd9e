use Rattle.std.proofs.Common.{◌∙◌}
use Rattle.kq_store_column_view.specs.Vectors.{cells_of}
use Rattle.kq_run_aggregates.proofs.Batches.{TakesIn-cells}
use Rattle.kq_run_aggregates.proofs.table.Table.step_cells.Goals as goal

pub loop-i-preserved : goal.loop-i-preserved
loop-i-preserved c = record {
  kind = c.step_cell.ensures.kind ∙ c.loop-i.invariant.kind;
  taken = TakesIn-cells _ _ c.args.groups.now (cells_of c.args.column.now) c.loop-i.i _ _ _ c.loop-i.invariant.kind c.loop-i-test.true c.requires.along c.in_ok-step_cell.ensures.ok c.loop-i.invariant.taken;
}
