use Rattle.std.proofs.Common.{◌<◌, ◌∙◌, length, take, rules}
use Rattle.kq_run_aggregates.specs.Alone.{alone, each_alone}
use Rattle.kq_store_column_view.specs.Vectors.{cell_of, cells_of}
use Rattle.kq_run_groups.proofs.ColumnKeys.{take_cells}
use Rattle.kq_run_groups.proofs.Tables.{Numbers-step}
use Rattle.kq_run_groups.proofs.key_table.KeyTable.numbers_of_cells.Goals as goal

pub loop-i-preserved : goal.loop-i-preserved
loop-i-preserved c =
    let cells = cells_of c.args.column.now in
    let i = c.loop-i.i in
    let h : i < length cells = search rules in
    record {
      table = c.in_ok-number.ensures.table;
      width = c.number_of_cell.ensures.width ∙ c.loop-i.invariant.width;
      numbers = rw (take_cells cells i h, c.in_ok-push.ensures.items)
          (Numbers-step c.args.self.now.keys c.loop-i.self.keys c.number_of_cell.new.self.keys c.loop-i.numbers.items (take i (each_alone cells)) c.in_ok-number.number (alone (cell_of cells i)) c.loop-i.invariant.numbers
          c.in_ok-number.ensures.keys c.in_ok-number.ensures.number.0 c.in_ok-number.ensures.number.1);
    }
