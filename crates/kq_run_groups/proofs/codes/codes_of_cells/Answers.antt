use Rattle.std.proofs.Common.{map, pos}
use Rattle.kq_store_column_view.specs.Vectors.{cells_of}
use Rattle.kq_run_groups.proofs.Columns.{tell_cells, told_by}
use Rattle.kq_run_groups.proofs.codes.codes_of_cells.Goals as goal

pub returns : goal.returns
returns c =
    let ns = c.in_ok-numbers.numbers.items in
    let cells = cells_of c.args.column.now in
    told_by c.widened.result (map pos ns) cells (rw c.as_slice.ensures.value at c.widened.ensures) (tell_cells c.numbers_of_cells.new.self.keys ns cells c.in_ok-numbers.ensures.numbers.are)
