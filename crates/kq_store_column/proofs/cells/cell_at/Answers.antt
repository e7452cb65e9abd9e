use Rattle.kq_store_column.proofs.Cellwise.{wide_at, cell_got}
use Rattle.kq_store_column.proofs.cells.cell_at.Goals as goal

pub bounds-row-column : goal.bounds-row-column
bounds-row-column c = wide_at c.args.column c.args.rows.now c.args.index c.row.result.now c.requires.wide c.row.ensures

pub returns : goal.returns
returns c =
    let within = wide_at c.args.column c.args.rows.now c.args.index c.row.result.now c.requires.wide c.row.ensures in
    cell_got c.args.column c.args.rows.now c.args.index c.row.result.now c.index-row-column.result within c.row.ensures c.index-row-column.is
