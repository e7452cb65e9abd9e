use Rattle.std.proofs.Common.{map, ◌∙◌}
use Rattle.kq_store_frame.specs.Series.{cells_in}
use Rattle.kq_store_frame.proofs.Across.{long_columns, rows_back}
use Rattle.kq_store_frame.proofs.frame.Frame.of_rows.Goals as goal

pub of-requires : goal.of-requires
of-requires c = record {
  long = long_columns c.args.rows.now (map cells_in c.in_ok-columns.columns.items) c.width_of-width.result c.len.result c.in_ok-columns.ensures c.len.ensures.count;
  small = c.len.ensures.small;
}

pub returns : goal.returns
returns c =
    c.of.ensures
    ∙ rows_back c.args.rows.now (map cells_in c.in_ok-columns.columns.items) c.width_of-width.result c.len.result c.width_of-width.ensures c.in_ok-columns.ensures c.len.ensures.count
