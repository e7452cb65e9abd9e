use Rattle.std.proofs.Common.{length}
use Rattle.kq_store_extent.proofs.Across.{rows_back, long_columns}
use Rattle.kq_store_extent.proofs.columns.Columns.build.Goals as goal

pub invariant_of-result : goal.invariant_of-result
invariant_of-result c = record {
  long = long_columns c.args.rows.now c.in_ok-columns.columns.items (length c.args.schema.now) c.len.result c.len.ensures.count c.in_ok-columns.ensures;
  small = c.len.ensures.small;
}

pub returns : goal.returns
returns c = rows_back c.args.schema.now c.args.rows.now c.in_ok-columns.columns.items c.len.result c.len.ensures.count c.in_ok-columns.ensures c.requires
