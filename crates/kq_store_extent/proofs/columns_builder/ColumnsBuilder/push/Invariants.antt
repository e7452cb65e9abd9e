use Rattle.std.proofs.Common.{◌≡◌}
use Rattle.kq_store_extent.proofs.Coming.{grown_more}
use Rattle.kq_store_extent.proofs.columns_builder.ColumnsBuilder.push.Given as goal

-- the first columns have the cells of the row
abbrev pub invariant-loop-i : goal.invariant-loop-i
invariant-loop-i l = l.builders.items ≡ grown_more l.i l.initial.builders.items l.row
