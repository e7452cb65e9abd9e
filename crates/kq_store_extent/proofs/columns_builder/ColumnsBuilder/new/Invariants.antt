use Rattle.std.proofs.Common.{◌≡◌, take}
use Rattle.kq_store_extent.proofs.Coming.{begun_all}
use Rattle.kq_store_extent.proofs.columns_builder.ColumnsBuilder.new.Given as goal

abbrev pub invariant-loop-field : goal.invariant-loop-field
invariant-loop-field l = l.builders.items ≡ begun_all (take l.field-index l.fields)
