use Rattle.std.proofs.Common.{◌≡◌}
use Rattle.kq_store_extent.specs.Coming.{cells_grown}
use Rattle.kq_store_extent.proofs.columns_builder.built.Given as goal

abbrev pub invariant-loop-builder : goal.invariant-loop-builder
invariant-loop-builder l = l.columns.items ≡ cells_grown l.yielded
