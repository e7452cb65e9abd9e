use Rattle.std.proofs.Common.{take}
use Rattle.kq_store_column.specs.Built.{AreBuilt}
use Rattle.kq_store_column.specs.Cells.{column_of}
use Rattle.kq_store_column.proofs.numbers.Numbers.build.Given as goal

-- the rows so far
abbrev pub invariant-loop-i : goal.invariant-loop-i
invariant-loop-i l = AreBuilt l.ty l.nulls.items l.numbers.items l.any (take l.i (column_of l.column l.rows))
