use Rattle.std.proofs.Common.{sym}
use Rattle.kq_store_column_view.proofs.Masked.{length-cells}
use Rattle.kq_store_column_view.proofs.vector.Vector.len.Goals as goal

pub returns-in-Marked : goal.returns-in-Marked
returns-in-Marked c = rw c.in-Marked.is (sym (length-cells c.in-Marked.numbers.ty c.in-Marked.numbers.nulls.now c.in-Marked.numbers.numbers.now))
