use Rattle.std.proofs.Common.{length, ap, arith}
use Rattle.kq_store_column_view.proofs.Masked.{length-cells}
use Rattle.kq_store_column.proofs.numbers.Numbers.len.Goals as goal

pub returns-clause-count : goal.returns-clause-count
returns-clause-count c =
    let s = c.self.inside in
    omega (arith, s.numbers.ok.0, ap length c.self.view_is, length-cells s.ty s.nulls.items s.numbers.items)
