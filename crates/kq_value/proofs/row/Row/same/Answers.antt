use Rattle.std.proofs.Common.{rules}
use Rattle.kq_value.proofs.Equals.{is_same_row-Decides}
use Rattle.kq_value.proofs.row.Row.same.Goals as goal

pub returns-clause-same : goal.returns-clause-same
returns-clause-same c = search (rules, is_same_row-Decides)
