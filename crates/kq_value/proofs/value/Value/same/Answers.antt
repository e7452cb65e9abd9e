use Rattle.std.proofs.Common.{rules}
use Rattle.kq_value.proofs.Equals.{is_same-Decides}
use Rattle.kq_value.proofs.value.Value.same.Goals as goal

pub returns-clause-same : goal.returns-clause-same
returns-clause-same c = search (rules, is_same-Decides)
