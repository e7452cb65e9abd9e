use Rattle.std.proofs.Common.{rules}
use Rattle.kq_value.proofs.Fields.{same_fields-Decides}
use Rattle.kq_value.proofs.schema.Schema.same.Goals as goal

pub returns-clause-same : goal.returns-clause-same
returns-clause-same c = search (rules, same_fields-Decides)
