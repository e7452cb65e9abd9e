use Rattle.kq_run_laws.proofs.Splits.{pieces}
use Rattle.kq_run_laws.proofs.laws.splits_are_leftmost.Goals as goal

pub returns-clause-pieces : goal.returns-clause-pieces
returns-clause-pieces c s t ps some = pieces s t ps some
