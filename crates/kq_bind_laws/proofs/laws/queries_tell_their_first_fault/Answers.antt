-- The laws are proved over the definition.
use Rattle.kq_bind_laws.proofs.QueryFaults.{query_tells}
use Rattle.kq_bind_laws.proofs.QueryInText.{query_in}
use Rattle.kq_bind_laws.proofs.laws.queries_tell_their_first_fault.Goals as goal

pub returns-clause-first : goal.returns-clause-first
returns-clause-first c = query_tells

pub returns-clause-order : goal.returns-clause-order
returns-clause-order c = query_in
