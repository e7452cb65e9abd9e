-- The laws are proved over the definition.
use Rattle.kq_bind_laws.proofs.Faults.{tree_tells}
use Rattle.kq_bind_laws.proofs.InText.{tree_in}
use Rattle.kq_bind_laws.proofs.laws.expressions_tell_their_first_fault.Goals as goal

pub returns-clause-first : goal.returns-clause-first
returns-clause-first c = tree_tells

pub returns-clause-order : goal.returns-clause-order
returns-clause-order c = tree_in
