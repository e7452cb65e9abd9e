-- The law is proved over the definition.
use Rattle.kq_bind_laws.proofs.Leftmost.{tree_first}
use Rattle.kq_bind_laws.proofs.laws.literals_are_told_from_the_left.Goals as goal

pub returns : goal.returns
returns c = tree_first
