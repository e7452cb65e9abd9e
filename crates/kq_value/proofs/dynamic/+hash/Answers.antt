use Rattle.std.proofs.Common.{arith}
use Rattle.std.proofs.lemmas.Grind.{common_steps}
use Rattle.kq_value.proofs.dynamic.+hash.Goals as goal

pub DynBag::hash_into-loop-member-preserved : goal.DynBag::hash_into-loop-member-preserved
DynBag::hash_into-loop-member-preserved t c = grind (arith, common_steps)

pub DynBag::hash_into-returns : goal.DynBag::hash_into-returns
DynBag::hash_into-returns t c = grind (arith, common_steps)

pub DynList::hash_into-loop-item-preserved : goal.DynList::hash_into-loop-item-preserved
DynList::hash_into-loop-item-preserved t c = grind (arith, common_steps)

pub DynList::hash_into-returns : goal.DynList::hash_into-returns
DynList::hash_into-returns t c = grind (arith, common_steps)
