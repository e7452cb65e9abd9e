use Rattle.std.proofs.Common.{arith}
use Rattle.std.proofs.lemmas.Grind.{common_steps}
use Rattle.kq_value.proofs.dynamic.+copy.Goals as goal

pub DynBag::clone_in-loop-member-preserved : goal.DynBag::clone_in-loop-member-preserved
DynBag::clone_in-loop-member-preserved t c = grind (arith, common_steps)

pub DynBag::clone_in-invariant_of-result : goal.DynBag::clone_in-invariant_of-result
DynBag::clone_in-invariant_of-result t c = grind (arith, common_steps)

pub DynBag::clone_in-returns : goal.DynBag::clone_in-returns
DynBag::clone_in-returns t c = grind (arith, common_steps)

pub DynList::clone_in-loop-item-preserved : goal.DynList::clone_in-loop-item-preserved
DynList::clone_in-loop-item-preserved t c = grind (arith, common_steps)

pub DynList::clone_in-invariant_of-result : goal.DynList::clone_in-invariant_of-result
DynList::clone_in-invariant_of-result t c = grind (arith, common_steps)

pub DynList::clone_in-returns : goal.DynList::clone_in-returns
DynList::clone_in-returns t c = grind (arith, common_steps)
