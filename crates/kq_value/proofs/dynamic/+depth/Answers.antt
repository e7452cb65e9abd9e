use Rattle.std.proofs.Common.{arith}
use Rattle.std.proofs.lemmas.Grind.{common_steps}
use Rattle.kq_value.proofs.dynamic.+depth.Goals as goal

pub DynBag::depth-loop-member-preserved : goal.DynBag::depth-loop-member-preserved
DynBag::depth-loop-member-preserved t c = grind (arith, common_steps)

pub DynBag::depth-returns-clause-depth : goal.DynBag::depth-returns-clause-depth
DynBag::depth-returns-clause-depth t c = grind (arith, common_steps)

pub DynList::depth-loop-item-preserved : goal.DynList::depth-loop-item-preserved
DynList::depth-loop-item-preserved t c = grind (arith, common_steps)

pub DynList::depth-returns-clause-depth : goal.DynList::depth-returns-clause-depth
DynList::depth-returns-clause-depth t c = grind (arith, common_steps)
