use Rattle.kq_value.proofs.Trees.{items_of-push, trees_depth-push}
use Rattle.kq_value.proofs.dynamic.DynList.push.Goals as goal

pub invariant_of-self-2 : goal.invariant_of-self-2
invariant_of-self-2 c = rw c.in_ok-push.ensures.items (trees_depth-push _ _ 127 c.self.invariant c.requires)

pub returns-clause-ok : goal.returns-clause-ok
returns-clause-ok c = rw (c.in_ok-push.ensures.items, ← c.self.view_is) (items_of-push _ _)
