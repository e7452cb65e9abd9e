use Rattle.kq_value.proofs.Trees.{entries_of-push, IsBag-push}
use Rattle.kq_value.proofs.dynamic.DynBag.push.Goals as goal

pub returns-clause-ok : goal.returns-clause-ok
returns-clause-ok c = rw (c.in_ok-push.ensures.items, c.room_for_first.ensures, ← c.self.view_is) (entries_of-push _ _)

pub invariant_of-self-2 : goal.invariant_of-self-2
invariant_of-self-2 c =
    rw (c.in_ok-push.ensures.items, c.room_for_first.ensures, entries_of-push)
    (IsBag-push _ _ _ c.self.invariant (rw (← c.self.view_is) at c.requires.after) c.requires.shallow)
