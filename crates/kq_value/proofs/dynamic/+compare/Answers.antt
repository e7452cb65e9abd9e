use Rattle.std.proofs.Common.{◌≡◌, min, length, vec_len, arith, sym, ◌∙◌}
use Rattle.std.proofs.lemmas.Grind.{common_steps}
use Rattle.kq_value.proofs.Steps.{trees_cmp-end, entries_cmp-end}
use Rattle.kq_value.proofs.dynamic.+compare.Goals as goal

pub DynBag::cmp-returns : goal.DynBag::cmp-returns
DynBag::cmp-returns t c =
    let at_end : c.loop-i.i ≡ min (length c.self.inside.members.items) (length c.other.inside.members.items) = omega arith in
    let own : vec_len c.self.inside.members ≡ length c.self.inside.members.items = omega arith in
    let others : vec_len c.other.inside.members ≡ length c.other.inside.members.items = omega arith in
    let e = entries_cmp-end _ _ c.loop-i.i at_end in
    rw (← c.self.view_is, ← c.other.view_is, c.cmp.ensures, c.len-3.ensures, c.len-4.ensures, own, others) (sym (c.loop-i.invariant ∙ e))

pub DynList::cmp-returns : goal.DynList::cmp-returns
DynList::cmp-returns t c =
    let at_end : c.loop-i.i ≡ min (length c.self.inside.items.items) (length c.other.inside.items.items) = omega arith in
    let own : vec_len c.self.inside.items ≡ length c.self.inside.items.items = omega arith in
    let others : vec_len c.other.inside.items ≡ length c.other.inside.items.items = omega arith in
    let e = trees_cmp-end _ _ c.loop-i.i at_end in
    rw (← c.self.view_is, ← c.other.view_is, c.cmp.ensures, c.len-3.ensures, c.len-4.ensures, own, others) (sym (c.loop-i.invariant ∙ e))

pub DynBag::cmp-loop-i-preserved : goal.DynBag::cmp-loop-i-preserved
DynBag::cmp-loop-i-preserved t c = grind (arith, common_steps)

pub DynList::cmp-loop-i-preserved : goal.DynList::cmp-loop-i-preserved
DynList::cmp-loop-i-preserved t c = grind (arith, common_steps)

pub DynBag::cmp-returns-then-ne : goal.DynBag::cmp-returns-then-ne
DynBag::cmp-returns-then-ne t c = grind (arith, common_steps)

pub DynList::cmp-returns-then-ne : goal.DynList::cmp-returns-then-ne
DynList::cmp-returns-then-ne t c = grind (arith, common_steps)
