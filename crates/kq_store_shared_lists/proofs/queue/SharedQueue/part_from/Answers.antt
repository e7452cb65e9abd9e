use Rattle.std.proofs.Common.{length, map, length-drop, ap, sym, arith}
use Rattle.std.specs.Arc.{arc_value}
use Rattle.kq_store_shared_lists.proofs.Rows.{StandsAt-dropped}
use Rattle.kq_store_shared_lists.proofs.queue.SharedQueue.part_from.Goals as goal

pub returns-clause-items : goal.returns-clause-items
returns-clause-items g c =
    rw (sym c.self.view_is) (StandsAt-dropped c.self.inside.list c.self.inside.gone c.args.at (map arc_value c.part_from.result.now) c.part_from.ensures.items)

pub overflow_add-self-inside : goal.overflow_add-self-inside
overflow_add-self-inside g c = omega (arith, ap length c.self.view_is, length-drop c.self.inside.gone c.self.inside.list, c.requires, c.self.invariant, c.len-len.ensures.count, c.len-len.ensures.small)
