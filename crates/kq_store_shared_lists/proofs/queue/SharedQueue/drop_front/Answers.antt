use Rattle.std.proofs.Common.{ap, arith, length, length-drop}
use Rattle.kq_store_shared_lists.proofs.queue.SharedQueue.drop_front.Goals as goal

pub overflow_add-gone : goal.overflow_add-gone
overflow_add-gone g c = omega (arith, ap length c.self.view_is, length-drop c.self.inside.gone c.self.inside.list, c.requires, c.self.invariant, c.len-len.ensures.count, c.len-len.ensures.small)
