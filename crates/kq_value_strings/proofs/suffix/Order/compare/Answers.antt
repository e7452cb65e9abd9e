use Rattle.std.proofs.lemmas.Cmp.{ranked}
use Rattle.kq_value_strings.proofs.Orders.{turned}
use Rattle.kq_value_strings.proofs.suffix.Order.compare.Goals as goal

pub returns-in-Rising : goal.returns-in-Rising
returns-in-Rising c = rw c.in-Rising.is (ranked c.args.a c.args.b c.cmp.result c.cmp.ensures)

pub returns-in-Falling : goal.returns-in-Falling
returns-in-Falling c = rw c.in-Falling.is (turned c.args.a c.args.b c.cmp-in-Falling.result (ranked c.args.b c.args.a c.cmp-in-Falling.result c.cmp-in-Falling.ensures))
