use Rattle.std.proofs.Common.{◌≤◌, ◌∙◌, ◌++◌, ◌∷◌, [], Some, ap, arith}
use Rattle.kq_lock.proofs.Starts.{starts}
use Rattle.kq_lock.proofs.turn.Turn.start.Goals as goal

pub new-requires : goal.new-requires
new-requires g c =
    let some_passes : 1 ≤ c.from.result = omega (arith, c.requires, c.from.ensures) in
    starts g.S.Grows.history g.S.Grows.fixed c.from.result c.count-count.result c.args.value c.of.result.value c.push.new.self.items some_passes c.count-count.ensures c.of.ensures
    (c.in_ok-push.ensures.items ∙ ap (λ l. l ++ Some c.args.value ∷ []) c.new-slots.ensures.items)
