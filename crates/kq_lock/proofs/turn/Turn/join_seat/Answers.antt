use Rattle.std.proofs.Common.{◌∙◌, ap, sym, arith}
use Rattle.kq_lock.specs.Passes.{TurnId}
use Rattle.kq_lock.proofs.Passes.{joins}
use Rattle.kq_lock.proofs.turn.Turn.join_seat.Goals as goal

pub join_seat-requires : goal.join_seat-requires
join_seat-requires g c =
    let key = c.self.inside.table.shared.key in
    let words = c.self.invariant.0 in
    let table = sym (ap (λ (t : TurnId). t.table) c.self.view_is) in (
      c.requires.of.0 ∙ table,
      c.requires.of.1 ∙ table,
      c.requires.other_idle.1,
      omega (arith, words),
      joins g.S.Grows.history g.S.Grows.fixed key.passes (g.S.Grows.fixed key.first.value) _ c.args.seat.now.me.0 _ c.args.other.me.0
          c.requires.idle.0 c.requires.other_idle.0 c.requires.live.0 c.requires.live.1,
    )
