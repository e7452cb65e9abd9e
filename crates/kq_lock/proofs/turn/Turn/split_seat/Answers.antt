use Rattle.std.proofs.Common.{◌∙◌, ap, sym, arith}
use Rattle.kq_lock.specs.Passes.{TurnId}
use Rattle.kq_lock.proofs.Passes.{splits}
use Rattle.kq_lock.proofs.turn.Turn.split_seat.Goals as goal

pub split_seat-requires : goal.split_seat-requires
split_seat-requires g c =
    let key = c.self.inside.table.shared.key in
    let words = c.self.invariant.0 in (
      c.requires.of ∙ sym (ap (λ (t : TurnId). t.table) c.self.view_is),
      omega (arith, words),
      splits g.S.Grows.history g.S.Grows.fixed key.passes (g.S.Grows.fixed key.first.value) _ c.args.seat.now.me.0 c.requires.idle.0 c.requires.worth,
    )
