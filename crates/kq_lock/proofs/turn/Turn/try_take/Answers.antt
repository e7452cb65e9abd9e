use Rattle.std.proofs.Common.{◌∙◌, ap, sym, arith}
use Rattle.kq_lock.specs.Passes.{TurnId}
use Rattle.kq_lock.proofs.Takes.{allows_take_at}
use Rattle.kq_lock.proofs.turn.Turn.try_take.Goals as goal

pub compare_exchange-found-requires : goal.compare_exchange-found-requires
compare_exchange-found-requires g c =
    let key = c.self.inside.table.shared.key in
    let words = c.self.invariant.0 in (
      c.requires.of ∙ sym (ap (λ (t : TurnId). t.table) c.self.view_is),
      omega (arith, words),
      allows_take_at g.S.Grows.history g.S.Grows.fixed key.passes (g.S.Grows.fixed key.first.value) _ _ c.args.seat.now.me
          c.requires.idle.0 c.requires.live c.requires.idle.1,
    )
