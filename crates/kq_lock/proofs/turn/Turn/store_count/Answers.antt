use Rattle.std.proofs.Common.{◌∙◌, ap, sym, arith}
use Rattle.kq_lock.specs.Passes.{TurnId}
use Rattle.kq_lock.proofs.Giving.{allows_count}
use Rattle.kq_lock.proofs.turn.Turn.store_count.Goals as goal

pub store-requires : goal.store-requires
store-requires g c =
    let key = c.self.inside.table.shared.key in
    let words = c.self.invariant.0 in
    let value = c.requires.value in (
      c.requires.of ∙ sym (ap (λ (t : TurnId). t.table) c.self.view_is),
      omega (arith, words),
      allows_count g.S.Grows.history g.S.Grows.fixed key.passes (g.S.Grows.fixed key.first.value) _ _ c.args.seat.now.me.0 value.0 c.args.seat.now.me.1 c.args.count
          c.requires.holds c.requires.live value.1 value.2 value.3,
    )
