use Rattle.std.proofs.Common.{◌∙◌, ap, sym, arith}
use Rattle.kq_lock.specs.Passes.{TurnId}
use Rattle.kq_lock.proofs.Giving.{allows_load}
use Rattle.kq_lock.proofs.turn.Turn.load_count.Goals as goal

pub load-requires : goal.load-requires
load-requires g c =
    let key = c.self.inside.table.shared.key in
    let words = c.self.invariant.0 in (
      c.requires.of ∙ sym (ap (λ (t : TurnId). t.table) c.self.view_is),
      omega (arith, words),
      allows_load g.S.Grows.history g.S.Grows.fixed key.passes (g.S.Grows.fixed key.first.value) _ _ c.args.seat.now.me c.requires.live,
    )
