use Rattle.std.proofs.Common.{◌∙◌, ap, sym, Some, ◌∷◌}
use Rattle.atomic_table.specs.Table.{rest}
use Rattle.kq_lock.specs.Passes.{TurnId}
use Rattle.kq_lock.proofs.turn.Turn.value_out.Goals as goal

pub exchange-requires : goal.exchange-requires
exchange-requires g c =
    let full = c.requires.full in (
      c.requires.of ∙ sym (ap (λ (t : TurnId). t.table) c.self.view_is),
      (Some full.0, full.1 ∙ sym (ap (λ l. (0, Some full.0) ∷ rest l) full.1)),
    )
