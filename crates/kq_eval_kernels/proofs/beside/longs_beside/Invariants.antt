use Rattle.std.proofs.Common.{◌≡◌, map, take}
use Rattle.kq_value.specs.Computed.{Is}
use Rattle.kq_value.specs.declared.value.Value.TheVariants.{Long}
use Rattle.kq_eval_kernels.proofs.beside.longs_beside.Given as goal

abbrev pub invariant-loop-i : goal.invariant-loop-i
invariant-loop-i g l = map (λ z. g.O.LongOperator.operator (Long z) (Long l.other)) (take l.i l.longs) ≡ map (λ z. Is (Long z)) l.found.items
