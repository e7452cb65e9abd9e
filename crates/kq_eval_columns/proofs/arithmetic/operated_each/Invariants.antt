use Rattle.std.proofs.Common.{◌≡◌, map, take}
use Rattle.kq_value.specs.Computed.{Is}
use Rattle.kq_eval_kernels.specs.Numbers.{of_kind}
use Rattle.kq_eval_columns.specs.Seen.{beside_one}
use Rattle.kq_eval_columns.proofs.arithmetic.operated_each.Given as goal

abbrev pub invariant-loop-i : goal.invariant-loop-i
invariant-loop-i l = beside_one l.function l.value (map (of_kind l.kind) (take l.i l.numbers)) ≡ map (λ z. Is (of_kind l.kind z)) l.found.items
