use Rattle.std.proofs.Common.{◌≡◌, drop, map}
use Rattle.kq_bind_supported.specs.Unsupported.{unsupported_arms, unsupported_operators}
use Rattle.kq_bind_supported.proofs.unsupported.+unsupported.Given as goal
use Rattle.kq_read_grammar.specs.TabularViews.{arm_of, arms_of, operator_of, operators_of}

abbrev pub invariant-in_arms-loop-arm : goal.invariant-in_arms-loop-arm
invariant-in_arms-loop-arm l = unsupported_arms l.text (arms_of (map arm_of l.fn.arms.items)) ≡ unsupported_arms l.text (arms_of (map arm_of (drop l.arm-index l.arm-items)))

abbrev pub invariant-in_operators-loop-operator : goal.invariant-in_operators-loop-operator
invariant-in_operators-loop-operator l = unsupported_operators l.text (operators_of (map operator_of l.fn.operators.items)) ≡ unsupported_operators l.text (operators_of (map operator_of (drop l.operator-index l.operator-items)))
