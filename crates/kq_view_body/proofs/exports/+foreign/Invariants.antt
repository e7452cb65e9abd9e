use Rattle.std.proofs.Common.{◌≡◌, drop, map}
use Rattle.kq_view_body.specs.Exports.{foreign_arms, foreign_operators}
use Rattle.kq_view_body.proofs.exports.+foreign.Given as goal
use Rattle.kq_read_grammar.specs.TabularViews.{arm_of, arms_of, operator_of, operators_of}

abbrev pub invariant-in_arms-loop-arm : goal.invariant-in_arms-loop-arm
invariant-in_arms-loop-arm l = foreign_arms l.text l.table (arms_of (map arm_of l.fn.arms.items)) ≡ foreign_arms l.text l.table (arms_of (map arm_of (drop l.arm-index l.arm-items)))

abbrev pub invariant-in_operators-loop-operator : goal.invariant-in_operators-loop-operator
invariant-in_operators-loop-operator l = foreign_operators l.text l.table (operators_of (map operator_of l.fn.operators.items)) ≡ foreign_operators l.text l.table (operators_of (map operator_of (drop l.operator-index l.operator-items)))
