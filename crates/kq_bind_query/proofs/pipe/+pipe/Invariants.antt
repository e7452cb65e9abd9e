use Rattle.std.proofs.Common.{◌≡◌, drop, map}
use Rattle.kq_bind_query.specs.Pipes.{piped, gathered}
use Rattle.kq_bind_operators.specs.Seen.{flow_of, progress_of, scoping_of}
use Rattle.kq_bind_query.proofs.pipe.+pipe.Given as goal
use Rattle.kq_read_grammar.specs.TabularViews.{arm_of, arms_of, operator_of, operators_of}

abbrev pub invariant-bind_operators-loop-operator : goal.invariant-bind_operators-loop-operator
invariant-bind_operators-loop-operator g l =
    let s = scoping_of g.N.Names.known l.scope in
    piped s (flow_of l.fn.before) (operators_of (map operator_of l.fn.operators.items)) ≡ piped s (flow_of l.flow) (operators_of (map operator_of (drop l.operator-index l.operator-items)))

abbrev pub invariant-bind_arms-loop-arm : goal.invariant-bind_arms-loop-arm
invariant-bind_arms-loop-arm g l =
    let s = scoping_of g.N.Names.known l.scope in
    gathered s l.stage l.kind (progress_of l.fn.before) l.fn.first.items (arms_of (map arm_of l.fn.arms.items)) ≡ gathered s l.stage l.kind (progress_of l.progress) l.inputs.items (arms_of (map arm_of (drop l.arm-index l.arm-items)))
