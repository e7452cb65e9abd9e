use Rattle.std.proofs.Common.{◌≡◌, false, drop, map}
use Rattle.kq_view_body.specs.Faults.{steps_fault}
use Rattle.kq_view_body.specs.Parts.{operator_parts}
use Rattle.kq_view_body.proofs.body.steps_fault.Given as goal
use Rattle.kq_read_grammar.specs.TabularViews.{operator_of, operators_of}

abbrev pub invariant-loop-operator : goal.invariant-loop-operator
invariant-loop-operator l = steps_fault false l.first (operator_parts l.text (operators_of (map operator_of l.operators))) ≡ steps_fault l.summarized l.first (operator_parts l.text (operators_of (map operator_of (drop l.operator-index l.operators))))
