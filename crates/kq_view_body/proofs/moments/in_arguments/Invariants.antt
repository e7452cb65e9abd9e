use Rattle.std.proofs.Common.{◌≡◌, drop, map}
use Rattle.kq_view_body.specs.Moments.{moment_in_arguments}
use Rattle.kq_view_body.proofs.moments.in_arguments.Given as goal
use Rattle.kq_read_grammar.specs.Views.{argument_view}

abbrev pub invariant-loop-argument : goal.invariant-loop-argument
invariant-loop-argument l = moment_in_arguments l.text (map argument_view l.arguments) ≡ moment_in_arguments l.text (map argument_view (drop l.argument-index l.arguments))
