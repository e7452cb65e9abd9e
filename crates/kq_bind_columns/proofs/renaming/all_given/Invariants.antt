use Rattle.std.proofs.Common.{◌≡◌, ◌++◌, drop}
use Rattle.std.specs.Prelude.{Ok}
use Rattle.kq_bind_columns.specs.Chosen.{names_given}
use Rattle.kq_bind_columns.proofs.renaming.all_given.Given as goal
use Rattle.kq_bind_expressions.specs.Verdicts.{and_then}

abbrev pub invariant-loop-name : goal.invariant-loop-name
invariant-loop-name l = names_given l.text l.fn.kept.items l.names ≡ and_then (names_given l.text l.taken.items (drop l.name-index l.names)) (λ more. Ok (l.given.items ++ more))
