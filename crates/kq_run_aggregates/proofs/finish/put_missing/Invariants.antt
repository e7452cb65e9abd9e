use Rattle.std.proofs.Common.{◌≡◌, ◌++◌, map, take}
use Rattle.kq_value.specs.Typed.{missing_of}
use Rattle.kq_run_aggregates.proofs.finish.put_missing.Given as goal

abbrev pub invariant-loop-ty : goal.invariant-loop-ty
invariant-loop-ty l = l.out.items ≡ l.initial.out.items ++ map missing_of (take l.ty-index l.types)
