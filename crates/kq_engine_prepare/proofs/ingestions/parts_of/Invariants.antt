use Rattle.std.proofs.Common.{◌≡◌, map}
use Rattle.kq_catalog.specs.Intents.{batch_of}
use Rattle.kq_engine_prepare.proofs.ingestions.parts_of.Given as goal

abbrev pub invariant-loop-batch : goal.invariant-loop-batch
invariant-loop-batch l = map batch_of l.parts.items ≡ l.yielded
