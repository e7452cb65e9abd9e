use Rattle.std.proofs.Common.{arith, length-take}
use Rattle.kq_catalog.specs.Seen.{hist}
use Rattle.kq_engine_interleavings.proofs.prepared.finish.Goals as goal

pub conclude-requires-clause-within : goal.conclude-requires-clause-within
conclude-requires-clause-within c = let p = c.args.prepared in omega (arith, c.requires.at, length-take p.place (hist c.args.catalog.now))
