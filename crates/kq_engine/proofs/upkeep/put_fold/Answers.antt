use Rattle.kq_catalog.specs.Seen.{hist}
use Rattle.kq_engine.proofs.Upholding.{PutsChore-fold}
use Rattle.kq_engine.proofs.upkeep.put_fold.Goals as goal

pub returns-in-Ok-clause-puts : goal.returns-in-Ok-clause-puts
returns-in-Ok-clause-puts c = PutsChore-fold (hist c.args.catalog.now) (hist c.fold.new.catalog) c.args.by c.args.folding c.in-Ok.outcome c.in-Ok.ensures.puts
