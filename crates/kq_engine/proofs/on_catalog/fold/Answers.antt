use Rattle.std.proofs.Common.{subst}
use Rattle.kq_catalog.specs.declared.folding.FoldFault.{FoldFault}
use Rattle.kq_catalog.specs.Seen.{hist}
use Rattle.kq_catalog.specs.Views.{Trails}
use Rattle.kq_engine.proofs.on_catalog.fold.Goals as goal

pub returns-in-Err-Memory-clause-behind : goal.returns-in-Err-Memory-clause-behind
returns-in-Err-Memory-clause-behind c = subst (λ (f : FoldFault). Trails (hist c.args.catalog.now) c.args.folding.view c.args.folding.to f) c.in-Err-Memory.field-0-is c.in-Err-Memory.ensures.behind
