use Rattle.std.proofs.Common.{length, subst}
use Rattle.kq_catalog.specs.Seen.{CatalogView, hist}
use Rattle.kq_engine.specs.declared.upkeep.Upkeep.TheVariants as upkeeps
use Rattle.kq_engine.specs.Upkeeps.{Upholds}
use Rattle.kq_engine.proofs.Upholding.{PutsChore-again, PutsChore-merge}
use Rattle.kq_engine.proofs.upkeep.put_merge.Goals as goal

pub returns-in-Ok-clause-puts : goal.returns-in-Ok-clause-puts
returns-in-Ok-clause-puts c = PutsChore-merge (hist c.args.catalog.now) (hist c.merge.new.catalog) c.args.by c.args.merging c.in-Ok.outcome c.in-Ok.ensures.puts

pub returns-in-Err-Moved-clause-puts : goal.returns-in-Err-Moved-clause-puts
returns-in-Err-Moved-clause-puts c =
    let new = hist c.merge_again.new.catalog in
    let m = c.args.merging in
    let outcome = c.merge_again.result in
    let up = subst (λ (v : CatalogView). Upholds (hist v) new c.args.by (upkeeps.Merge m.table) (length (hist v)) outcome) c.in-Err-Moved.ensures.kept c.merge_again.ensures.upholds in
    PutsChore-again (hist c.args.catalog.now) new c.args.by m outcome up
