use Rattle.std.proofs.Common.{◌∙◌, ap}
use Rattle.kq_catalog_journal.specs.History.{log}
use Rattle.kq_catalog_journal.specs.Tagged.{first_tagged}
use Rattle.kq_catalog.specs.Seen.{CatalogView, hist}
use Rattle.kq_catalog.proofs.state.State.tagged.Goals as goal

pub returns : goal.returns
returns c =
    c.find.ensures ∙ c.self.invariant.tags.is c.args.table c.args.tag.now ∙ ap (λ (w : CatalogView). first_tagged (log (hist w)) c.args.table c.args.tag.now) c.self.view_is
