use Rattle.std.proofs.Common.{◌≡◌, ◌∙◌, List, ap, subst}
use Rattle.kq_catalog_journal.specs.declared.table.Table.{Table}
use Rattle.kq_catalog_journal.specs.History.{log, tables}
use Rattle.kq_catalog.specs.Held.{FindsTable, tables_in}
use Rattle.kq_catalog.specs.Seen.{CatalogView, Sound, hist}
use Rattle.kq_catalog.proofs.Standing.{tables_held}
use Rattle.kq_catalog.proofs.state.State.table.Goals as goal

pub returns : goal.returns
returns c =
    let v = c.args.self.now in
    let sound : Sound v = subst Sound c.self.view_is c.self.invariant.sound in
    let same : tables_in c.self.inside.tables ≡ tables (log (hist v)) = ap (λ (w : CatalogView). tables_in w.held) c.self.view_is ∙ tables_held v sound in
    subst (λ (ts : List Table). FindsTable c.args.name.now ts c.find.result) same c.find.ensures
