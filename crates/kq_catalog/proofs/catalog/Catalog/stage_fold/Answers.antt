use Rattle.std.proofs.Common.{rules, ◌≡◌, ◌<◌, subst, sym}
use Rattle.kq_catalog_journal.specs.History.{log, view_count}
use Rattle.kq_catalog.specs.Seen.{CatalogView, hist}
use Rattle.kq_catalog.proofs.Viewing.{fold_stands}
use Rattle.kq_catalog.proofs.catalog.Catalog.stage_fold.Goals as goal

pub view_cursor-cursor-requires : goal.view_cursor-cursor-requires
view_cursor-cursor-requires c =
    let same : c.deref.result.now ≡ c.args.self.now = search rules in
    subst (λ (w : CatalogView). c.args.view < view_count (log w.history)) (sym same) (fold_stands (hist c.args.self.now) c.args.view c.args.to c.args.part c.requires).0
