use Rattle.std.proofs.Common.{◌≡◌, ℕ, map, nat_eq, ap, ◌∙◌}
use Rattle.kq_catalog_journal.specs.Records.{small_items}
use Rattle.kq_catalog.specs.Held.{extent_item}
use Rattle.kq_catalog.proofs.Merged.{front_some}
use Rattle.kq_catalog.proofs.state.State.comes_first.Goals as goal

pub returns-then-not-is_empty : goal.returns-then-not-is_empty
returns-then-not-is_empty c =
    let items = small_items c.args.self.now.history c.args.table in
    let are : map extent_item c.small-small.result.now ≡ items = ap (map extent_item) c.small-small.ensures ∙ c.extents.ensures.items.small in
    ap (λ (n : ℕ). nat_eq n c.args.id) c.id.ensures ∙ front_some c.args.id c.small-small.result.now items c.get.result.now are c.get.ensures
