-- What staging gives.
use Rattle.std.specs.Prelude.{◌≡◌, [], ◌∷◌, ◌++◌}
use Rattle.kq_catalog_journal.specs.declared.event.Event.{Event}
use Rattle.kq_catalog.specs.Seen.{CatalogView, StagedView, hist}

-- what will stand is what stands, and the event
pub record IsStaged (c : CatalogView) (event : Event) (staged : StagedView) : Type 0 where
  pub limits : staged.limits ≡ c.limits
  pub history : staged.history ≡ hist c ++ event ∷ []

-- it was staged on what stands
pub record IsNext (c : CatalogView) (next : StagedView) : Type 0 where
  pub event : Event
  pub staged : IsStaged c event next
