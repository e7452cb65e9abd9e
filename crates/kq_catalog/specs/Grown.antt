-- What stays the same of a catalogue that grows.
use Rattle.std.specs.Prelude.{ℕ, List, [], ◌∷◌}
use Rattle.kq_catalog_journal.specs.declared.limits.Limits.{Limits}

-- the limits, one after another
abbrev pub numbers_of : Limits → List ℕ
numbers_of limits = limits.tables ∷ limits.columns ∷ limits.views ∷ limits.policies ∷ limits.batch ∷ limits.cascade ∷ limits.commits ∷ []
