-- Commits that set policies.
use Rattle.std.specs.Prelude.{◌<◌, ℕ}
use Rattle.kq_catalog_journal.specs.declared.event.Commit.{Commit}
use Rattle.kq_catalog_journal.specs.declared.event.Commit.TheVariants.{CreateTable, SetPolicy, CreateView, AlterMerge, Ingest}

-- where it sets a policy, that is one of so many tables'
abbrev pub SetsStanding : ℕ → Commit → Type 0
SetsStanding count (CreateTable name schema) = Unit {0}
SetsStanding count (SetPolicy table entries) = table < count
SetsStanding count (CreateView view) = Unit {0}
SetsStanding count (AlterMerge table columns) = Unit {0}
SetsStanding count (Ingest batches failures) = Unit {0}
