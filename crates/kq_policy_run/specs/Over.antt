-- What comes of a batch over a snapshot.
use Rattle.std.specs.Prelude.{ℕ, List}
use Rattle.kq_policy_cascade.specs.declared.running.CascadeFault.{CascadeFault}
use Rattle.kq_policy_cascade.specs.declared.running.Derived.{Derived}
use Rattle.kq_policy_cascade.specs.Makes.{Makes, RefusesBy}
use Rattle.kq_catalog.specs.Seen.{SnapshotView}
use Rattle.kq_value.specs.Computed.{Computed}
use Rattle.kq_catalog_journal.specs.declared.batch.Batch.{Batch}
use Rattle.kq_catalog_journal.specs.Beside.{DueGives, TableBeside}
use Rattle.kq_catalog_journal.specs.Derived.{Row}
use Rattle.kq_catalog_journal.specs.History.{Log, log, table_numbered, tables}
use Rattle.kq_catalog_journal.specs.Policies.{rules}
use Rattle.kq_value.specs.declared.schema.Field.{Field}

-- what a cascade by the policies that stand there may make of a batch, and why it may make nothing of it
abbrev pub MakesOver : SnapshotView → Batch → Derived → Type 0
MakesOver s own = Makes s.limits.cascade (rules (log s.history)) (DueGives (log s.history)) own

abbrev pub RefusesOver : SnapshotView → Batch → CascadeFault → Type 0
RefusesOver s own = RefusesBy s.limits.cascade (rules (log s.history)) (DueGives (log s.history)) own

-- what the table of a name may give under these columns, beside a batch of the source
abbrev pub GivesBeside : Log → ℕ → List Row → List ℕ → List Field → Computed (List Row) → Type 0
GivesBeside l source batch said columns = TableBeside l source batch columns (table_numbered said (tables l))
