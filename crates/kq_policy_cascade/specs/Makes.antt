-- What the cascade of a batch answers.
use Rattle.std.specs.Prelude.{◌≡◌, ℕ, List, All, Contains, length}
use Rattle.kq_catalog_journal.specs.declared.batch.Batch.{Batch}
use Rattle.kq_policy_cascade.specs.declared.running.CascadeFault.{CascadeFault}
use Rattle.kq_policy_cascade.specs.declared.running.CascadeFault.TheVariants.{PolicyFailed, Full, Memory}
use Rattle.kq_policy_cascade.specs.declared.running.Derived.{Derived}
use Rattle.kq_catalog_journal.specs.declared.policy.Due.{Due}
use Rattle.kq_catalog_journal.specs.Derived.{Comes, IsDerived, Queries, Made, Failed, TooMany}
use Rattle.kq_catalog_journal.specs.Force.{Rules}
use Rattle.kq_catalog_journal.specs.Typed.{IsTyped}

-- what the queries of these entries may give, and those of no others
abbrev pub among : List Due → Queries → Queries
among asked q d rows o = Contains asked d × q d rows o

-- batches and failures that the batch may come to by the queries of the entries that were asked, as many as these are, whatever any other gives
pub record Makes (limit : ℕ) (r : Rules) (q : Queries) (own : Batch) (d : Derived) : Type 0 where
  pub comes : Comes limit r (among d.asked.items q) own 0 (Made d.batches.items d.failures) (length d.asked.items)
  pub typed : All (IsTyped r.columns) d.batches.items

-- the batch may come to nothing, for this fault
abbrev pub RefusesBy : ℕ → Rules → Queries → Batch → CascadeFault → Type 0
RefusesBy limit r q own (PolicyFailed target cause) = IsDerived limit r q own (Failed target cause)
RefusesBy limit r q own (Full most) = (most ≡ limit) × IsDerived limit r q own TooMany
RefusesBy limit r q own Memory = Unit {0}
