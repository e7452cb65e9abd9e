-- What the query of one entry does to a cascade in progress.
use Rattle.std.specs.Prelude.{◌≡◌, ◌≤◌, ◌<◌, ℕ, true, false, List, Ok, All, length}
use Rattle.kq_catalog_journal.specs.declared.batch.Batch.{Batch}
use Rattle.kq_store_rows.specs.declared.cause.Cause.{Cause}
use Rattle.kq_policy_cascade.specs.declared.running.CascadeFault.{CascadeFault}
use Rattle.kq_policy_cascade.specs.declared.running.CascadeFault.TheVariants.{PolicyFailed, Full, Memory}
use Rattle.kq_catalog_journal.specs.declared.policy.Due.{Due}
use Rattle.kq_catalog_journal.specs.Derived.{Row, Queries, FailsBy, next_batch}
use Rattle.kq_catalog_journal.specs.Force.{Rules, IsStanding}
use Rattle.kq_policy_cascade.specs.Steps.{State, FallsTo, IsLaid, batch_at, due_at, opened}
use Rattle.kq_catalog_journal.specs.Typed.{IsTyped}

abbrev pub batch_of : State → Batch
batch_of s = batch_at s.batches s.top.own

-- the entry is the one that runs for the batch whose entries run
pub record IsReady (r : Rules) (dues : List Due) (d : Due) (s : State) : Type 0 where
  pub laid : IsLaid dues s
  pub within : s.top.at < length dues
  pub is : d ≡ due_at dues s.top.at
  pub source : d.source ≡ (batch_of s).table
  pub standing : IsStanding r.policies d
  pub typed : All (IsTyped r.columns) s.batches

-- its query gave the next batch
pub record Opens (r : Rules) (q : Queries) (d : Due) (s t : State) : Type 0 where
  pub given : List Row
  pub gave : q d (batch_of s).rows (Ok given)
  pub few : length given ≤ 1048576
  pub typed : IsTyped r.columns (next_batch r.columns (batch_of s) d given)
  pub is : t ≡ opened s (next_batch r.columns (batch_of s) d given)

-- its query failed, and an entry was left
pub record Notes (q : Queries) (dues : List Due) (d : Due) (s t : State) : Type 0 where
  pub cause : Cause
  pub fails : FailsBy q d (batch_of s).rows cause
  pub falls : FallsTo dues d.target cause s true t

pub data RunsDue (r : Rules) (q : Queries) (dues : List Due) (d : Due) (s t : State) : Type 0 where
  opens : Opens r q d s t → RunsDue r q dues d s t
  notes : Notes q dues d s t → RunsDue r q dues d s t

-- no entry is left
pub record FallsWhole (dues : List Due) (target : ℕ) (cause : Cause) (s : State) : Type 0 where
  pub state : State
  pub falls : FallsTo dues target cause s false state

abbrev pub FaultIsWhole : List Due → ℕ → Cause → State → CascadeFault → Type 0
FaultIsWhole dues target cause s (PolicyFailed t c) = (t ≡ target) × (c ≡ cause) × FallsWhole dues target cause s
FaultIsWhole dues target cause s (Full limit) = ⊥
FaultIsWhole dues target cause s Memory = Unit {0}

-- its query failed, and no entry was left
abbrev pub FailsWhole : Queries → List Due → Due → State → CascadeFault → Type 0
FailsWhole q dues d s (PolicyFailed target cause) = (target ≡ d.target) × FailsBy q d (batch_of s).rows cause × FallsWhole dues d.target cause s
FailsWhole q dues d s (Full limit) = ⊥
FailsWhole q dues d s Memory = Unit {0}
