-- The steps of a cascade in progress.
use Rattle.std.specs.Prelude.{◌≡◌, ◌≤◌, ◌<◌, ◌+◌, ℕ, Bool, true, false, List, [], ◌∷◌, ◌++◌, Option, Some, None, drop, length, nat_eq, slice_index_or, take}
use Rattle.std.specs.List.{filter}
use Rattle.kq_catalog_journal.specs.declared.batch.Batch.{Batch}
use Rattle.kq_catalog_journal.specs.declared.batch.Failure.{Failure}
use Rattle.kq_store_rows.specs.declared.cause.Cause.{Cause}
use Rattle.kq_catalog_journal.specs.declared.policy.Due.{Due}
use Rattle.kq_policy_cascade.specs.declared.progress.Progress.{Progress}
use Rattle.kq_policy_cascade.specs.declared.stack.Frame.{Frame}

-- the batch whose entries run, those below it, and the batches and failures so far
pub record State : Type 0 where
  pub top : Frame
  pub below : List Frame
  pub batches : List Batch
  pub failures : List Failure

abbrev pub state_of : Progress → State
state_of p = record { top = p.top; below = p.below; batches = p.batches.items; failures = p.failures.items }

abbrev pub no_batch : Batch
no_batch = record { table = 0; rows = []; tags = [] }

abbrev pub batch_at : List Batch → ℕ → Batch
batch_at batches own = slice_index_or batches own no_batch

abbrev pub no_due : Due
no_due = record { target = 0; place = 0; source = 0; transactional = false; propagate = false }

abbrev pub due_at : List Due → ℕ → Due
due_at dues at = slice_index_or dues at no_due

-- nothing but the ingestion's own batch
abbrev pub begun : Batch → State
begun own = record { top = record { own = 0; noted = 0; at = 0 }; below = []; batches = own ∷ []; failures = [] }

-- a batch that the entry which runs gave
abbrev pub opened : State → Batch → State
opened s b = record { top = record { own = length s.batches; noted = length s.failures; at = 0 }; below = s.top ∷ s.below; batches = s.batches ++ b ∷ []; failures = s.failures }

-- the entry that runs is done
abbrev pub advanced : Frame → Frame
advanced f = record f { at = f.at + 1 }

-- an entry failed for the batch whose entries run, by the query of an entry with this target
abbrev pub noted : State → Due → ℕ → Cause → State
noted s d target cause = record s { top = advanced s.top; failures = s.failures ++ record { source = (batch_at s.batches s.top.own).table; target = d.target; failed = target; cause = cause } ∷ [] }

-- the entries from a place on that run for a batch of the source
abbrev pub left : List Due → ℕ → ℕ → List Due
left dues source at = filter (λ (d : Due). nat_eq d.source source) (drop at dues)

-- the first of them stands at this place
pub record IsFirst (dues : List Due) (source at i : ℕ) : Type 0 where
  pub within : i < length dues
  pub runs : (due_at dues i).source ≡ source
  pub same : left dues source at ≡ left dues source i
  pub is : left dues source i ≡ due_at dues i ∷ left dues source (i + 1)

abbrev pub IsNext : List Due → ℕ → ℕ → Option ℕ → Type 0
IsNext dues source at None = left dues source at ≡ []
IsNext dues source at (Some i) = IsFirst dues source at i

-- the frame of a batch that stands before so many others, and which runs an entry, above others
pub record IsOn (dues : List Due) (f : Frame) (batches failures : ℕ) : Type 0 where
  pub own : f.own < batches
  pub noted : f.noted ≤ failures
  pub within : f.at < length dues

abbrev pub ArePiled : List Due → List Frame → ℕ → ℕ → Type 0
ArePiled dues [] batches failures = (batches ≡ 0) × (failures ≡ 0)
ArePiled dues (f ∷ frames) batches failures = IsOn dues f batches failures × ArePiled dues frames f.own f.noted

-- the frames stand upon one another, the lowest at the first batch
pub record IsLaid (dues : List Due) (s : State) : Type 0 where
  pub own : s.top.own < length s.batches
  pub noted : s.top.noted ≤ length s.failures
  pub below : ArePiled dues s.below s.top.own s.top.noted

-- batches whose entries all ran are left for the one below, until an entry is found that runs next, or there is none
pub data Settles (dues : List Due) (batches : List Batch) : Frame → List Frame → Option Due → Frame → List Frame → Type 0 where
  found : {f : Frame} {below : List Frame} (i : ℕ) → IsFirst dues (batch_at batches f.own).table f.at i → Settles dues batches f below (Some (due_at dues i)) (record f { at = i }) below
  none_left : {f : Frame} → left dues (batch_at batches f.own).table f.at ≡ [] → Settles dues batches f [] None f []
  resumed : {f g top : Frame} {below rest : List Frame} {next : Option Due} → left dues (batch_at batches f.own).table f.at ≡ [] → Settles dues batches (advanced g) below next top rest → Settles dues batches f (g ∷ below) next top rest

-- the failure of an entry for the batch of a frame
abbrev pub failure_at : List Due → ℕ → Cause → Frame → List Batch → Failure
failure_at dues target cause f batches = record { source = (batch_at batches f.own).table; target = (due_at dues f.at).target; failed = target; cause = cause }

-- batches whose transactional entry failed are dropped with all that came of them, down to an entry that isn't transactional, whose failure is noted,
-- or to none
pub data Falls (dues : List Due) (target : ℕ) (cause : Cause) : Frame → List Frame → List Batch → List Failure → Bool → State → Type 0 where
  notes : {f : Frame} {below : List Frame} {bs : List Batch} {fs : List Failure} → (due_at dues f.at).transactional ≡ false → Falls dues target cause f below bs fs true (record { top = advanced f; below = below; batches = bs; failures = fs ++ failure_at dues target cause f bs ∷ [] })
  drops : {f g : Frame} {below : List Frame} {bs : List Batch} {fs : List Failure} {noted : Bool} {s : State} → (due_at dues f.at).transactional ≡ true → Falls dues target cause g below (take f.own bs) (take f.noted fs) noted s → Falls dues target cause f (g ∷ below) bs fs noted s
  drops_all : {f : Frame} {bs : List Batch} {fs : List Failure} {s : State} → (due_at dues f.at).transactional ≡ true → Falls dues target cause f [] bs fs false s

abbrev pub FallsTo : List Due → ℕ → Cause → State → Bool → State → Type 0
FallsTo dues target cause s = Falls dues target cause s.top s.below s.batches s.failures
