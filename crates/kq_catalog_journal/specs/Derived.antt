-- What comes of a batch by the update policies.
use Rattle.std.specs.Prelude.{◌≡◌, ◌≤◌, ◌<◌, ◌+◌, ℕ, Bool, true, false, List, [], ◌∷◌, ◌++◌, Result, Ok, Err, length, map, if◌then◌else◌}
use Rattle.kq_catalog_journal.specs.declared.batch.Batch.{Batch}
use Rattle.kq_catalog_journal.specs.declared.batch.Failure.{Failure}
use Rattle.kq_store_rows.specs.declared.cause.Cause.{Cause}
use Rattle.kq_store_rows.specs.declared.cause.Cause.TheVariants as causes
use Rattle.kq_value.specs.declared.schema.Field.{Field}
use Rattle.kq_value.specs.declared.value.Value.{Value}
use Rattle.kq_store_rows.specs.Widened.{widened}
use Rattle.kq_catalog_journal.specs.declared.policy.Due.{Due}
use Rattle.kq_catalog_journal.specs.Force.{Rules, in_force}

abbrev pub Row : Type 0
Row = List Value

-- what the query of an entry may give over a batch's rows: rows, or the cause for which it gives none
abbrev pub Queries : Type 1
Queries = Due → List Row → Result (List Row) Cause → Type 0

-- what comes of a batch: batches and failures, or the target and the cause of the query that failed it, or a query too many
pub data Cascade : Type 0 where
  Made : List Batch → List Failure → Cascade
  Failed : ℕ → Cause → Cascade
  TooMany : Cascade

-- the query of an entry fails by this cause: it gives none but the cause, or over 2^20 rows
pub data FailsBy (q : Queries) (d : Due) (rows : List Row) : Cause → Type 0 where
  gave_none : {cause : Cause} → q d rows (Err cause) → FailsBy q d rows cause
  gave_too_many : (given : List Row) → q d rows (Ok given) → 1048576 < length given → FailsBy q d rows (causes.Full 1048576)

-- the rows as a batch of the entry's target: widened to the target's columns, with the batch's tags where the entry propagate them
abbrev pub next_batch : (ℕ → List Field) → Batch → Due → List Row → Batch
next_batch columns b d rows = record { table = d.target; rows = map (widened (columns d.target)) rows; tags = if d.propagate then b.tags else [] }

-- whether what an entry came to ends the cascade of the batch that it was run for
abbrev pub ends : Due → Cascade → Bool
ends d (Made batches failures) = false
ends d (Failed target cause) = d.transactional
ends d TooMany = true

-- what is left of an entry that ended nothing: its batches and failures, or one failure in place of them
abbrev pub batches_of : Cascade → List Batch
batches_of (Made batches failures) = batches
batches_of (Failed target cause) = []
batches_of TooMany = []

abbrev pub failures_of : Batch → Due → Cascade → List Failure
failures_of b d (Made batches failures) = failures
failures_of b d (Failed target cause) = record { source = b.table; target = d.target; failed = target; cause = cause } ∷ []
failures_of b d TooMany = []

-- the same behind these batches and failures
abbrev pub after : List Batch → List Failure → Cascade → Cascade
after bs fs (Made batches failures) = Made (bs ++ batches) (fs ++ failures)
after bs fs (Failed target cause) = Failed target cause
after bs fs TooMany = TooMany

-- Comes b n o m: the batch b, before which n queries were run, comes to o, and m queries have been run then.
-- Follows b ds n o m: so do the entries ds that run for b, without b itself.
-- Leaves b d n o m: so does the one entry d, whose query is the n-th.
mutual
  pub data Comes (limit : ℕ) (r : Rules) (q : Queries) : Batch → ℕ → Cascade → ℕ → Type 0 where
    first : {b : Batch} {n m : ℕ} {o : Cascade} → Follows limit r q b (in_force r.policies b.table) n o m → Comes limit r q b n (after (b ∷ []) [] o) m

  pub data Follows (limit : ℕ) (r : Rules) (q : Queries) : Batch → List Due → ℕ → Cascade → ℕ → Type 0 where
    no_more : {b : Batch} {n : ℕ} → Follows limit r q b [] n (Made [] []) n
    too_many : {b : Batch} {d : Due} {ds : List Due} {n : ℕ} → limit ≤ n → Follows limit r q b (d ∷ ds) n TooMany n
    ended : {b : Batch} {d : Due} {ds : List Due} {n m : ℕ} {o : Cascade} → n < limit → Leaves limit r q b d (n + 1) o m → ends d o ≡ true → Follows limit r q b (d ∷ ds) n o m
    goes_on : {b : Batch} {d : Due} {ds : List Due} {n m k : ℕ} {o rest : Cascade} → n < limit → Leaves limit r q b d (n + 1) o m → ends d o ≡ false → Follows limit r q b ds m rest k → Follows limit r q b (d ∷ ds) n (after (batches_of o) (failures_of b d o) rest) k

  pub data Leaves (limit : ℕ) (r : Rules) (q : Queries) : Batch → Due → ℕ → Cascade → ℕ → Type 0 where
    fails : {b : Batch} {d : Due} {n : ℕ} {cause : Cause} → FailsBy q d b.rows cause → Leaves limit r q b d n (Failed d.target cause) n
    gives : {b : Batch} {d : Due} {n m : ℕ} {o : Cascade} (rows : List Row) → q d b.rows (Ok rows) → length rows ≤ 1048576 → Comes limit r q (next_batch r.columns b d rows) n o m → Leaves limit r q b d n o m

-- what may come of an ingestion's own batch
pub record IsDerived (limit : ℕ) (r : Rules) (q : Queries) (own : Batch) (o : Cascade) : Type 0 where
  pub queries : ℕ
  pub comes : Comes limit r q own 0 o queries
