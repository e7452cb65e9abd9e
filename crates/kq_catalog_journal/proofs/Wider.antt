-- What comes of a batch by some queries comes of it by all that may give as much.
use Rattle.std.proofs.Common.{◌+◌, ℕ, List, Result}
use Rattle.kq_catalog_journal.specs.declared.batch.Batch.{Batch}
use Rattle.kq_store_rows.specs.declared.cause.Cause.{Cause}
use Rattle.kq_catalog_journal.specs.declared.policy.Due.{Due}
use Rattle.kq_catalog_journal.specs.Derived.{Row, Queries, Cascade, FailsBy, gave_none, gave_too_many, Comes, first, Follows, no_more, too_many, ended, goes_on, Leaves, fails, gives, next_batch, IsDerived}
use Rattle.kq_catalog_journal.specs.Force.{Rules, in_force}

-- whatever the first queries may give, so may the second
abbrev pub Within : Queries → Queries → Type 0
Within q p = (d : Due) (rows : List Row) (given : Result (List Row) Cause) → q d rows given → p d rows given

pub FailsBy-wider : (q p : Queries) → Within q p → (d : Due) (rows : List Row) (cause : Cause) → FailsBy q d rows cause → FailsBy p d rows cause
FailsBy-wider q p within d rows cause (gave_none gave) = gave_none (within d rows _ gave)
FailsBy-wider q p within d rows _ (gave_too_many given gave many) = gave_too_many given (within d rows _ gave) many

mutual
  pub Comes-wider : (limit : ℕ) (r : Rules) (q p : Queries) → Within q p → (b : Batch) (n : ℕ) (o : Cascade) (m : ℕ) → Comes limit r q b n o m → Comes limit r p b n o m
  Comes-wider limit r q p within b n _ m (first {o = o} follows) = first (Follows-wider limit r q p within b (in_force r.policies b.table) n o m follows)

  pub Follows-wider : (limit : ℕ) (r : Rules) (q p : Queries) → Within q p → (b : Batch) (ds : List Due) (n : ℕ) (o : Cascade) (m : ℕ) → Follows limit r q b ds n o m → Follows limit r p b ds n o m
  Follows-wider limit r q p within b _ n _ _ no_more = no_more
  Follows-wider limit r q p within b _ n _ _ (too_many full) = too_many full
  Follows-wider limit r q p within b _ n o m (ended {d = d} room leaves end) = ended room (Leaves-wider limit r q p within b d (n + 1) o m leaves) end
  Follows-wider limit r q p within b _ n _ k (goes_on {d = d} {ds = ds} {m = m} {o = o} {rest = rest} room leaves open_ follows) =
      goes_on room (Leaves-wider limit r q p within b d (n + 1) o m leaves) open_ (Follows-wider limit r q p within b ds m rest k follows)

  pub Leaves-wider : (limit : ℕ) (r : Rules) (q p : Queries) → Within q p → (b : Batch) (d : Due) (n : ℕ) (o : Cascade) (m : ℕ) → Leaves limit r q b d n o m → Leaves limit r p b d n o m
  Leaves-wider limit r q p within b d n _ _ (fails {cause = cause} by) = fails (FailsBy-wider q p within d b.rows cause by)
  Leaves-wider limit r q p within b d n o m (gives rows gave few comes) = gives rows (within d b.rows _ gave) few (Comes-wider limit r q p within (next_batch r.columns b d rows) n o m comes)

-- the same of an ingestion's own batch
pub IsDerived-wider : (limit : ℕ) (r : Rules) (q p : Queries) → Within q p → (own : Batch) (o : Cascade) → IsDerived limit r q own o → IsDerived limit r p own o
IsDerived-wider limit r q p within own o derived = record { queries = derived.queries; comes = Comes-wider limit r q p within own 0 o derived.queries derived.comes }
