-- How much comes of a batch.
use Rattle.std.proofs.Common.{◌≤◌, ◌+◌, ℕ, List, [], ◌∷◌, length, arith}
use Rattle.std.proofs.lemmas.List.{length-append}
use Rattle.kq_catalog_journal.specs.declared.batch.Batch.{Batch}
use Rattle.kq_catalog_journal.specs.declared.batch.Failure.{Failure}
use Rattle.kq_catalog_journal.specs.declared.policy.Due.{Due}
use Rattle.kq_catalog_journal.specs.Derived.{Queries, Cascade, Made, Failed, TooMany, Comes, first, Follows, no_more, too_many, ended, goes_on, Leaves, fails, gives, after, batches_of, failures_of, next_batch, IsDerived}
use Rattle.kq_catalog_journal.specs.Force.{Rules, in_force}

count-after : (bs : List Batch) (fs : List Failure) (o : Cascade) → length (batches_of (after bs fs o)) ≤ length bs + length (batches_of o)
count-after bs fs (Made batches failures) = let n = length-append bs batches in omega (arith, n)
count-after bs fs (Failed target cause) = omega arith
count-after bs fs TooMany = omega arith

-- a batch besides the first for each query at most, and no more queries than the limit
mutual
  pub Comes-few : (limit : ℕ) (r : Rules) (q : Queries) (b : Batch) (n : ℕ) (o : Cascade) (m : ℕ) → Comes limit r q b n o m → length (batches_of o) + n ≤ m + 1
  Comes-few limit r q b n _ m (first {o = o} follows) =
      let more = Follows-few limit r q b (in_force r.policies b.table) n o m follows in let led = count-after (b ∷ []) [] o in omega (arith, more, led)

  pub Follows-few : (limit : ℕ) (r : Rules) (q : Queries) (b : Batch) (ds : List Due) (n : ℕ) (o : Cascade) (m : ℕ) → Follows limit r q b ds n o m → length (batches_of o) + n ≤ m
  Follows-few limit r q b _ n _ _ no_more = omega arith
  Follows-few limit r q b _ n _ _ (too_many full) = omega arith
  Follows-few limit r q b _ n o m (ended {d = d} room leaves end) = let few = Leaves-few limit r q b d (n + 1) o m leaves in omega (arith, few)
  Follows-few limit r q b _ n _ k (goes_on {d = d} {ds = ds} {m = m} {o = o} {rest = rest} room leaves open_ follows) =
      let few = Leaves-few limit r q b d (n + 1) o m leaves in
      let more = Follows-few limit r q b ds m rest k follows in
      let all = count-after (batches_of o) (failures_of b d o) rest in
      omega (arith, few, more, all)

  pub Leaves-few : (limit : ℕ) (r : Rules) (q : Queries) (b : Batch) (d : Due) (n : ℕ) (o : Cascade) (m : ℕ) → Leaves limit r q b d n o m → length (batches_of o) + n ≤ m + 1
  Leaves-few limit r q b d n _ _ (fails by) = omega arith
  Leaves-few limit r q b d n o m (gives rows gave few comes) = Comes-few limit r q (next_batch r.columns b d rows) n o m comes

mutual
  pub Comes-within : (limit : ℕ) (r : Rules) (q : Queries) (b : Batch) (n : ℕ) (o : Cascade) (m : ℕ) → n ≤ limit → Comes limit r q b n o m → m ≤ limit
  Comes-within limit r q b n _ m so_far (first {o = o} follows) = Follows-within limit r q b (in_force r.policies b.table) n o m so_far follows

  pub Follows-within : (limit : ℕ) (r : Rules) (q : Queries) (b : Batch) (ds : List Due) (n : ℕ) (o : Cascade) (m : ℕ) → n ≤ limit → Follows limit r q b ds n o m → m ≤ limit
  Follows-within limit r q b _ n _ _ so_far no_more = so_far
  Follows-within limit r q b _ n _ _ so_far (too_many full) = so_far
  Follows-within limit r q b _ n o m so_far (ended {d = d} room leaves end) = Leaves-within limit r q b d (n + 1) o m (omega (arith, room)) leaves
  Follows-within limit r q b _ n _ k so_far (goes_on {d = d} {ds = ds} {m = m} {o = o} {rest = rest} room leaves open_ follows) =
      Follows-within limit r q b ds m rest k (Leaves-within limit r q b d (n + 1) o m (omega (arith, room)) leaves) follows

  pub Leaves-within : (limit : ℕ) (r : Rules) (q : Queries) (b : Batch) (d : Due) (n : ℕ) (o : Cascade) (m : ℕ) → n ≤ limit → Leaves limit r q b d n o m → m ≤ limit
  Leaves-within limit r q b d n _ _ so_far (fails by) = so_far
  Leaves-within limit r q b d n o m so_far (gives rows gave few comes) = Comes-within limit r q (next_batch r.columns b d rows) n o m so_far comes

-- the ingestion's own batch and as many as the limit at most
pub IsDerived-few : (limit : ℕ) (r : Rules) (q : Queries) (own : Batch) (bs : List Batch) (fs : List Failure) → IsDerived limit r q own (Made bs fs) → length bs ≤ limit + 1
IsDerived-few limit r q own bs fs derived =
    let few = Comes-few limit r q own 0 (Made bs fs) derived.queries derived.comes in
    let within = Comes-within limit r q own 0 (Made bs fs) derived.queries (omega arith) derived.comes in
    omega (arith, few, within)
