-- Small cascades, computed from the definition.
use Rattle.std.proofs.Common.{◌≡◌, ◌≤◌, ℕ, Bool, true, false, List, [], ◌∷◌, Ok, Err, length, nat_eq, refl, lit<, MatchBool}
use Rattle.kq_plan.specs.declared.plan.Plan.{Plan}
use Rattle.kq_catalog_journal.specs.declared.batch.Batch.{Batch}
use Rattle.kq_catalog_journal.specs.declared.batch.Failure.{Failure}
use Rattle.kq_store_rows.specs.declared.cause.Cause.{Cause}
use Rattle.kq_store_rows.specs.declared.cause.Cause.TheVariants as causes
use Rattle.kq_catalog_journal.specs.declared.policy.Entry.{Entry}
use Rattle.kq_catalog_journal.specs.Derived.{Row, Queries, Made, Failed, gave_none, first, no_more, ended, goes_on, fails, gives, IsDerived}
use Rattle.kq_catalog_journal.specs.Force.{Rules}

entry : Plan → ℕ → Bool → Entry
entry plan source transactional = record { source = source; enabled = true; transactional = transactional; propagate = false; plan = plan; text = [] }

-- three tables: the second takes the rows of the first, the third those of the second, of which its query overflows
rules : Plan → Bool → Rules
rules plan transactional = record { columns = λ t. []; policies = [] ∷ (entry plan 0 transactional ∷ []) ∷ (entry plan 1 true ∷ []) ∷ [] }

overflows : Cause
overflows = causes.Overflow 2

asks : Queries
asks d rows o = MatchBool (nat_eq d.target 1) (o ≡ Ok rows) (o ≡ Err overflows)

own : List Row → Batch
own rows = record { table = 0; rows = rows; tags = [] }

failure : Failure
failure = record { source = 0; target = 1; failed = 2; cause = overflows }

-- the failure is noted once, by the entry that isn't transactional, and nothing of its cascade is left
noted_once : (plan : Plan) (rows : List Row) → length rows ≤ 1048576 → IsDerived 1024 (rules plan false) asks (own rows) (Made (own rows ∷ []) (failure ∷ []))
unfolding entry rules overflows asks own failure
noted_once plan rows few = record {
  queries = 2;
  comes = first (goes_on (lit< tt) (gives rows refl few (first (ended (lit< tt) (fails (gave_none refl)) refl))) refl no_more);
}

-- where both are transactional, the batch fails, by the query that failed
fails_whole : (plan : Plan) (rows : List Row) → length rows ≤ 1048576 → IsDerived 1024 (rules plan true) asks (own rows) (Failed 2 overflows)
unfolding entry rules overflows asks own failure
fails_whole plan rows few = record {
  queries = 2;
  comes = first (ended (lit< tt) (gives rows refl few (first (ended (lit< tt) (fails (gave_none refl)) refl))) refl);
}
