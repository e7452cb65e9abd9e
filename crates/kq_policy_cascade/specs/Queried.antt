-- What the query of an entry gives.
use Rattle.std.specs.Prelude.{◌≤◌, List, Result, Ok, Err, length}
use Rattle.kq_store_rows.specs.declared.cause.Cause.{Cause}
use Rattle.kq_catalog_journal.specs.declared.policy.Due.{Due}
use Rattle.kq_policy_cascade.specs.declared.tables.QueryFault.{QueryFault}
use Rattle.kq_policy_cascade.specs.declared.tables.QueryFault.TheVariants.{Fails, Memory}
use Rattle.kq_catalog_journal.specs.Derived.{Row, Queries, FailsBy}

-- the call answers what the query may give, or tells want of memory
abbrev pub AnswersEntry : (Result (List Row) Cause → Type 0) → Result (List Row) QueryFault → Type 0
AnswersEntry may_give (Ok rows) = may_give (Ok rows)
AnswersEntry may_give (Err (Fails cause)) = may_give (Err cause)
AnswersEntry may_give (Err Memory) = Unit {0}

-- the same where the query fails also by too many rows
abbrev pub IsQueried : Queries → Due → List Row → Result (List Row) QueryFault → Type 0
IsQueried q d rows (Ok given) = q d rows (Ok given) × (length given ≤ 1048576)
IsQueried q d rows (Err (Fails cause)) = FailsBy q d rows cause
IsQueried q d rows (Err Memory) = Unit {0}
