use Rattle.std.proofs.Common.{◌≤◌, ◌+◌, length}
use Rattle.kq_catalog_journal.specs.History.{log}
use Rattle.kq_catalog_journal.specs.Policies.{policies, with_policy}
use Rattle.kq_policy_entries.specs.Search.{unmarked}
use Rattle.kq_policy_entries.proofs.Searching.{Searches}
use Rattle.kq_policy_entries.proofs.cycle.closes_cycle.Given as goal

-- each round takes one of the open tables, and a table is opened once
abbrev pub invariant-loop : goal.invariant-loop
invariant-loop l = record {
  searches : Searches (with_policy l.target l.entries (policies (log l.snapshot.history))) l.target l.marked.items l.open.items;
  left : unmarked l.marked.items + length l.open.items + l.counter ≤ l.count + 1;
}
