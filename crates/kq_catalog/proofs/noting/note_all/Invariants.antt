use Rattle.std.proofs.Common.{◌≡◌, ◌++◌, map, take}
use Rattle.kq_catalog_journal.specs.Policies.{noted_at}
use Rattle.kq_catalog.proofs.noting.note_all.Given as goal

abbrev pub invariant-loop-failure : goal.invariant-loop-failure
invariant-loop-failure l = l.all ≡ l.initial.all ++ map (noted_at l.cursor) (take l.failure-index l.failures)
