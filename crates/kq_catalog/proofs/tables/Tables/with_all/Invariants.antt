use Rattle.std.proofs.Common.{◌≡◌}
use Rattle.kq_catalog.specs.Edits.{put_all}
use Rattle.kq_catalog.proofs.tables.Tables.with_all.Given as goal

abbrev pub invariant-loop-change : goal.invariant-loop-change
invariant-loop-change l = l.tables ≡ put_all l.self l.yielded
