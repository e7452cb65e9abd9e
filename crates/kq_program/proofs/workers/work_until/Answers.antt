use Rattle.std.proofs.Common.{inl, inr, refl}
use Rattle.kq_program.proofs.Working.{Passed-same, Passed-worked}
use Rattle.kq_program.proofs.workers.work_until.Goals as goal

pub returns-then-load : goal.returns-then-load
returns-then-load g c = record { passed = Passed-same _ _; worked = inl refl }

pub returns : goal.returns
returns g c = record { passed = Passed-worked _ _ _ _ _ _ c.work.ensures.pass; worked = inr (_, _, c.work.ensures.pass) }
