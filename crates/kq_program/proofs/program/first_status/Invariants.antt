use Rattle.std.proofs.Common.{◌≡◌, drop}
use Rattle.kq_program.specs.Headline.{first_status}
use Rattle.kq_program.proofs.program.first_status.Given as goal

-- what is left has the answer of the whole
abbrev pub invariant-loop-session : goal.invariant-loop-session
invariant-loop-session g l = first_status (drop l.session-index l.sessions) ≡ first_status l.sessions
