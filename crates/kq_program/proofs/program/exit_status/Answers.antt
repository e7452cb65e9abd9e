use Rattle.std.proofs.Common.{ap, sym}
use Rattle.kq_program.specs.Views.{RunView}
use Rattle.kq_program.proofs.program.exit_status.Goals as goal

pub returns-clause-ran : goal.returns-clause-ran
returns-clause-ran g c = (c.run.result, sym (ap (λ (r : RunView). r.status) c.result.view_is), c.run.ensures.run)
