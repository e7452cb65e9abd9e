use Rattle.std.proofs.Common.{◌+◌, ◌*◌}
use Rattle.kq_program.proofs.workers.+fn-serve_beside_workers-join+arg3+serve_beside_workers.Given as goal

abbrev pub decreases-join+arg3 : goal.decreases-join+arg3
decreases-join+arg3 g l = 2 * l.others + 1

abbrev pub decreases-serve_beside_workers : goal.decreases-serve_beside_workers
decreases-serve_beside_workers g l = 2 * l.workers
