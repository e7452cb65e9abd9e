use Rattle.kq_run_parallel.proofs.halves.+fn-halves-join+arg2+fn-halves-join+arg3+halves.Given as goal

abbrev pub decreases-join+arg2 : goal.decreases-join+arg2
decreases-join+arg2 g l = l.fewer

abbrev pub decreases-join+arg3 : goal.decreases-join+arg3
decreases-join+arg3 g l = l.more

abbrev pub decreases-halves : goal.decreases-halves
decreases-halves g l = l.most
