use Rattle.kq_read_queries.proofs.pipes.+read_tabular.Given as goal

abbrev pub decreases-read_tabular : goal.decreases-read_tabular
decreases-read_tabular l = l.budget
