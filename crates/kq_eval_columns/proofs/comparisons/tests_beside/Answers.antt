use Rattle.kq_eval_columns.proofs.comparisons.tests_beside.Goals as goal

pub returns-in-Some : goal.returns-in-Some
returns-in-Some c = rw c.in-Some.ensures c.tests_of_cells.ensures

pub returns-in-Some-words : goal.returns-in-Some-words
returns-in-Some-words c = rw c.in-Some-words.ensures c.tests_of_words.ensures
