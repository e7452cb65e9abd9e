use Rattle.std.proofs.Common.{◌≡◌, length}
use Rattle.kq_eval_pieces.proofs.words.word_columns.Given as goal

abbrev pub invariant-loop-before : goal.invariant-loop-before
invariant-loop-before l = length l.columns.items ≡ l._before
