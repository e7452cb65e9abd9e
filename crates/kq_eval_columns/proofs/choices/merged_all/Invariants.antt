use Rattle.std.proofs.Common.{◌≡◌, length}
use Rattle.kq_store_column_view.specs.Vectors.{cells_of}
use Rattle.kq_eval_columns.specs.Seen.{merged_by}
use Rattle.kq_eval_columns.proofs.choices.merged_all.Given as goal

abbrev pub invariant-loop-branch : goal.invariant-loop-branch
invariant-loop-branch l = merged_by l.fn.branches.items (cells_of l.fn.last) ≡ merged_by l.before.items (cells_of l.whole)

abbrev pub decreases-loop-branch : goal.decreases-loop-branch
decreases-loop-branch l = length l.before.items
