use Rattle.std.proofs.Common.{◌≡◌, ℕ, List, map}
use Rattle.std.specs.List.{range_with_len}
use Rattle.kq_value.specs.declared.value.Value.{Value}
use Rattle.kq_store_column_view.specs.Vectors.{cell_of, cells_of}
use Rattle.kq_run_plan.proofs.sorted.columns_of.Given as goal

abbrev pub invariant-loop-j : goal.invariant-loop-j
invariant-loop-j g l = map cells_of l.columns.items ≡ map (λ (j : ℕ). map (λ (r : List Value). cell_of r j) (g.R.Relation.rows l.piece)) (range_with_len 0 l.j)
