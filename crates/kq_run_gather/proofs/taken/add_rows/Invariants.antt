use Rattle.std.proofs.Common.{◌≡◌, ◌++◌, [], ℕ, List, take}
use Rattle.std.specs.List.{All}
use Rattle.kq_value.specs.Computed.{Is, each}
use Rattle.kq_plan_expressions.specs.Terms.{term_of}
use Rattle.kq_run_scan.specs.kq_eval_row.Val.{Surroundings, meaning}
use Rattle.kq_run_sort.specs.Leading.{Lead}
use Rattle.kq_plan.specs.Plans.{sorting_of}
use Rattle.kq_store_rows.specs.Chunks.{HasWidth}
use Rattle.kq_value.specs.declared.value.Value.{Value}
use Rattle.kq_store_column_view.specs.Vectors.{cells_of}
use Rattle.kq_run_gather.proofs.taken.add_rows.Given as goal

abbrev pub invariant-loop-i : goal.invariant-loop-i
invariant-loop-i g l = record {
  lead : (n : ℕ) (s : Surroundings) (all : List (List Value)) → each (meaning (term_of l.key.value) s) (g.R.Relation.rows l.piece) ≡ Is (cells_of l.values) → Lead n (sorting_of l.key) s all l.fn.leaders
      → Lead n (sorting_of l.key) s (all ++ take l.i (g.R.Relation.rows l.piece)) l.leaders;
  wide : (w : ℕ) → All (HasWidth w) l.fn.leaders.rows → All (HasWidth w) (g.R.Relation.rows l.piece) → All (HasWidth w) l.leaders.rows;
  none : l.row.items ≡ [];
}
