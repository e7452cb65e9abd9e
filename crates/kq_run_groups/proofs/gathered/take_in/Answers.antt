use Rattle.std.proofs.Common.{List, length, map, subst}
use Rattle.std.specs.Prelude.{OnOk}
use Rattle.kq_run_aggregates.specs.Across.{rows_across}
use Rattle.kq_run_aggregates.specs.Steps.{TakesIn}
use Rattle.kq_store_column_view.specs.Vectors.{cells_of}
use Rattle.kq_store_column_view.specs.declared.vector.Vector.{Vector}
use Rattle.kq_run_groups.proofs.gathered.take_in.Goals as goal

pub returns-in-Columns-clause-ok : goal.returns-in-Columns-clause-ok
returns-in-Columns-clause-ok c =
    let old = c.args.states.now in
    let numbers = c.args.numbers.now in
    let taken = subst (λ (columns : List Vector). OnOk c.step_columns.result (TakesIn old.kind numbers (rows_across (length numbers) (map cells_of columns)) old.kept c.step_columns.new.self.kept)) c.as_slice.ensures.value c.step_columns.ensures.ok in
    rw c.in-Columns.is taken
