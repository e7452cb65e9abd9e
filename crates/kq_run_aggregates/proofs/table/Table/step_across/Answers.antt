use Rattle.std.proofs.Common.{map}
use Rattle.kq_store_column_view.specs.Vectors.{cells_of}
use Rattle.kq_run_aggregates.specs.Across.{across}
use Rattle.kq_run_aggregates.specs.Holds.{chosen}
use Rattle.kq_run_aggregates.specs.Steps.{Steps}
use Rattle.kq_run_aggregates.specs.Tables.{choice_kind}
use Rattle.kq_run_aggregates.proofs.Changes.{ChangesAt-ok}
use Rattle.kq_run_aggregates.proofs.StepLemmas.{Steps-chosen}
use Rattle.kq_run_aggregates.proofs.table.Table.step_across.Goals as goal

pub returns-in-Chosen-clause-ok : goal.returns-in-Chosen-clause-ok
returns-in-Chosen-clause-ok c =
    let row = across (map cells_of c.args.columns.now) c.args.i in
    let within = rw c.in-Chosen.is at c.requires in
    rw c.in-Chosen.is
    (ChangesAt-ok chosen (Steps (choice_kind c.in-Chosen.choice) row) c.in-Chosen.rows.items c.args.group _ _ c.step_placed.result within c.index_mut.ensures.value
    c.step_placed.ensures.ok (λ e. rw e (Steps-chosen c.in-Chosen.choice _ row)))
