use Rattle.std.proofs.Common.{rules, w64, FitsSigned}
use Rattle.std.proofs.lemmas.Int.{to_z-of_z}
use Rattle.std.proofs.lemmas.List.{length-map}
use Rattle.kq_run_aggregates.specs.Alone.{alone, cell_as}
use Rattle.kq_run_aggregates.specs.Holds.{summed}
use Rattle.kq_run_aggregates.specs.Steps.{MayRefuse, Steps}
use Rattle.kq_run_aggregates.specs.declared.kind.Kind.TheVariants as kind
use Rattle.kq_run_aggregates.proofs.Changes.{ChangesAt-ok, Unchanged-err}
use Rattle.kq_run_aggregates.proofs.StepLemmas.{Steps-number}
use Rattle.kq_run_aggregates.proofs.columns.sum_at.Goals as goal

pub returns-clause-ok : goal.returns-clause-ok
returns-clause-ok c =
    let sums = c.args.sums.now.items in
    let fz : FitsSigned w64 c.args.number = search rules in
    let step = simp to_z-of_z at c.step_number.ensures.ok in
    ChangesAt-ok summed (Steps kind.Sum (alone (cell_as c.args.reading c.args.number))) sums c.args.group _ _ c.step_number.result (rw (length-map sums summed) c.requires) c.index_mut.ensures.value
    step (λ e. rw e (Steps-number c.args.reading _ c.args.number))

pub returns-clause-err : goal.returns-clause-err
returns-clause-err c =
    let sums = c.args.sums.now.items in
    Unchanged-err summed MayRefuse sums c.args.group _ _ c.step_number.result (rw (length-map sums summed) c.requires) c.index_mut.ensures.value c.step_number.ensures.err (λ e. e)
