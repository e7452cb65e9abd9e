use Rattle.kq_run_aggregates.specs.Holds.{counted, summed, extreme, chosen, collected}
use Rattle.kq_run_aggregates.specs.Steps.{MayRefuse, Steps}
use Rattle.kq_run_aggregates.specs.Tables.{side_kind, choice_kind}
use Rattle.kq_run_aggregates.specs.declared.kind.Kind.TheVariants as kind
use Rattle.kq_run_aggregates.proofs.Changes.{ChangesAt-ok, Unchanged-err}
use Rattle.kq_run_aggregates.proofs.StepLemmas.{Steps-count, Steps-sum, Steps-extreme, Steps-chosen, Steps-set}
use Rattle.kq_run_aggregates.proofs.table.Table.step_from.Goals as goal

pub returns-in-Counts-clause-ok : goal.returns-in-Counts-clause-ok
returns-in-Counts-clause-ok c =
    let within = rw c.in-Counts.is at c.requires.within in
    rw c.in-Counts.is
    (ChangesAt-ok counted (Steps kind.Count c.args.args.now) c.in-Counts.counts.items c.args.group _ _ c.step.result within c.index_mut.ensures.value
    c.step.ensures.ok (λ e. rw e (Steps-count _ c.args.args.now)))

pub returns-in-Sums-clause-ok : goal.returns-in-Sums-clause-ok
returns-in-Sums-clause-ok c =
    let within = rw c.in-Sums.is at c.requires.within in
    rw c.in-Sums.is
    (ChangesAt-ok summed (Steps kind.Sum c.args.args.now) c.in-Sums.sums.items c.args.group _ _ c.step-in-Sums.result within c.index_mut-in-Sums.ensures.value
    c.step-in-Sums.ensures.ok (λ e. rw e (Steps-sum _ _ c.args.args.now c.requires.first)))

pub returns-in-Extremes-clause-ok : goal.returns-in-Extremes-clause-ok
returns-in-Extremes-clause-ok c =
    let within = rw c.in-Extremes.is at c.requires.within in
    rw c.in-Extremes.is
    (ChangesAt-ok extreme (Steps (side_kind c.in-Extremes.side) c.args.args.now) c.in-Extremes.values.items c.args.group _ _ c.step_value.result within c.index_mut-in-Extremes.ensures.value
    c.step_value.ensures.ok (λ e. rw e (Steps-extreme c.in-Extremes.side _ _ c.args.args.now c.requires.first)))

pub returns-in-Chosen-clause-ok : goal.returns-in-Chosen-clause-ok
returns-in-Chosen-clause-ok c =
    let within = rw c.in-Chosen.is at c.requires.within in
    rw c.in-Chosen.is
    (ChangesAt-ok chosen (Steps (choice_kind c.in-Chosen.choice) c.args.args.now) c.in-Chosen.rows.items c.args.group _ _ c.step_row.result within c.index_mut-in-Chosen.ensures.value
    c.step_row.ensures.ok (λ e. rw e (Steps-chosen c.in-Chosen.choice _ c.args.args.now)))

pub returns-in-Sets-clause-ok : goal.returns-in-Sets-clause-ok
returns-in-Sets-clause-ok c =
    let within = rw c.in-Sets.is at c.requires.within in
    rw c.in-Sets.is
    (ChangesAt-ok collected (Steps (kind.MakeSet c.in-Sets.most) c.args.args.now) c.in-Sets.sets.items c.args.group _ _ c.step-in-Sets.result within c.index_mut-in-Sets.ensures.value
    c.step-in-Sets.ensures.ok (λ e. rw e (Steps-set c.in-Sets.most _ _ c.args.args.now c.requires.first)))

pub returns-in-Counts-clause-err : goal.returns-in-Counts-clause-err
returns-in-Counts-clause-err c =
    let within = rw c.in-Counts.is at c.requires.within in
    rw c.in-Counts.is
    (Unchanged-err counted MayRefuse c.in-Counts.counts.items c.args.group _ _ c.step.result within c.index_mut.ensures.value c.step.ensures.err (λ e. e))

pub returns-in-Sums-clause-err : goal.returns-in-Sums-clause-err
returns-in-Sums-clause-err c =
    let within = rw c.in-Sums.is at c.requires.within in
    rw c.in-Sums.is
    (Unchanged-err summed MayRefuse c.in-Sums.sums.items c.args.group _ _ c.step-in-Sums.result within c.index_mut-in-Sums.ensures.value c.step-in-Sums.ensures.err (λ e. e))

pub returns-in-Extremes-clause-err : goal.returns-in-Extremes-clause-err
returns-in-Extremes-clause-err c =
    let within = rw c.in-Extremes.is at c.requires.within in
    rw c.in-Extremes.is
    (Unchanged-err extreme MayRefuse c.in-Extremes.values.items c.args.group _ _ c.step_value.result within c.index_mut-in-Extremes.ensures.value c.step_value.ensures.err (λ e. (e, tt)))

pub returns-in-Chosen-clause-err : goal.returns-in-Chosen-clause-err
returns-in-Chosen-clause-err c =
    let within = rw c.in-Chosen.is at c.requires.within in
    rw c.in-Chosen.is
    (Unchanged-err chosen MayRefuse c.in-Chosen.rows.items c.args.group _ _ c.step_row.result within c.index_mut-in-Chosen.ensures.value c.step_row.ensures.err (λ e. (e, tt)))

pub returns-in-Sets-clause-err : goal.returns-in-Sets-clause-err
returns-in-Sets-clause-err c =
    let within = rw c.in-Sets.is at c.requires.within in
    rw c.in-Sets.is
    (Unchanged-err collected MayRefuse c.in-Sets.sets.items c.args.group _ _ c.step-in-Sets.result within c.index_mut-in-Sets.ensures.value c.step-in-Sets.ensures.err (λ e. (e, tt)))
