use Rattle.std.proofs.Common.{[]}
use Rattle.std.proofs.lemmas.List.{length-map}
use Rattle.kq_run_aggregates.specs.Holds.{counted}
use Rattle.kq_run_aggregates.specs.Steps.{MayRefuse, Steps}
use Rattle.kq_run_aggregates.specs.declared.kind.Kind.TheVariants as kind
use Rattle.kq_run_aggregates.proofs.Changes.{ChangesAt-ok, Unchanged-err}
use Rattle.kq_run_aggregates.proofs.StepLemmas.{Steps-count}
use Rattle.kq_run_aggregates.proofs.columns.count_at.Goals as goal

pub returns-clause-ok : goal.returns-clause-ok
returns-clause-ok c =
    let counts = c.args.counts.now.items in
    ChangesAt-ok counted (Steps kind.Count []) counts c.args.group _ _ c.step.result (rw (length-map counts counted) c.requires) c.index_mut.ensures.value c.step.ensures.ok (λ e. rw e (Steps-count _ []))

pub returns-clause-err : goal.returns-clause-err
returns-clause-err c =
    let counts = c.args.counts.now.items in
    Unchanged-err counted MayRefuse counts c.args.group _ _ c.step.result (rw (length-map counts counted) c.requires) c.index_mut.ensures.value c.step.ensures.err (λ e. e)
