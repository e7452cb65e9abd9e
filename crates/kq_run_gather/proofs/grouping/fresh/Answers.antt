use Rattle.std.proofs.Common.{◌≡◌, ◌∙◌, IfOk, List, ap, drop, map, subst}
use Rattle.kq_run_groups.specs.Grouped.{AggregateShape as Aggregated}
use Rattle.kq_run_groups.specs.Groups.{Starts}
use Rattle.kq_plan.specs.Fits.{ty_of}
use Rattle.kq_plan.specs.Plans.{aggregating_of}
use Rattle.kq_value.specs.declared.schema.Field.{Field}
use Rattle.kq_run_gather.specs.Grouping.{under}
use Rattle.kq_run_gather.proofs.Arguments.{columns_behind}
use Rattle.kq_run_gather.proofs.grouping.fresh.Goals as goal

pub returns : goal.returns
returns c =
    let gs = map aggregating_of c.args.aggregates.now in
    let made : c.as_slice.result.now ≡ under gs (map ty_of (drop c.args.width c.args.columns.now)) = c.as_slice.ensures.value ∙ c.in_ok-made.ensures ∙ ap (λ (cs : List Field). under gs (map ty_of cs)) (columns_behind c.args.columns.now c.args.width) in
    subst (λ (as_made : List Aggregated). IfOk c.new.result (Starts c.args.width as_made)) made c.new.ensures
