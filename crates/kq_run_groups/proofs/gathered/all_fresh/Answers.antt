use Rattle.std.proofs.Common.{arith}
use Rattle.std.proofs.lemmas.List.Elements.{All-push}
use Rattle.kq_run_groups.specs.Groups.{HasNoRows}
use Rattle.kq_run_groups.proofs.Gathering.{shapes_more}
use Rattle.kq_run_groups.proofs.gathered.all_fresh.Goals as goal

pub loop-aggregate-preserved : goal.loop-aggregate-preserved
loop-aggregate-preserved c =
    let states = c.loop-aggregate.all.items in
    let s = c.in_ok-fresh_states.field-0 in
    rw c.in_ok-push.ensures.items record {
      shapes = shapes_more states s c.args.aggregates.now c.loop-aggregate.aggregate-index c.aggregate-item.result (omega arith) c.aggregate-item.is c.in_ok-fresh_states.ensures.shape c.loop-aggregate.invariant.shapes;
      fresh = All-push (HasNoRows c.args.count) states s c.loop-aggregate.invariant.fresh c.in_ok-fresh_states.ensures.fresh;
    }
