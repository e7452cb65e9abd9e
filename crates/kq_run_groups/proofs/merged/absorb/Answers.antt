use Rattle.std.proofs.Common.{map}
use Rattle.std.proofs.lemmas.Result.{on_ok_weaker}
use Rattle.kq_run_aggregates.specs.Steps.{kept_at}
use Rattle.kq_run_groups.proofs.Merging.{Absorbs-join}
use Rattle.kq_run_groups.proofs.merged.absorb.Goals as goal

pub returns : goal.returns
returns c = on_ok_weaker c.join.result
    (Absorbs-join c.args.states.now c.lengthen.new.states c.join.new.states c.args.count c.args.numbers.now (map (kept_at c.args.other.now.kept) c.args.places.now) c.in_ok-lengthen.ensures c.requires.fewer c.join.ensures.shape)
    c.join.ensures.ok
