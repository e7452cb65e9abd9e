use Rattle.std.proofs.Common.{length}
use Rattle.kq_run_groups.specs.Arguments.{rows_in}
use Rattle.kq_run_groups.proofs.Gathering.{Gathers-rows}
use Rattle.kq_run_groups.proofs.gathered.gather.Goals as goal

pub returns : goal.returns
returns c =
    Gathers-rows c.args.states.now c.lengthen.new.states c.take_in.new.states c.args.count c.args.numbers.now (rows_in (length c.args.numbers.now) c.args.argument.now) c.in_ok-lengthen.ensures c.requires.fewer
    c.take_in.ensures.shape c.in_ok-take_in.ensures.ok
