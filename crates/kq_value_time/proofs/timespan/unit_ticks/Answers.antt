use Rattle.std.proofs.Common.{refl, arith}
use Rattle.kq_value_time.proofs.TimespanLemmas.{microsecond_is}
use Rattle.kq_value_time.proofs.timespan.unit_ticks.Goals as goal

pub returns-in-microsecond-clause-value : goal.returns-in-microsecond-clause-value
returns-in-microsecond-clause-value c =
    let word = microsecond_is c.args.unit.now (omega arith) (omega arith) (omega arith) (omega arith) (omega arith) (omega arith) (omega arith) (omega arith) (omega arith) (omega arith) (omega arith) (omega arith) in
    rw word refl
