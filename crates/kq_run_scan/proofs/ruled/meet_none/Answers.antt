use Rattle.std.proofs.Common.{refl}
use Rattle.kq_run_scan.proofs.LeftOut.{none_between, none_there}
use Rattle.kq_run_scan.proofs.ruled.meet_none.Goals as goal

pub returns-in-Some : goal.returns-in-Some
returns-in-Some c told =
    let records = c.args.records.now in
    none_between c.args.comparison records.fields.now records.extent.now c.in-Some.least.now c.in-Some.greatest.now (c.holds_texts.ensures c.if-holds_texts.false) c.in-Some.ensures.bounds (c.meets_none_between.ensures told)

pub returns-in-None : goal.returns-in-None
returns-in-None c told =
    let records = c.args.records.now in
    none_there c.args.comparison records.fields.now records.extent.now (c.holds_texts.ensures c.if-holds_texts.false) (c.in-None.ensures.none.0 refl)
