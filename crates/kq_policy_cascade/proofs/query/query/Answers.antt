use Rattle.std.proofs.Common.{subst, ◌<◌, length, arith}
use Rattle.kq_catalog_journal.specs.Derived.{gave_too_many}
use Rattle.kq_policy_cascade.specs.Queried.{AnswersEntry}
use Rattle.kq_policy_cascade.proofs.Querying.{Queried-err}
use Rattle.kq_policy_cascade.proofs.query.query.Goals as goal

pub returns-in-Ok-clause-answer : goal.returns-in-Ok-clause-answer
returns-in-Ok-clause-answer g c =
    let q = g.T.Tables.gives c.args.tables.now in
    let d = c.args.due in
    let rows = c.args.batch.now.rows in
    let many : 1048576 < length c.in-Ok.given = omega (arith, c.if-len-gt-MOST_ROWS.true, c.len.ensures.count) in
    gave_too_many c.in-Ok.given (subst (AnswersEntry (q d rows)) c.in-Ok.is c.run.ensures.answer) many

pub returns-in-Err-clause-answer : goal.returns-in-Err-clause-answer
returns-in-Err-clause-answer g c =
    let q = g.T.Tables.gives c.args.tables.now in
    Queried-err q c.args.due c.args.batch.now.rows c.in-Err.fault (subst (AnswersEntry (q c.args.due c.args.batch.now.rows)) c.in-Err.is c.run.ensures.answer)
