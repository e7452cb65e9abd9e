use Rattle.kq_policy_cascade.proofs.Querying.{next-typed}
use Rattle.kq_policy_cascade.proofs.query.next_batch.Goals as goal

pub returns-clause-typed : goal.returns-clause-typed
returns-clause-typed g c =
    next-typed (g.T.Tables.rules c.args.tables.now).columns c.columns.result.now c.args.given c.in_ok-rows.rows c.args.due.target c.in_ok-tags_for.field-0 c.new.result c.new.ensures c.in_ok-rows.ensures c.columns.ensures c.requires
