use Rattle.std.proofs.Common.{All, subst}
use Rattle.kq_store_rows.proofs.Typed.{same_width-typed}
use Rattle.kq_value.specs.Typed.{HasTypes}
use Rattle.kq_policy_cascade.specs.Given.{rows_given}
use Rattle.kq_policy_cascade.specs.declared.batch.Given.{Given}
use Rattle.kq_policy_cascade.proofs.batch.laid_out.Goals as goal

pub to_rows-requires : goal.to_rows-requires
to_rows-requires g c =
    let columns = (g.T.Tables.rules c.args.tables.now).columns c.args.table in
    same_width-typed columns c.in-Columns.columns (subst (λ (b : Given). All (HasTypes columns) (rows_given b)) c.in-Columns.is c.requires)
