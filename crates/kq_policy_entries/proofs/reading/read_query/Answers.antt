-- A refused text, and another command, are no query.
use Rattle.std.proofs.Common.{subst}
use Rattle.std.proofs.lemmas.Result.{err_from_is_err_and}
use Rattle.kq_policy_entries.proofs.reading.read_query.Goals as goal
use Rattle.kq_policy_entries.proofs.Texts.{refused_reads, control_reads}
use Rattle.kq_read_control.specs.ControlViews.{control_of, statement_of}
use Rattle.kq_read_control.specs.Statements.{IsStatement}

pub returns-in_err-query : goal.returns-in_err-query
returns-in_err-query c =
    let p = err_from_is_err_and c.from_residual.result c.from_residual.ensures.1 in
    rw (p.1, p.2) (refused_reads c.args.text.now c.in_err-query.field-0.0 c.in_err-query.ensures)

pub returns : goal.returns
returns c =
    control_reads c.args.text.now (control_of c.in-Control.field-0.value)
    (subst (λ s. IsStatement c.args.text.now (statement_of s)) c.in-Control.is c.in_ok-query.ensures)
