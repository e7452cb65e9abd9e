use Rattle.std.proofs.lemmas.Result.{err_from_is_err_and}
use Rattle.kq_catalog_journal.specs.History.{NumberedTable}
use Rattle.kq_export_run.proofs.Defining.{defines_refused}
use Rattle.kq_export_run.proofs.exporter.ArtefactExporter.define.Goals as goal

pub returns-in_err-definition : goal.returns-in_err-definition
returns-in_err-definition g c =
    let found : NumberedTable = record { number = c.in-Some.number; table = c.in-Some.stood.now } in
    let p = err_from_is_err_and c.from_residual.result c.from_residual.ensures.1 in
    let r = c.in_err-definition.field-0.0 in
    rw (p.1, p.2) (defines_refused c.args.snapshot.now.history c.args.self.now c.args.export.now found c.in-Some.ensures r c.in_err-definition.ensures.refused)
