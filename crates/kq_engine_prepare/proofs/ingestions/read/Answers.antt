use Rattle.std.proofs.Common.{◌≡◌, None, ap, sym, ◌∙◌}
use Rattle.kq_store_ingest.specs.Ingestion.{first_fault, rows_of}
use Rattle.kq_catalog_journal.specs.declared.limits.Limits.{Limits}
use Rattle.kq_catalog_journal.specs.History.{NumberedTable, log}
use Rattle.kq_engine_prepare.proofs.Keeping.{Offers-rows}
use Rattle.kq_engine_prepare.proofs.ingestions.read.Goals as goal

pub returns-in-Ok-clause-offers : goal.returns-in-Ok-clause-offers
returns-in-Ok-clause-offers c =
    let limits = c.args.snapshot.now.limits in
    let i = c.args.ingestion.now in
    let table : NumberedTable = record { number = c.args.number; table = c.args.table.now } in
    let so : c.in-Ok.rows ≡ rows_of table.table.schema i.properties.ignore_first i.body =
    c.in-Ok.ensures.rows ∙ ap (rows_of table.table.schema i.properties.ignore_first) c.as_str-body.ensures in
    let sound : first_fault table.table.schema i.properties.ignore_first limits.batch i.body ≡ None =
    ap (first_fault table.table.schema i.properties.ignore_first limits.batch) (sym c.as_str-body.ensures)
    ∙ ap (λ (x : Limits). first_fault table.table.schema i.properties.ignore_first x.batch c.as_str-body.result.now) (sym c.limits-limit.ensures) ∙ c.in-Ok.ensures.sound in
    Offers-rows limits (log c.args.snapshot.now.history) i table c.in-Ok.rows c.in_ok-labels.labels c.put_rows.result c.in_ok-labels.ensures so sound c.put_rows.ensures.offers
