use Rattle.std.proofs.Common.{◌≡◌, All, List, length, map, take, sym, ◌∙◌, ap, subst, arith}
use Rattle.kq_value.specs.Computed.{Is}
use Rattle.kq_catalog_journal.specs.Beside.{TableBeside}
use Rattle.kq_catalog_journal.specs.Derived.{Row}
use Rattle.kq_catalog_journal.specs.History.{NumberedTable, log, table_numbered, tables}
use Rattle.kq_catalog_journal.specs.Records.{schema_of}
use Rattle.kq_catalog_journal.proofs.Tables.{table_numbered-at}
use Rattle.kq_value.specs.declared.schema.Field.{Field}
use Rattle.kq_value.specs.Typed.{HasTypes}
use Rattle.kq_policy_run.proofs.Records.{of_given, schema_at, source_beside}
use Rattle.kq_policy_run.proofs.beside.table_beside.Goals as goal

pub batch_cut-requires : goal.batch_cut-requires
batch_cut-requires c =
    let l = log c.args.snapshot.now.history in
    let t = c.in-Some.table.now in
    let at = (table_numbered-at c.args.name.now (tables l) (record { number = c.in-Some.number; table = t }) c.in-Some.ensures).1 in
    let own : c.in-Some.number ≡ c.args.source = omega (arith, c.if-number-source.true) in
    let schema : schema_of l c.args.source ≡ t.schema = ap (schema_of l) (sym own) ∙ schema_at l c.in-Some.number t at in
    subst (λ (fs : List Field). All (HasTypes fs) c.args.batch.now.rows) schema c.requires.typed

pub records_cut-requires-clause-stands : goal.records_cut-requires-clause-stands
records_cut-requires-clause-stands c =
    (table_numbered-at c.args.name.now (tables (log c.args.snapshot.now.history)) (record { number = c.in-Some.number; table = c.in-Some.table.now }) c.in-Some.ensures).1

pub returns-then-number-source : goal.returns-then-number-source
returns-then-number-source c =
    let l = log c.args.snapshot.now.history in
    let columns = c.args.columns.now in
    let batch = c.args.batch.now.rows in
    let found : NumberedTable = record { number = c.in-Some.number; table = c.in-Some.table.now } in
    let own : c.in-Some.number ≡ c.args.source = omega (arith, c.if-number-source.true) in
    of_given c.batch_cut.result (map (take (length columns)) batch) (λ (rs : List Row). TableBeside l c.args.source batch columns (table_numbered c.args.name.now (tables l)) (Is rs)) c.batch_cut.ensures
    (source_beside l c.args.source batch c.args.name.now columns found c.in-Some.ensures c.requires.first own c.requires.typed)
