use Rattle.std.proofs.Common.{rules, ◌≡◌, None, ap, sym, ◌∙◌}
use Rattle.std.specs.Option.{option_copied, option_map}
use Rattle.kq_catalog_journal.specs.History.{log, tables, NumberedTable}
use Rattle.kq_catalog_journal.proofs.Tables.{table_numbered-named}
use Rattle.kq_engine_prepare.proofs.changes.table_of.Goals as goal

pub returns-in_err-_number : goal.returns-in_err-_number
returns-in_err-_number c =
    let ts = tables (log c.args.snapshot.now.history) in
    let empty : option_copied c.from_residual.result ≡ None = search rules in
    empty ∙ sym (table_numbered-named c.args.name.now ts ∙ ap (option_map (λ (n : NumberedTable). n.table)) c.in_err-_number.ensures)

pub returns : goal.returns
returns c =
    let ts = tables (log c.args.snapshot.now.history) in
    sym (table_numbered-named c.args.name.now ts ∙ ap (option_map (λ (n : NumberedTable). n.table)) c.in_ok-_number.ensures)
