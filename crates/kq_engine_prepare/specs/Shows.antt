-- The replies to what is shown of the catalogue.
use Rattle.std.specs.Prelude.{◌≡◌, ℕ, false, List, Option, Some, None}
use Rattle.kq_store_rows.specs.declared.answer.Answer.{Answer}
use Rattle.kq_catalog_journal.specs.History.{History, NumberedTable, log, tables, table_numbered}
use Rattle.kq_read_commands.specs.declared.columns.Identifier.{Identifier}
use Rattle.kq_read_commands.specs.declared.command.Show.{Show}
use Rattle.kq_read_commands.specs.declared.command.Show.TheVariants.{View, Failures, Extents, Journal}
use Rattle.kq_reply.specs.declared.refusal.Refusal.TheVariants as refusals
use Rattle.kq_reply.specs.declared.reply.Reply.{Reply}
use Rattle.kq_reply.specs.declared.reply.Reply.TheVariants as replies
use Rattle.kq_engine_show.specs.ExtentRows.{extent_columns, extent_rows}
use Rattle.kq_engine_prepare.specs.Folds.{view_number}
use Rattle.kq_engine_show.specs.ViewRows.{view_columns, view_rows}
use Rattle.kq_engine_show.specs.FailureRows.{failure_columns, failure_rows}
use Rattle.kq_engine_show.specs.JournalRows.{journal_columns, journal_rows}
use Rattle.kq_engine_query.specs.Printed.{PrintsAnswer}
use Rattle.kq_value.specs.declared.schema.Field.{Field}
use Rattle.kq_value.specs.declared.value.Value.{Value}
use Rattle.kq_value.specs.Same.{Same}

-- these rows under these columns, in any order
pub record IsShown (columns : List Field) (rows : List (List Value)) (answer : Answer) : Type 0 where
  pub headed : answer.schema ≡ columns
  pub unordered : answer.ordered ≡ false
  pub same : Same answer.rows rows

-- a view, or a name that no view has
abbrev pub ShowsView : History → Identifier → Option ℕ → Reply → Type 0
ShowsView h view None reply = reply ≡ replies.Refused (refusals.Unknown view.at)
ShowsView h view (Some number) reply = PrintsAnswer (IsShown view_columns (view_rows h number)) reply

-- a table with its extents, or a name that no table has
abbrev pub ShowsExtents : History → Identifier → Option NumberedTable → Reply → Type 0
ShowsExtents h table None reply = reply ≡ replies.Refused (refusals.Unknown table.at)
ShowsExtents h table (Some found) reply = PrintsAnswer (IsShown extent_columns (extent_rows h found.number)) reply

-- a show reads the history alone
abbrev pub AnswersShow : History → Show → Reply → Type 0
AnswersShow h (View view) reply = ShowsView h view (view_number h view) reply
AnswersShow h Failures reply = PrintsAnswer (IsShown failure_columns (failure_rows h)) reply
AnswersShow h (Extents table) reply = ShowsExtents h table (table_numbered table.text (tables (log h))) reply
AnswersShow h Journal reply = PrintsAnswer (IsShown journal_columns (journal_rows h)) reply
