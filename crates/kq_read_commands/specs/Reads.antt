-- What a text reads as.
use Rattle.std.specs.Prelude.{◌≡◌, ⊤, ℕ, List, ◌∷◌, Option, Some, None, Result, Ok, Err}
use Rattle.std.specs.Option.{option_map}
use Rattle.std.specs.Str.{IsUtf8}
use Rattle.std.specs.Str.Lossy.{utf8_valid_len}
use Rattle.kq_read_commands.specs.declared.command.Asked.{Asked}
use Rattle.kq_read_commands.specs.declared.command.Asked.TheVariants.{Engine, Exporter}
use Rattle.kq_read_commands.specs.declared.command.Change.TheVariants.{CreateTable, AlterMerge, Ingest, CreateView, SetPolicy}
use Rattle.kq_read_commands.specs.declared.command.Command.{Command}
use Rattle.kq_read_commands.specs.declared.command.Command.TheVariants.{Query, Show, Change, Merge, Fold}
use Rattle.kq_read_commands.specs.declared.command.CommandFault.{CommandFault}
use Rattle.kq_read_commands.specs.declared.command.CommandFault.TheVariants as fault
use Rattle.kq_read_commands.specs.declared.command.Export.{Export}
use Rattle.kq_read_commands.specs.declared.command.Export.TheVariants.{Define, Run}
use Rattle.kq_read_commands.specs.declared.command.Show.TheVariants.{View, Failures, Extents, Journal}
use Rattle.kq_read_commands.specs.declared.ingestion.Ingestion.{Ingestion}
use Rattle.kq_read_commands.specs.Definitions.{IsExportOf, IsViewOf}
use Rattle.kq_read_commands.specs.Ingestions.{properties_of}
use Rattle.kq_read_commands.specs.Meanings.{identifier_of, columns_of, string_at}
use Rattle.kq_read_commands.specs.Rows.{rows_after}
use Rattle.kq_read_commands.specs.Unsupported.{unsupported}
use Rattle.kq_read_control.specs.ControlTrees.{PropertiesTree, ExportTree, ControlTree, create_table, alter_merge, ingest, show_extents, show_journal, merge, StatementTree, query, control, create_view, set_policy, show_view, show_failures, fold, export}
use Rattle.kq_read_control.specs.Statements.{IsStatement, IsRefusedText}
use Rattle.kq_read_grammar.specs.declared.expression.Name.{Name}
use Rattle.kq_read_grammar.specs.declared.expression.Name.TheVariants as name
use Rattle.kq_read_grammar.specs.TabularViews.{query_of}
use Rattle.kq_read_queries.specs.declared.asking.ParseFault.TheVariants as parse
use Rattle.kq_read_symbols.specs.declared.kind.Symbol.{Symbol}

-- ---- the commands other than queries

abbrev pub ingestion_of : List ℕ → Name → Option PropertiesTree → Symbol → Ingestion
ingestion_of text n ps t = record { table = identifier_of text n; properties = properties_of text ps; body = rows_after t.to text }

-- a command by its parts, where each column has a known type; none of a command with a query
abbrev pub control_command : List ℕ → ControlTree → Option Command
control_command text (create_table n cs) = option_map (λ columns. Change (CreateTable (identifier_of text n) columns)) (columns_of text (cs.0 ∷ cs.1))
control_command text (alter_merge n cs) = option_map (λ columns. Change (AlterMerge (identifier_of text n) columns)) (columns_of text (cs.0 ∷ cs.1))
control_command text (ingest n ps t) = Some (Change (Ingest (ingestion_of text n ps t)))
control_command text (create_view v) = None
control_command text (set_policy n t) = Some (Change (SetPolicy (identifier_of text n) (string_at text t)))
control_command text (show_view n) = Some (Show (View (identifier_of text n)))
control_command text show_failures = Some (Show Failures)
control_command text (show_extents n) = Some (Show (Extents (identifier_of text n)))
control_command text show_journal = Some (Show Journal)
control_command text (merge n) = Some (Merge (identifier_of text n))
control_command text (fold n) = Some (Fold (identifier_of text n))
control_command text (export t e) = None

-- an export, or a run of one
abbrev pub IsExport : List ℕ → Symbol → Option ExportTree → Export → Type 0
IsExport text t (Some e) (Define made) = IsExportOf text t e made
IsExport text t (Some e) (Run called) = ⊥
IsExport text t None asked = asked ≡ Run (identifier_of text (name.Word t))

-- a view and an export are told by what holds of them, since their queries are handed on as the code's trees
abbrev pub IsControlOf : List ℕ → ControlTree → Asked → Type 0
IsControlOf text (create_view v) (Engine (Change (CreateView view))) = IsViewOf text v view
IsControlOf text (create_view v) _ = ⊥
IsControlOf text (export t e) (Exporter asked) = IsExport text t e asked
IsControlOf text (export t e) (Engine command) = ⊥
IsControlOf text c (Engine command) = control_command text c ≡ Some command
IsControlOf text c (Exporter asked) = ⊥

-- A query is handed on with its text, whatever its form.
abbrev pub IsCommandOf : List ℕ → StatementTree → Asked → Type 0
IsCommandOf text (query q) (Engine (Query asked)) = (asked.text ≡ text) × (query_of asked.tree ≡ q)
IsCommandOf text (query q) _ = ⊥
IsCommandOf text (control c) asked = IsControlOf text c asked

-- ---- the answers

-- The text is that of a command, whose first unsupported symbol stands there.
pub record IsUnsupported (text : List ℕ) (place : ℕ) : Type 0 where
  pub statement : StatementTree
  pub is : IsStatement text statement
  pub found : unsupported text statement ≡ Some place

-- The text is that of a command, all of which is supported.
pub record IsCommand (text : List ℕ) (asked : Asked) : Type 0 where
  pub statement : StatementTree
  pub is : IsStatement text statement
  pub none_found : unsupported text statement ≡ None
  pub command_is : IsCommandOf text statement asked

-- what a text of UTF-8 reads as; want of memory is free
abbrev pub ReadsText : List ℕ → Result Asked CommandFault → Type 0
ReadsText text (Ok asked) = IsCommand text asked
ReadsText text (Err (fault.NotText place)) = ⊥
ReadsText text (Err (fault.Syntax place)) = IsRefusedText text (parse.Syntax place)
ReadsText text (Err (fault.Deep place)) = IsRefusedText text (parse.Deep place)
ReadsText text (Err (fault.Unsupported place)) = IsUnsupported text place
ReadsText text (Err fault.Memory) = ⊤

-- another text reads as its first byte that isn't UTF-8
abbrev pub ReadsAs : List ℕ → Result Asked CommandFault → Type 0
ReadsAs text (Err (fault.NotText place)) = ¬ (IsUtf8 text) × (place ≡ utf8_valid_len text)
ReadsAs text (Err fault.Memory) = ⊤
ReadsAs text result = IsUtf8 text × ReadsText text result
