-- What an exporter is due to answer.
use Rattle.std.specs.Prelude.{◌≡◌, ◌≢◌, ◌⊎◌, ◌+◌, ◌&&◌, ℕ, Bool, true, false, nat_eq, nat_lt, List, [], ◌∷◌, ◌++◌, length, Option, Some, None, Result, Ok, Err, MatchBool, if◌then◌else◌}
use Rattle.std.specs.List.{find, slice_get}
use Rattle.std.specs.Str.{bytes_eq}
use Rattle.kq_export_binder.specs.Bodies.{is_export_body}
use Rattle.kq_export_binder.specs.kq_bind_expressions.Verdicts.{Verdict}
use Rattle.kq_export_binder.specs.kq_view_body.Exports.{foreign_place}
use Rattle.kq_read_commands.specs.declared.columns.Identifier.{Identifier}
use Rattle.kq_read_commands.specs.declared.command.Export.{Export}
use Rattle.kq_read_commands.specs.declared.command.Export.TheVariants.{Define, Run}
use Rattle.kq_read_commands.specs.declared.definition.NewExport.{NewExport}
use Rattle.kq_export_ranges.specs.Exported.{RangeGives}
use Rattle.kq_export_ranges.specs.Exports.{ExportView, Exports, end_of, export_numbered, exported, is_named, no_exports}
use Rattle.kq_export_binder.specs.kq_bind_query.Queries.{query_bound}
use Rattle.kq_export_binder.specs.kq_bind_supported.Unsupported.{unsupported_query}
use Rattle.kq_read_grammar.specs.TabularViews.{query_of}
use Rattle.kq_export_ranges.specs.kq_catalog_journal.History.{History, NumberedTable, cursor, log, tables, table_numbered}
use Rattle.kq_export_ranges.specs.kq_run_plan.Outcome.{Outcome}
use Rattle.kq_export_ranges.specs.kq_run_plan.TheVariants as outcome
use Rattle.kq_plan.specs.Plans.{Planned}
use Rattle.kq_engine_query.specs.Answers.{refusal_by}
use Rattle.kq_engine_query.specs.Worlds.{known_in}
use Rattle.kq_reply.specs.declared.refusal.Refusal.{Refusal}
use Rattle.kq_reply.specs.declared.refusal.Refusal.TheVariants as refusals
use Rattle.kq_reply.specs.declared.reply.Reply.{Reply}
use Rattle.kq_reply.specs.declared.reply.Reply.TheVariants as replies
use Rattle.kq_reply.specs.Number.{kind_of, number_of}
use Rattle.kq_world.specs.Outside.{Rose}

-- ---- exporters

-- the exports of an exporter, and how often its artefacts have failed
pub record Holding : Type 0 where
  pub exports : Exports
  pub faults : ℕ

abbrev pub nothing_held : Holding
nothing_held = record { exports = no_exports; faults = 0 }

-- whether it serves, what it holds, and the history of the last snapshot that it was asked over
pub record ExporterView : Type 0 where
  pub serves : Bool
  pub holding : Holding
  pub seen : History

abbrev pub none_told : ExporterView
none_told = record { serves = false; holding = nothing_held; seen = [] }

-- the reply of an answer
abbrev pub reply_of : Result Reply Refusal → Reply
reply_of (Ok reply) = reply
reply_of (Err r) = replies.Refused r

-- the most exports
abbrev pub most_exports : ℕ
most_exports = 64

-- a refusal leaves the exports as they were
abbrev pub Refuses : Exports → Exports → Reply → Refusal → Type 0
Refuses old new reply r = (reply ≡ replies.Refused r) × (new ≡ old)

-- ---- definitions

-- the export that a definition makes over a table, of the plan that its body is bound to
abbrev pub made : NewExport → NumberedTable → Planned → ExportView
made e found p = record { name = e.name.text; source = e.table.text; table = found.number; columns = found.table.schema; body = p; text = e.query }

-- an export of the same table and of the same text
abbrev pub is_same : ExportView → ExportView → Bool
is_same old new = nat_eq old.table new.table && bytes_eq old.text new.text

-- the exports with one more, which has no ranges
abbrev pub defined_more : Exports → ExportView → Exports
defined_more x new = record x { defined = x.defined ++ new ∷ [] }

-- the exports as they are, where one of this name is the same; or with one more, where the name is new and there is room
abbrev pub unless_there : Exports → (at : ℕ) → ExportView → Option ExportView → Result Exports Refusal
unless_there x at new (Some old) = if is_same old new then Ok x else Err (refusals.Exists at)
unless_there x at new None = if nat_lt (length x.defined) most_exports then Ok (defined_more x new) else Err (refusals.Full most_exports)

abbrev pub named_so : Exports → NewExport → ExportView → Result Exports Refusal
named_so x e new = unless_there x e.name.at new (find (is_named e.name.text) x.defined)

abbrev pub bad_body : NewExport → Refusal
bad_body e = refusals.BadExport (foreign_place e.body.text e.table.text (query_of e.body.tree))

abbrev pub bound_so : Exports → NewExport → NumberedTable → Verdict Planned → Result Exports Refusal
bound_so x e found (Err fault) = Err (refusal_by fault)
bound_so x e found (Ok p) = if is_export_body e.table.text p then named_so x e (made e found p) else Err (bad_body e)

abbrev pub over_table : History → Exports → NewExport → Option NumberedTable → Result Exports Refusal
over_table h x e None = Err (refusals.Unknown e.table.at)
over_table h x e (Some found) = bound_so x e found (query_bound e.body.text (known_in h) (query_of e.body.tree))

-- the exports with this one, or the first refusal
abbrev pub defined_so : History → Exports → NewExport → Result Exports Refusal
defined_so h x e = over_table h x e (table_numbered e.table.text (tables (log h)))

-- the reply to a definition, and the exports then
abbrev pub TellsDefined : Exports → Exports → Reply → Result Exports Refusal → Type 0
TellsDefined old new reply (Ok x) = (reply ≡ replies.Exporting) × (new ≡ x)
TellsDefined old new reply (Err r) = Refuses old new reply r

-- ---- runs

-- the range up to a cursor is exported, of so many rows
abbrev pub IsRange : Exports → Exports → ℕ → ℕ → ℕ → Reply → Type 0
IsRange old new n to rows reply = (reply ≡ replies.Exported (end_of n old + 1) to rows) × (new ≡ exported old n to)

-- what the body gave was put and its range is exported, or the artefacts failed
abbrev pub TellsRange : Exports → Exports → ℕ → ℕ → Outcome → Reply → Type 0
TellsRange old new n to (outcome.Table ordered rows) reply = IsRange old new n to (length rows) reply ⊎ Refuses old new reply refusals.ArtefactFault
TellsRange old new n to (outcome.Cell v) reply = ⊥
TellsRange old new n to (outcome.Overflow stage) reply = Refuses old new reply (refusals.Overflow stage)
TellsRange old new n to (outcome.Full limit) reply = Refuses old new reply (refusals.Full limit)

-- the body of an export was run over the records that came since its last range
pub record RunsRange (h : History) (old new : Exports) (n : ℕ) (reply : Reply) : Type 0 where
  pub export : ExportView
  pub stands : slice_get old.defined n ≡ Some export
  pub outcome : Outcome
  pub gives : RangeGives (log h) export (end_of n old) (cursor h) outcome
  pub told : TellsRange old new n (cursor h) outcome reply

-- nothing came since
abbrev pub IsIdle : Exports → Exports → Reply → Type 0
IsIdle old new reply = (reply ≡ replies.Nothing) × (new ≡ old)

-- the export of this number was run, where anything came since its last range
abbrev pub RunsNumbered : History → Exports → Exports → Identifier → Reply → Option ℕ → Type 0
RunsNumbered h old new name reply None = Refuses old new reply (refusals.Unknown name.at)
RunsNumbered h old new name reply (Some n) = MatchBool (nat_eq (end_of n old) (cursor h)) (IsIdle old new reply) (RunsRange h old new n reply)

-- ---- answers

-- of an exporter that serves, to a body that is supported
abbrev pub Serves : History → Exports → Exports → Export → Reply → Type 0
Serves h old new (Define e) reply = TellsDefined old new reply (defined_so h old e)
Serves h old new (Run name) reply = RunsNumbered h old new name reply (export_numbered name.text old.defined)

-- of one that serves or doesn't
abbrev pub ServesOrNot : Bool → History → Exports → Exports → Export → Reply → Type 0
ServesOrNot true h old new asked reply = Serves h old new asked reply
ServesOrNot false h old new asked reply = Refuses old new reply refusals.NoExporter

-- the leftmost literal or word of a type in the body that isn't supported
abbrev pub unsupported_at : Export → Option ℕ
unsupported_at (Define e) = unsupported_query e.body.text (query_of e.body.tree)
unsupported_at (Run name) = None

abbrev pub IsDueBy : Bool → History → Exports → Exports → Export → Reply → Option ℕ → Type 0
IsDueBy serves h old new asked reply (Some at) = Refuses old new reply (refusals.Unsupported at)
IsDueBy serves h old new asked reply None = ServesOrNot serves h old new asked reply

-- the reply that is due over a history, of an exporter that serves or doesn't and has the old exports; it then has the new
abbrev pub IsExportDue : Bool → History → Exports → Exports → Export → Reply → Type 0
IsExportDue serves h old new asked reply = IsDueBy serves h old new asked reply (unsupported_at asked)

-- the same, or want of memory
abbrev pub AnswersAsked : Bool → History → Exports → Exports → Export → Reply → Type 0
AnswersAsked serves h old new asked reply = Refuses old new reply refusals.Memory ⊎ IsExportDue serves h old new asked reply

-- the reply says that the artefacts failed
abbrev pub tells_fault : Reply → Bool
tells_fault reply = nat_eq (kind_of reply) (number_of refusals.ArtefactFault)

-- the answer, and what is held then; the count of faults rises exactly where the reply says so
pub record AnswersHolding (serves : Bool) (h : History) (old new : Holding) (asked : Export) (reply : Reply) : Type 0 where
  pub due : AnswersAsked serves h old.exports new.exports asked reply
  pub caused : MatchBool (tells_fault reply) (Rose old.faults new.faults) (new.faults ≡ old.faults)

-- a refusal is due, other than that the artefacts failed
pub record IsRefusalDue (serves : Bool) (h : History) (held : Holding) (asked : Export) (r : Refusal) : Type 0 where
  pub holds : Exports
  pub due : IsExportDue serves h held.exports holds asked (replies.Refused r)
  pub no_fault : r ≢ refusals.ArtefactFault

-- an exporter's answer; it goes on to serve, or not to
pub record Answers (h : History) (old new : ExporterView) (asked : Export) (reply : Reply) : Type 0 where
  pub serves : new.serves ≡ old.serves
  pub answers : AnswersHolding old.serves h old.holding new.holding asked reply
