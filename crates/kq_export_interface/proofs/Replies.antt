-- Which replies an exporter may give.
use Rattle.std.specs.Prelude.{MatchBool}
use Rattle.std.proofs.Common.{◌≡◌, ◌+◌, ℕ, Bool, true, false, List, length, nat_eq, subst, sym, inl, inr, Option, Some, None, Result, Ok, Err}
use Rattle.kq_read_commands.specs.declared.columns.Identifier.{Identifier}
use Rattle.kq_read_commands.specs.declared.command.Export.{Export}
use Rattle.kq_read_commands.specs.declared.command.Export.TheVariants.{Define, Run}
use Rattle.kq_export_ranges.specs.Exports.{Exports, end_of, export_numbered}
use Rattle.kq_export_ranges.specs.kq_catalog_journal.History.{History, cursor}
use Rattle.kq_export_ranges.specs.kq_run_plan.Outcome.{Outcome}
use Rattle.kq_export_ranges.specs.kq_run_plan.TheVariants as outcome
use Rattle.kq_reply.specs.declared.refusal.Refusal.{Refusal}
use Rattle.kq_reply.specs.declared.refusal.Refusal.TheVariants as refusals
use Rattle.kq_reply.specs.declared.reply.Reply.{Reply}
use Rattle.kq_reply.specs.declared.reply.Reply.TheVariants as replies
use Rattle.kq_export_interface.specs.Due.{AnswersAsked, IsDueBy, IsIdle, Refuses, RunsNumbered, RunsRange, Serves, TellsDefined, TellsRange, defined_so, unsupported_at}

-- a refusal, or a reply to a definition or a run of an export
abbrev pub IsOfExports : Reply → Type 0
IsOfExports (replies.Done cursor) = ⊥
IsOfExports (replies.Kept cursor) = ⊥
IsOfExports (replies.Ingested cursor rows) = ⊥
IsOfExports (replies.Skipped cursor) = ⊥
IsOfExports (replies.Folded cursor) = ⊥
IsOfExports (replies.Merged extents) = ⊥
IsOfExports replies.Nothing = Unit {0}
IsOfExports (replies.Rows text) = ⊥
IsOfExports replies.Exporting = Unit {0}
IsOfExports (replies.Exported from to rows) = Unit {0}
IsOfExports (replies.Refused r) = Unit {0}

refuses : (old new : Exports) (reply : Reply) (r : Refusal) → Refuses old new reply r → IsOfExports reply
refuses old new reply r told = subst IsOfExports (sym told.0) tt

tells_range : (old new : Exports) (n to : ℕ) (o : Outcome) (reply : Reply) → TellsRange old new n to o reply → IsOfExports reply
tells_range old new n to (outcome.Table ordered rows) reply (inl told) = subst IsOfExports (sym told.0) tt
tells_range old new n to (outcome.Table ordered rows) reply (inr told) = refuses old new reply refusals.ArtefactFault told
tells_range old new n to (outcome.Cell v) reply told = absurd told
tells_range old new n to (outcome.Overflow stage) reply told = refuses old new reply (refusals.Overflow stage) told
tells_range old new n to (outcome.Full limit) reply told = refuses old new reply (refusals.Full limit) told

runs_more : (h : History) (old new : Exports) (reply : Reply) (n : ℕ) (b : Bool) → MatchBool b (IsIdle old new reply) (RunsRange h old new n reply) → IsOfExports reply
runs_more h old new reply n true idle = subst IsOfExports (sym idle.0) tt
runs_more h old new reply n false runs = tells_range old new n (cursor h) runs.outcome reply runs.told

runs : (h : History) (old new : Exports) (name : Identifier) (reply : Reply) (o : Option ℕ) → RunsNumbered h old new name reply o → IsOfExports reply
runs h old new name reply None told = refuses old new reply (refusals.Unknown name.at) told
runs h old new name reply (Some n) told = runs_more h old new reply n (nat_eq (end_of n old) (cursor h)) told

defines : (old new : Exports) (reply : Reply) (v : Result Exports Refusal) → TellsDefined old new reply v → IsOfExports reply
defines old new reply (Ok x) told = subst IsOfExports (sym told.0) tt
defines old new reply (Err r) told = refuses old new reply r told

serves_so : (h : History) (old new : Exports) (asked : Export) (reply : Reply) → Serves h old new asked reply → IsOfExports reply
serves_so h old new (Define e) reply told = defines old new reply (defined_so h old e) told
serves_so h old new (Run name) reply told = runs h old new name reply (export_numbered name.text old.defined) told

due : (serves : Bool) (h : History) (old new : Exports) (asked : Export) (reply : Reply) (o : Option ℕ) → IsDueBy serves h old new asked reply o → IsOfExports reply
due serves h old new asked reply (Some at) told = refuses old new reply (refusals.Unsupported at) told
due true h old new asked reply None told = serves_so h old new asked reply told
due false h old new asked reply None told = refuses old new reply refusals.NoExporter told

-- an exporter's reply is one of these
pub of_exports : (serves : Bool) (h : History) (old new : Exports) (asked : Export) (reply : Reply) → AnswersAsked serves h old new asked reply → IsOfExports reply
of_exports serves h old new asked reply (inl told) = refuses old new reply refusals.Memory told
of_exports serves h old new asked reply (inr told) = due serves h old new asked reply (unsupported_at asked) told
