-- What an exporter into artefacts does.
use Rattle.std.specs.Prelude.{◌≡◌, ◌⊎◌, ℕ, false, List, Option, Some, None, MatchBool}
use Rattle.std.specs.List.{find, slice_get}
use Rattle.kq_read_commands.specs.declared.columns.Identifier.{Identifier}
use Rattle.kq_read_commands.specs.declared.definition.NewExport.{NewExport}
use Rattle.kq_export_ranges.specs.Exports.{ExportView, Exports, end_of, export_numbered, is_named}
use Rattle.kq_export_interface.specs.Due.{IsRange, Refuses, RunsNumbered, TellsDefined, defined_so, tells_fault, unless_there}
use Rattle.kq_catalog_journal.specs.History.{History, log}
use Rattle.kq_reply.specs.declared.refusal.Refusal.TheVariants as refusals
use Rattle.kq_reply.specs.declared.reply.Reply.{Reply}
use Rattle.kq_world.specs.Outside.{Rose}
use Rattle.kq_export_run.specs.Held.{ExporterState, exports_in}
use Rattle.kq_export_run.specs.Runs.{IsWritten, WrittenView}

-- the history of the last snapshot stayed, or is this one
abbrev pub SeesOn : History → ExporterState → ExporterState → Type 0
SeesOn h old new = (new.seen ≡ old.seen) ⊎ (new.seen ≡ h)

-- memory was wanting and the exports are as they were; or else this
abbrev pub UnlessWanting : ExporterState → ExporterState → Reply → Type 0 → Type 0
UnlessWanting old new reply Due = Refuses (exports_in old) (exports_in new) reply refusals.Memory ⊎ Due

-- the artefacts are as they were
pub record PutsNothing (h : History) (old new : ExporterState) (reply : Reply) : Type 0 where
  pub puts : new.puts ≡ old.puts
  pub faults : new.faults ≡ old.faults
  pub seen : SeesOn h old new
  pub no_fault : tells_fault reply ≡ false

-- ---- definitions

-- an export was held or refused
pub record DefinesSo (h : History) (old new : ExporterState) (e : NewExport) (reply : Reply) : Type 0 where
  pub due : UnlessWanting old new reply (TellsDefined (exports_in old) (exports_in new) reply (defined_so h (exports_in old) e))
  pub nothing : PutsNothing h old new reply

-- the same of an export that is bound, where that of its name is looked up
pub record HoldsSo (h : History) (old new : ExporterState) (at : ℕ) (e : ExportView) (there : Option ExportView) (reply : Reply) : Type 0 where
  pub due : UnlessWanting old new reply (TellsDefined (exports_in old) (exports_in new) reply (unless_there (exports_in old) at e there))
  pub nothing : PutsNothing h old new reply

-- the export of a name, if there is one
abbrev pub there_of : Exports → List ℕ → Option ExportView
there_of x name = find (is_named name) x.defined

-- ---- runs

-- the count of faults rose exactly where the reply says so
abbrev pub IsCaused : ExporterState → ExporterState → Reply → Type 0
IsCaused old new reply = MatchBool (tells_fault reply) (Rose old.faults new.faults) (new.faults ≡ old.faults)

pub record RunsSo (h : History) (old new : ExporterState) (name : Identifier) (reply : Reply) : Type 0 where
  pub due : UnlessWanting old new reply (RunsNumbered h (exports_in old) (exports_in new) name reply (export_numbered name.text (exports_in old).defined))
  pub cause : IsCaused old new reply
  pub seen : SeesOn h old new

-- the artefact of what came since the last range of an export
pub record IsWrittenFor (h : History) (x : Exports) (n to : ℕ) (w : WrittenView) : Type 0 where
  pub export : ExportView
  pub stands : slice_get x.defined n ≡ Some export
  pub written : IsWritten (log h) export (end_of n x) to w

-- the range was exported with so many rows, or the artefacts failed
pub record PutsRange (h : History) (old new : ExporterState) (n to rows : ℕ) (reply : Reply) : Type 0 where
  pub told : IsRange (exports_in old) (exports_in new) n to rows reply ⊎ Refuses (exports_in old) (exports_in new) reply refusals.ArtefactFault
  pub cause : IsCaused old new reply
  pub seen : SeesOn h old new
