-- How the body of an export is bound.
use Rattle.std.specs.Prelude.{◌≡◌, ◌⊎◌, ℕ, false, true, Ok, Err}
use Rattle.kq_export_binder.specs.kq_bind_expressions.Verdicts.{Verdict}
use Rattle.kq_export_binder.specs.Bodies.{is_export_body}
use Rattle.kq_export_binder.specs.declared.fault.ExportFault.{ExportFault}
use Rattle.kq_export_binder.specs.declared.fault.ExportFault.TheVariants as fault
use Rattle.kq_read_commands.specs.declared.definition.NewExport.{NewExport}
use Rattle.kq_export_ranges.specs.Exported.{IsDefined, columns_given, only}
use Rattle.kq_export_interface.specs.Due.{bad_body, made}
use Rattle.kq_export_binder.specs.kq_bind_query.Queries.{query_bound}
use Rattle.kq_read_grammar.specs.TabularViews.{query_of}
use Rattle.kq_catalog_journal.specs.declared.table.Table.{Table}
use Rattle.kq_catalog_journal.specs.History.{History, NumberedTable, log}
use Rattle.kq_plan.specs.Fits.{FitsNames}
use Rattle.kq_plan.specs.Plans.{Planned, planned_of}
use Rattle.kq_engine_query.specs.Answers.{refusal_by}
use Rattle.kq_engine_query.specs.Worlds.{known_in}
use Rattle.kq_reply.specs.declared.refusal.Refusal.{Refusal}
use Rattle.kq_reply.specs.declared.refusal.Refusal.TheVariants as refusals
use Rattle.kq_export_run.specs.declared.definition.Definition.{Definition}
use Rattle.kq_export_run.specs.Held.{export_of}

abbrev pub bound_to : History → NewExport → Verdict Planned
bound_to h e = query_bound e.body.text (known_in h) (query_of e.body.tree)

-- the body is bound to this plan, which reads the table alone
pub record IsBodyOf (h : History) (e : NewExport) (t : Table) (p : Planned) : Type 0 where
  pub bound : bound_to h e ≡ Ok p
  pub form : is_export_body e.table.text p ≡ true
  pub fits : FitsNames (only e.table.text t.schema) p (columns_given p)

-- the export is held, over a table that stands, and has exported nothing
pub record Binds (h : History) (e : NewExport) (found : NumberedTable) (d : Definition) : Type 0 where
  pub body : IsBodyOf h e found.table (planned_of d.body)
  pub is : export_of d ≡ made e found (planned_of d.body)
  pub start : d.end ≡ 0
  pub defined : IsDefined (log h) (export_of d)

abbrev pub RefusesVerdict : NewExport → Verdict Planned → Refusal → Type 0
RefusesVerdict e (Err f) r = r ≡ refusal_by f
RefusesVerdict e (Ok p) r = (is_export_body e.table.text p ≡ false) × (r ≡ bad_body e)

-- the body can't be bound, or reads something else, or memory was wanting
abbrev pub RefusesBody : History → NewExport → Refusal → Type 0
RefusesBody h e r = (r ≡ refusals.Memory) ⊎ RefusesVerdict e (bound_to h e) r

abbrev pub refusal_of : ExportFault → Refusal
refusal_of (fault.Unsupported at) = refusals.Unsupported at
refusal_of (fault.Unknown at) = refusals.Unknown at
refusal_of (fault.Mistyped at) = refusals.Mistyped at
refusal_of (fault.BadExport at) = refusals.BadExport at
refusal_of fault.Memory = refusals.Memory
