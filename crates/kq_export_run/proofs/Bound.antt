-- An export that is bound.
use Rattle.std.proofs.Common.{◌≡◌, ◌∙◌, ap, sym, subst, refl, inl, inr, append-nil, true, Bool, cond, ℕ, List, [], Option, Some, None, Ok, Err}
use Rattle.std.proofs.lemmas.Slice.Eq.{bytes_eq-Decides}
use Rattle.std.specs.List.{slice_get}
use Rattle.std.specs.Option.{option_map, option_or, unwrap_or}
use Rattle.std.specs.Str.{bytes_eq}
use Rattle.kq_export_binder.specs.Answers.{AnswersExport}
use Rattle.kq_export_binder.specs.Bodies.{FitsTable}
use Rattle.kq_export_binder.specs.declared.fault.ExportFault.{ExportFault}
use Rattle.kq_export_binder.specs.declared.fault.ExportFault.TheVariants as fault
use Rattle.kq_export_binder.specs.kq_bind_expressions.Verdicts.{Verdict}
use Rattle.kq_read_commands.specs.declared.definition.NewExport.{NewExport}
use Rattle.kq_export_ranges.specs.Exported.{IsDefined, columns_given, only}
use Rattle.kq_read_grammar.specs.TabularViews.{query_of}
use Rattle.kq_catalog_journal.proofs.Tables.{table_numbered-at}
use Rattle.kq_catalog_journal.specs.declared.table.Table.{Table}
use Rattle.kq_catalog_journal.specs.History.{History, Log, NumberedTable, log, table_numbered, tables}
use Rattle.kq_catalog_journal.specs.Records.{schema_of}
use Rattle.kq_plan.specs.declared.names.NameKind.TheVariants as name
use Rattle.kq_plan.specs.Fits.{FitsNames}
use Rattle.kq_plan.specs.Plans.{Planned, planned_of}
use Rattle.kq_engine_query.specs.Worlds.{known_in, known_table, known_view, view_found}
use Rattle.kq_reply.specs.declared.refusal.Refusal.TheVariants as refusals
use Rattle.kq_value.specs.declared.schema.Field.{Field}
use Rattle.kq_export_run.specs.Bound.{Binds, IsBodyOf, RefusesBody, RefusesVerdict, bound_to, refusal_of}
use Rattle.kq_export_run.specs.declared.definition.Definition.{Definition}
use Rattle.kq_export_run.specs.Held.{export_of}

-- a table that stands is known under its columns
pub table_known : (h : History) (said : List ℕ) (found : NumberedTable) → table_numbered said (tables (log h)) ≡ Some found → known_in h said ≡ Some (name.Table, found.table.schema)
table_known h said found at = ap (λ (o : Option NumberedTable). option_or (option_map known_table o) (option_map known_view (view_found h said))) at

-- a plan that fits the table wherever that is known fits the table alone
pub fits_only : (table : List ℕ) (cs : List Field) (p : Planned) → FitsTable table cs p → FitsNames (only table cs) p (columns_given p)
fits_only table cs p fits = fits (only table cs) (ap (λ (b : Bool). cond b (Some (name.Table, cs)) None) ((bytes_eq-Decides table table).1 refl))

schema_at : (l : Log) (number : ℕ) (t : Table) → slice_get (tables l) number ≡ Some t → schema_of l number ≡ t.schema
schema_at l number t at = ap (λ (o : Option Table). unwrap_or (option_map (λ (x : Table). x.schema) o) []) at

module _ (h : History) (e : NewExport) (found : NumberedTable) (d : Definition)
    (at : table_numbered e.table.text (tables (log h)) ≡ Some found) (body : IsBodyOf h e found.table (planned_of d.body))
    (source : d.source ≡ e.table.text) (number : d.table ≡ found.number) (columns : d.columns ≡ found.table.schema) where
  abbrev plan : Planned
  plan = planned_of d.body

  abbrev FitsUnder : List ℕ → List Field → Type 0
  FitsUnder said cs = FitsNames (only said cs) plan (columns_given plan)

  defined : IsDefined (log h) (export_of d)
  defined =
      let there = table_numbered-at e.table.text (tables (log h)) found at in
      record {
        stands = rw number there.0;
        more = [];
        columns = ap (schema_of (log h)) number ∙ schema_at (log h) found.number found.table there.1 ∙ sym columns ∙ sym (append-nil d.columns);
        fits = subst (λ (s : List ℕ). FitsUnder s d.columns) (sym source) (subst (FitsUnder e.table.text) (sym columns) body.fits);
      }

  pub binds : d.name ≡ e.name.text → d.text ≡ e.query → d.end ≡ 0 → Binds h e found d
  binds named text start = record { body = body; is = rw (named, source, number, columns, text) refl; start = start; defined = defined }

pub fault_refused : (h : History) (e : NewExport) (f : ExportFault) → AnswersExport (bound_to h e) e.body.text e.table.text (query_of e.body.tree) (Err f) → RefusesBody h e (refusal_of f)
fault_refused h e (fault.Unsupported at) is = inr (subst (λ (v : Verdict Planned). RefusesVerdict e v (refusals.Unsupported at)) (sym is) refl)
fault_refused h e (fault.Unknown at) is = inr (subst (λ (v : Verdict Planned). RefusesVerdict e v (refusals.Unknown at)) (sym is) refl)
fault_refused h e (fault.Mistyped at) is = inr (subst (λ (v : Verdict Planned). RefusesVerdict e v (refusals.Mistyped at)) (sym is) refl)
fault_refused h e (fault.BadExport at) is = inr (subst (λ (v : Verdict Planned). RefusesVerdict e v (refusals.BadExport at)) (sym is.1) (is.2, ap refusals.BadExport is.3))
fault_refused h e fault.Memory is = inl refl
