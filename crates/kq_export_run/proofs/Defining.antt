-- What an export that is bound, refused or held tells of its definition.
use Rattle.std.proofs.Common.{◌≡◌, ◌∙◌, ap, sym, subst, refl, inl, inr, ◌⊎◌, Bool, true, false, cond, List, ◌∷◌, [], ◌++◌, ℕ, Option, Some, None, Result, Ok, Err, length, nat_lt, ◌<◌, ◌≤◌}
use Rattle.std.proofs.lemmas.Bool.{le-ltb, lt-ltb}
use Rattle.kq_export_binder.specs.kq_bind_expressions.Verdicts.{Fault, Verdict, mistyped, unknown, unsupported}
use Rattle.kq_read_commands.specs.declared.definition.NewExport.{NewExport}
use Rattle.kq_export_ranges.specs.Exports.{ExportView, Exports}
use Rattle.kq_export_interface.specs.Due.{TellsDefined, bad_body, bound_so, defined_more, defined_so, is_same, made, most_exports, named_so, over_table, tells_fault, unless_there}
use Rattle.kq_catalog_journal.specs.History.{History, NumberedTable, log, table_numbered, tables}
use Rattle.kq_plan.specs.Plans.{Planned, planned_of}
use Rattle.kq_engine_query.specs.Answers.{refusal_by}
use Rattle.kq_reply.specs.declared.refusal.Refusal.{Refusal}
use Rattle.kq_reply.specs.declared.refusal.Refusal.TheVariants as refusals
use Rattle.kq_reply.specs.declared.reply.Reply.{Reply}
use Rattle.kq_reply.specs.declared.reply.Reply.TheVariants as replies
use Rattle.kq_export_run.specs.Bound.{Binds, RefusesBody, RefusesVerdict, bound_to}
use Rattle.kq_export_run.specs.declared.definition.Definition.{Definition}
use Rattle.kq_export_run.specs.Held.{ExporterState, export_of, exports_in}
use Rattle.kq_export_run.specs.Serving.{DefinesSo, HoldsSo, PutsNothing, UnlessWanting, there_of}

pub stays : (h : History) (s : ExporterState) (reply : Reply) → tells_fault reply ≡ false → PutsNothing h s s reply
stays h s reply no_fault = record { puts = refl; faults = refl; seen = inl refl; no_fault = no_fault }

-- ---- refusals

module _ (h : History) (s : ExporterState) (e : NewExport) where
  abbrev x : Exports
  x = exports_in s

  -- the exports stay, as what is due says
  refused : (r : Refusal) → tells_fault (replies.Refused r) ≡ false → defined_so h x e ≡ Err r → DefinesSo h s s e (replies.Refused r)
  refused r no_fault due = record {
    due = inr (subst (TellsDefined x x (replies.Refused r)) (sym due) (refl, refl));
    nothing = stays h s (replies.Refused r) no_fault;
  }

  pub defines_unknown : table_numbered e.table.text (tables (log h)) ≡ None → DefinesSo h s s e (replies.Refused (refusals.Unknown e.table.at))
  defines_unknown none = refused (refusals.Unknown e.table.at) refl (ap (over_table h x e) none)

  module _ (found : NumberedTable) (at : table_numbered e.table.text (tables (log h)) ≡ Some found) where
    over : (v : Verdict Planned) → bound_to h e ≡ v → defined_so h x e ≡ bound_so x e found v
    over v is = ap (over_table h x e) at ∙ ap (bound_so x e found) is

    no_fault : (f : Fault) → tells_fault (replies.Refused (refusal_by f)) ≡ false
    no_fault (unsupported place) = refl
    no_fault (unknown place) = refl
    no_fault (mistyped place) = refl

    pub defines_refused : (r : Refusal) → RefusesBody h e r → DefinesSo h s s e (replies.Refused r)
    defines_refused r (inl memory) =
        let no = ap (λ (f : Refusal). tells_fault (replies.Refused f)) memory in
        record { due = inl (ap replies.Refused memory, refl); nothing = stays h s (replies.Refused r) no }
    defines_refused r (inr verdict) = by_verdict (bound_to h e) refl verdict
      where
        by_verdict : (v : Verdict Planned) → bound_to h e ≡ v → RefusesVerdict e v r → DefinesSo h s s e (replies.Refused r)
        by_verdict (Err f) is told = subst (λ (f : Refusal). DefinesSo h s s e (replies.Refused f)) (sym told) (refused (refusal_by f) (no_fault f) (over (Err f) is))
        by_verdict (Ok p) is told =
            let other = ap (λ (b : Bool). cond b (named_so x e (made e found p)) (Err (bad_body e))) told.0 in
            subst (λ (f : Refusal). DefinesSo h s s e (replies.Refused f)) (sym told.1) (refused (bad_body e) refl (over (Ok p) is ∙ other))

    -- ---- an export that is held

    pub defines_held : (new : ExporterState) (d : Definition) (reply : Reply) → Binds h e found d → HoldsSo h s new e.name.at (export_of d) (there_of x (export_of d).name) reply → DefinesSo h s new e reply
    defines_held new d reply is held = record { due = by_memory held.due; nothing = held.nothing }
      where
        plan : Planned
        plan = planned_of d.body

        whole : defined_so h x e ≡ unless_there x e.name.at (export_of d) (there_of x (export_of d).name)
        whole =
            over (Ok plan) is.body.bound
            ∙ ap (λ (b : Bool). cond b (named_so x e (made e found plan)) (Err (bad_body e))) is.body.form
            ∙ ap (λ (v : ExportView). unless_there x e.name.at v (there_of x v.name)) (sym is.is)

        by_memory : UnlessWanting s new reply (TellsDefined x (exports_in new) reply (unless_there x e.name.at (export_of d) (there_of x (export_of d).name)))
            → UnlessWanting s new reply (TellsDefined x (exports_in new) reply (defined_so h x e))
        by_memory (inl memory) = inl memory
        by_memory (inr told) = inr (subst (TellsDefined x (exports_in new) reply) (sym whole) told)

-- ---- an export whose name is there, or isn't

module _ (h : History) (s : ExporterState) (at : ℕ) (new old : ExportView) (there : Option ExportView) (is : there ≡ Some old) where
  abbrev same_or : Bool → Result Exports Refusal
  same_or b = cond b (Ok (exports_in s)) (Err (refusals.Exists at))

  found_so : unless_there (exports_in s) at new there ≡ same_or (is_same old new)
  found_so = ap (unless_there (exports_in s) at new) is

  pub holds_same : is_same old new ≡ true → HoldsSo h s s at new there replies.Exporting
  holds_same same = record {
    due = inr (subst (TellsDefined (exports_in s) (exports_in s) replies.Exporting) (sym (found_so ∙ ap same_or same)) (refl, refl));
    nothing = stays h s replies.Exporting refl;
  }

  pub holds_other : is_same old new ≡ false → HoldsSo h s s at new there (replies.Refused (refusals.Exists at))
  holds_other other = record {
    due = inr (subst (TellsDefined (exports_in s) (exports_in s) (replies.Refused (refusals.Exists at))) (sym (found_so ∙ ap same_or other)) (refl, refl));
    nothing = stays h s (replies.Refused (refusals.Exists at)) refl;
  }

module _ (h : History) (s : ExporterState) (at : ℕ) (new : ExportView) where
  abbrev room_or : Bool → Result Exports Refusal
  room_or b = cond b (Ok (defined_more (exports_in s) new)) (Err (refusals.Full most_exports))

  pub holds_full : most_exports ≤ length (exports_in s).defined → HoldsSo h s s at new None (replies.Refused (refusals.Full most_exports))
  holds_full full = record {
    due = inr (subst (TellsDefined (exports_in s) (exports_in s) (replies.Refused (refusals.Full most_exports))) (sym (ap room_or (le-ltb (length (exports_in s).defined) most_exports full))) (refl, refl));
    nothing = stays h s (replies.Refused (refusals.Full most_exports)) refl;
  }

  pub holds_wanting : (there : Option ExportView) → HoldsSo h s s at new there (replies.Refused refusals.Memory)
  holds_wanting there = record { due = inl (refl, refl); nothing = stays h s (replies.Refused refusals.Memory) refl }

  pub holds_more : (after : ExporterState) → length (exports_in s).defined < most_exports → exports_in after ≡ defined_more (exports_in s) new → after.puts ≡ s.puts → after.faults ≡ s.faults → after.seen ≡ h → HoldsSo h s after at new None replies.Exporting
  holds_more after room more puts faults seen = record {
    due = inr (subst (TellsDefined (exports_in s) (exports_in after) replies.Exporting) (sym (ap room_or (lt-ltb (length (exports_in s).defined) most_exports room))) (refl, more));
    nothing = record { puts = puts; faults = faults; seen = inr seen; no_fault = refl };
  }
