-- What a run tells: of its export, of the body's fault, and of what was put.
use Rattle.std.proofs.Common.{◌≡◌, ◌≢◌, ◌⊎◌, ap, sym, subst, refl, inl, inr, ℕ, Bool, false, Some, None, length}
use Rattle.std.proofs.lemmas.Bool.{eq-eqb, ne_eqb}
use Rattle.std.specs.Bool.{MatchBool}
use Rattle.std.specs.List.{slice_get}
use Rattle.kq_read_commands.specs.declared.columns.Identifier.{Identifier}
use Rattle.kq_export_ranges.specs.Exports.{ExportView, Exports, end_of, export_numbered}
use Rattle.kq_export_interface.specs.Due.{IsIdle, IsRange, Refuses, RunsNumbered, RunsRange, TellsRange, tells_fault}
use Rattle.kq_catalog_journal.specs.History.{History, cursor, log}
use Rattle.kq_run_plan.specs.declared.outcome.Outcome.{Outcome}
use Rattle.kq_run_plan.specs.declared.outcome.Outcome.TheVariants as outcome
use Rattle.kq_reply.specs.declared.refusal.Refusal.{Refusal}
use Rattle.kq_reply.specs.declared.refusal.Refusal.TheVariants as refusals
use Rattle.kq_reply.specs.declared.reply.Reply.{Reply}
use Rattle.kq_reply.specs.declared.reply.Reply.TheVariants as replies
use Rattle.kq_world.specs.Outside.{Rose}
use Rattle.kq_export_run.specs.Held.{ExporterState, exports_in}
use Rattle.kq_export_run.specs.Runs.{HasFault, RefusesOutcome, RefusesRange, WrittenView}
use Rattle.kq_export_run.specs.Serving.{IsCaused, IsWrittenFor, PutsRange, RunsSo}

module _ (h : History) (s : ExporterState) (name : Identifier) where
  abbrev x : Exports
  x = exports_in s

  pub runs_unknown : export_numbered name.text x.defined ≡ None → RunsSo h s s name (replies.Refused (refusals.Unknown name.at))
  runs_unknown none = record {
    due = inr (subst (RunsNumbered h x x name (replies.Refused (refusals.Unknown name.at))) (sym none) (refl, refl));
    cause = refl;
    seen = inl refl;
  }

  module _ (n : ℕ) (at : export_numbered name.text x.defined ≡ Some n) where
    pub runs_idle : end_of n x ≡ cursor h → RunsSo h s s name replies.Nothing
    runs_idle same =
        let idle = subst (λ (b : Bool). MatchBool b (IsIdle x x replies.Nothing) (RunsRange h x x n replies.Nothing)) (sym (eq-eqb (end_of n x) (cursor h) same)) (refl, refl) in
        record { due = inr (subst (RunsNumbered h x x name replies.Nothing) (sym at) idle); cause = refl; seen = inl refl }

    -- records came since the last range
    module _ (differs : end_of n x ≢ cursor h) where
      runs_range : (new : Exports) (reply : Reply) → RunsRange h x new n reply → RunsNumbered h x new name reply (export_numbered name.text x.defined)
      runs_range new reply told =
          subst (RunsNumbered h x new name reply) (sym at)
          (subst (λ (b : Bool). MatchBool b (IsIdle x new reply) (RunsRange h x new n reply)) (sym (ne_eqb (end_of n x) (cursor h) differs)) told)

      module _ (export : ExportView) (stands : slice_get x.defined n ≡ Some export) where
        -- a fault of the body, which is none of the artefacts
        fault_told : (o : Outcome) (r : Refusal) → RefusesOutcome o r → TellsRange x x n (cursor h) o (replies.Refused r) × (tells_fault (replies.Refused r) ≡ false)
        fault_told (outcome.Table ordered rows) r told = absurd told
        fault_told (outcome.Cell v) r told = absurd told
        fault_told (outcome.Overflow stage) r told = ((ap replies.Refused told, refl), ap (λ (f : Refusal). tells_fault (replies.Refused f)) told)
        fault_told (outcome.Full limit) r told = ((ap replies.Refused told, refl), ap (λ (f : Refusal). tells_fault (replies.Refused f)) told)

        pub runs_refused : (r : Refusal) → RefusesRange (log h) export (end_of n x) (cursor h) r → RunsSo h s s name (replies.Refused r)
        runs_refused r (inl memory) =
            subst (λ (f : Refusal). RunsSo h s s name (replies.Refused f)) (sym memory) (record { due = inl (refl, refl); cause = refl; seen = inl refl })
        runs_refused r (inr fault) =
            let (told, no_fault) = fault_told fault.outcome r fault.told in
            record {
              due = inr (runs_range x (replies.Refused r) (record { export = export; stands = stands; outcome = fault.outcome; gives = fault.gives; told = told }));
              cause = subst (λ (b : Bool). MatchBool b (Rose s.faults s.faults) (s.faults ≡ s.faults)) (sym no_fault) refl;
              seen = inl refl;
            }

      pub runs_put : (new : ExporterState) (w : WrittenView) (reply : Reply) → IsWrittenFor h x n (cursor h) w → PutsRange h s new n (cursor h) w.rows reply → RunsSo h s new name reply
      runs_put new w reply for put = record {
        due = inr (runs_range (exports_in new) reply (record {
          export = for.export;
          stands = for.stands;
          outcome = outcome.Table for.written.ordered for.written.given;
          gives = for.written.gives;
          told = by_put put.told;
        }));
        cause = put.cause;
        seen = put.seen;
      }
        where
          by_put : IsRange x (exports_in new) n (cursor h) w.rows reply ⊎ Refuses x (exports_in new) reply refusals.ArtefactFault
              → IsRange x (exports_in new) n (cursor h) (length for.written.given) reply ⊎ Refuses x (exports_in new) reply refusals.ArtefactFault
          by_put (inl told) = inl (subst (λ (rows : ℕ). IsRange x (exports_in new) n (cursor h) rows reply) for.written.count told)
          by_put (inr failed) = inr failed
