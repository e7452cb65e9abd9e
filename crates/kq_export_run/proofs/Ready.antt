-- An export that is read to be run, over a history that goes on.
use Rattle.std.proofs.Common.{◌≡◌, ◌≢◌, ◌<◌, ◌≤◌, ◌∙◌, ap, sym, subst, arith, ℕ, List, Some, get_or, length, map}
use Rattle.std.specs.List.{slice_get}
use Rattle.std.proofs.lemmas.Option.{slice_get-get_or}
use mathlib.Core.List.{IsPrefix}
use Rattle.kq_export_ranges.proofs.Exported.{got}
use Rattle.kq_export_ranges.specs.Exported.{IsDefined}
use Rattle.kq_export_ranges.specs.Exports.{end_of, export_numbered, is_named}
use Rattle.kq_catalog_journal.specs.History.{History, cursor, log}
use Rattle.kq_export_ranges.specs.declared.range.ExportRange.{ExportRange}
use Rattle.kq_reply.specs.declared.refusal.Refusal.{Refusal}
use Rattle.kq_world.specs.Outside.{Put}
use Rattle.kq_export_run.specs.declared.definition.Definition.{Definition}
use Rattle.kq_export_run.specs.Held.{AreHeld, ExporterState, export_of, exports_in, exports_of, state_of}
use Rattle.kq_export_run.specs.Runs.{IsWritten, RefusesRange, WrittenView}
use Rattle.kq_export_run.specs.Serving.{IsWrittenFor}
use Rattle.kq_export_run.proofs.Held.{held_later}
use Rattle.kq_export_run.proofs.Named.{position_within, stands_there}

-- the export of a number, which stands over a history and has exported no more than that
pub record IsReady (h : History) (s : ExporterState) (n : ℕ) (d : Definition) : Type 0 where
  pub at : slice_get (exports_in s).defined n ≡ Some (export_of d)
  pub defined : IsDefined (log h) (export_of d)
  pub end : d.end ≡ end_of n (exports_in s)
  pub up : d.end ≤ cursor h

pub ready : (h seen : History) (ds : List Definition) (rs : List ExportRange) (puts : List Put) (faults : ℕ) (s : ExporterState) (name : List ℕ) (n : ℕ) (d : Definition)
    → state_of ds rs puts faults seen ≡ s → AreHeld seen ds rs puts → IsPrefix s.seen h → export_numbered name (exports_in s).defined ≡ Some n → d ≡ get_or ds n d → IsReady h s n d
ready h seen ds rs puts faults s name n d view held goes_on found is =
    let here = held_later seen h ds rs puts (subst (λ (t : ExporterState). IsPrefix t.seen h) (sym view) goes_on) held in
    let number = subst (λ (t : ExporterState). export_numbered name (exports_in t).defined ≡ Some n) (sym view) found in
    let within = position_within export_of ds n d (is_named name) number in
    let there = stands_there export_of ds n d within is in
    let last : d.end ≡ end_of n (exports_of ds rs) = held.ends n d (slice_get-get_or ds n d within ∙ ap Some (sym is)) in
    let up = (here.exported.ranges n).within in
    subst (λ (t : ExporterState). IsReady h t n d) view (record {
      at = there;
      defined = got (IsDefined (log h)) (map export_of ds) n (export_of d) here.exported.defined there;
      end = last;
      up = omega (arith, last, up);
    })

module _ (h : History) (s : ExporterState) (n to : ℕ) (d : Definition) (is : IsReady h s n d) (up : to ≡ cursor h) (differs : d.end ≢ to) where
  pub ready_ahead : d.end < to
  ready_ahead = let most = is.up in omega (arith, most, up, differs)

  pub ready_range : end_of n (exports_in s) < to
  ready_range = let from = is.end in let past = ready_ahead in omega (arith, from, past)

  pub ready_differs : end_of n (exports_in s) ≢ cursor h
  ready_differs same = differs (is.end ∙ same ∙ sym up)

  pub ready_written : (w : WrittenView) → IsWritten (log h) (export_of d) d.end to w → IsWrittenFor h (exports_in s) n to w
  ready_written w written = record {
    export = export_of d;
    stands = is.at;
    written = subst (λ (a : ℕ). IsWritten (log h) (export_of d) a to w) is.end written;
  }

  pub ready_refused : (r : Refusal) → RefusesRange (log h) (export_of d) d.end to r → RefusesRange (log h) (export_of d) (end_of n (exports_in s)) (cursor h) r
  ready_refused r refused =
      subst (λ (a : ℕ). RefusesRange (log h) (export_of d) a (cursor h) r) is.end (subst (λ (t : ℕ). RefusesRange (log h) (export_of d) d.end t r) up refused)
