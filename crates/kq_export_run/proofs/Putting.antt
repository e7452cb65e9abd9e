-- A range that is put: what is held then, and what is told.
use Rattle.std.proofs.Common.{◌≡◌, ◌<◌, ◌+◌, ◌++◌, ◌∷◌, [], ◌∙◌, ap, sym, subst, arith, inl, ℕ, List, Some, get_or, length, map, inr}
use Rattle.std.specs.List.{slice_get}
use Rattle.std.proofs.lemmas.Option.{get_or_from_slice_get, slice_get-get_or}
use mathlib.Core.List.{IsPrefix}
use Rattle.kq_export_ranges.specs.Exported.{IsCommitted}
use Rattle.kq_export_ranges.specs.Exports.{ExportView, Exports, end_of, exported}
use Rattle.kq_catalog_journal.specs.History.{History, cursor, log}
use Rattle.kq_export_ranges.specs.declared.range.ExportRange.{ExportRange}
use Rattle.kq_reply.specs.declared.reply.Reply.TheVariants as replies
use Rattle.kq_world.specs.Outside.{Put}
use Rattle.kq_export_run.specs.declared.definition.Definition.{Definition}
use Rattle.kq_export_run.specs.Held.{AreHeld, ExporterState, export_of, exports_of}
use Rattle.kq_export_run.specs.Runs.{IsWritten, WrittenView}
use Rattle.kq_export_run.specs.Serving.{IsWrittenFor, PutsRange}
use Rattle.kq_export_run.proofs.Held.{held_later, held_range, moved_in, range, same_exports}

-- the artefact that is written for a range is what the range commits
committed : (h : History) (x : Exports) (n to above : ℕ) (w : WrittenView) (p : Put) → IsWrittenFor h x n to w → to ≡ cursor h → above ≡ end_of n x → p.name ≡ w.name → p.bytes ≡ w.bytes
    → IsCommitted (log h) x.defined (record { export = n; above = above; to = to }) p
committed h x n to above w p for up from named bytes =
    let is : IsWritten (log h) for.export above to w = subst (λ (a : ℕ). IsWritten (log h) for.export a to w) (sym from) for.written in
    record {
      export = for.export;
      stands = for.stands;
      within = omega (arith, up);
      ordered = is.ordered;
      rows = is.given;
      gives = is.gives;
      named = named ∙ is.named;
      bytes = rw bytes is.bytes;
    }

module _ (h seen : History) (ds : List Definition) (rs after : List ExportRange) (puts kept : List Put) (n to : ℕ) (first d : Definition)
    (held : AreHeld seen ds rs puts) (within : n < length ds) (one : first ≡ get_or ds n first) (other : d ≡ get_or ds n d)
    (ranged : after ≡ rs ++ range ds n to first ∷ []) where
  at : slice_get ds n ≡ Some d
  at = slice_get-get_or ds n d within ∙ ap Some (sym other)

  same : first ≡ d
  same = one ∙ get_or_from_slice_get ds n d first at

  from : d.end ≡ end_of n (exports_of ds rs)
  from = held.ends n d at

  ranges : after ≡ rs ++ range ds n to d ∷ []
  ranges = ranged ∙ ap (λ (e : Definition). rs ++ range ds n to e ∷ []) same

  -- what is held then
  pub put_held : (w : WrittenView) (p : Put) → IsPrefix seen h → to ≡ cursor h → end_of n (exports_of ds rs) < to → IsWrittenFor h (exports_of ds rs) n to w
      → p.name ≡ w.name → p.bytes ≡ w.bytes → kept ≡ puts ++ p ∷ [] → AreHeld h (moved_in ds n to d) after kept
  put_held w p goes_on up ahead for named bytes kept_so =
      let here = committed h (exports_of ds rs) n to d.end w p for up from named bytes in
      let past : d.end < to = omega (arith, from, ahead) in
      let all = held_range ds n to d at h rs puts p (held_later seen h ds rs puts goes_on held) past (omega (arith, up)) here in
      rw (ranges, kept_so) all

  -- and what is told
  pub put_told : (old new : ExporterState) (rows count : ℕ) → exports_of ds rs ≡ exports_of old.defined old.ranges → new.defined ≡ moved_in ds n to d → new.ranges ≡ after → new.faults ≡ old.faults
      → new.seen ≡ h → count ≡ rows → PutsRange h old new n to rows (replies.Exported (first.end + 1) to count)
  put_told old new rows count stood defined ranged_new none taken is = record {
    told = inl (
      ap (λ (e : Definition). replies.Exported (e.end + 1) to count) same ∙ ap (λ (e : ℕ). replies.Exported (e + 1) to count) (from ∙ ap (end_of n) stood) ∙ ap (replies.Exported (end_of n (exports_of old.defined old.ranges) + 1) to) is,
      ap (λ (es : List Definition). exports_of es new.ranges) defined
          ∙ ap (λ (es : List ExportView). record { defined = es; ranges = new.ranges }) (same_exports ds n to d at)
          ∙ ap (λ (all : List ExportRange). record { defined = map export_of ds; ranges = all }) (ranged_new ∙ ranges ∙ ap (λ (e : ℕ). rs ++ record { export = n; above = e; to = to } ∷ []) from)
          ∙ ap (λ (x : Exports). exported x n to) stood,
    );
    cause = none;
    seen = inr taken;
  }
