-- What is held over a longer history, and with an export or a range more.
use Rattle.std.proofs.Common.{◌≡◌, ◌≢◌, ◌<◌, ◌≤◌, ◌⊎◌, inl, inr, ◌∙◌, ap, sym, subst, arith, ℕ, true, false, List, [], ◌∷◌, ◌++◌, length, map, nat_eq, get_or, Some, None, refl}
use Rattle.std.proofs.Math.ListN.{set}
use Rattle.std.proofs.Math.Seq.{map-set_same}
use Rattle.std.specs.List.{slice_get}
use Rattle.std.proofs.lemmas.Bool.Decides.{eqb_tells}
use Rattle.std.proofs.lemmas.List.{get_or-set_other, get_or-set_same, length-map, length-set, map-append}
use Rattle.std.proofs.lemmas.Option.{get_or_from_slice_get, slice_get-get_or, slice_get_within}
use mathlib.Core.List.{IsPrefix}
use Rattle.kq_export_ranges.proofs.Exported.{IsExported-defined, IsExported-later, IsExported-none, IsExported-range, none_past}
use Rattle.kq_export_ranges.specs.Exported.{IsCommitted, IsDefined, IsExported}
use Rattle.kq_export_ranges.specs.Exports.{ExportView, end_in, export_numbered, last_end, ranges_of}
use Rattle.kq_catalog_journal.proofs.Places.{get-push}
use Rattle.kq_catalog_journal.specs.History.{History, cursor, log}
use Rattle.kq_export_ranges.proofs.Ledgers.{last_push, other_ranges, own_ranges}
use Rattle.kq_export_ranges.specs.declared.range.ExportRange.{ExportRange}
use Rattle.kq_world.specs.Outside.{Put}
use Rattle.kq_export_run.specs.declared.definition.Definition.{Definition}
use Rattle.kq_export_run.specs.Held.{AreEnds, AreHeld, export_of, exports_of}

pub held_none : AreHeld [] [] [] []
held_none = record { exported = IsExported-none []; ends = λ n d at. let within = slice_get_within [] n d at in absurd (omega (arith, within)) }

pub held_later : (h later : History) (ds : List Definition) (rs : List ExportRange) (puts : List Put) → IsPrefix h later → AreHeld h ds rs puts → AreHeld later ds rs puts
held_later h later ds rs puts goes_on is = record { exported = IsExported-later h later (exports_of ds rs) puts goes_on is.exported; ends = is.ends }

-- ---- an export more

module _ (h : History) (ds : List Definition) (rs : List ExportRange) (puts : List Put) (d : Definition) where
  -- it has no ranges yet
  ends_more : AreHeld h ds rs puts → d.end ≡ 0 → AreEnds (ds ++ d ∷ []) rs
  ends_more is start n e at = by_place (get-push ds d e n at)
    where
      by_place : (slice_get ds n ≡ Some e) ⊎ ((n ≡ length ds) × (e ≡ d)) → e.end ≡ end_in n rs
      by_place (inl before) = is.ends n e before
      by_place (inr last) =
          let count = length-map ds export_of in
          let none = none_past (log h) (map export_of ds) rs puts n is.exported.committed (let place = last.0 in omega (arith, count, place)) in
          ap (λ (x : Definition). x.end) last.1 ∙ start ∙ sym (ap (last_end 0) none)

  pub held_more : AreHeld h ds rs puts → export_numbered d.name (map export_of ds) ≡ None → IsDefined (log h) (export_of d) → d.end ≡ 0 → AreHeld h (ds ++ d ∷ []) rs puts
  held_more is new here start = record {
    exported =
        subst (λ (es : List ExportView). IsExported h (record { defined = es; ranges = rs }) puts) (sym (map-append export_of ds (d ∷ [])))
        (IsExported-defined h (exports_of ds rs) puts (export_of d) is.exported new here);
    ends = ends_more is start;
  }

-- ---- a range more

module _ (ds : List Definition) (n to : ℕ) (d : Definition) where
  -- the export has exported up to the range's end
  abbrev pub moved : Definition
  moved = record d { end = to }

  abbrev pub range : ExportRange
  range = record { export = n; above = d.end; to = to }

  abbrev pub moved_in : List Definition
  moved_in = set ds n moved

  module _ (at : slice_get ds n ≡ Some d) where
    within : n < length ds
    within = slice_get_within ds n d at

    pub same_exports : map export_of moved_in ≡ map export_of ds
    same_exports = map-set_same export_of ds n moved d (ap export_of (sym (get_or_from_slice_get ds n d d at)))

    ends_moved : (rs : List ExportRange) → AreEnds ds rs → AreEnds moved_in (rs ++ range ∷ [])
    ends_moved rs are k e there = by_test (eqb_tells n k)
      where
        holds : k < length ds
        holds = let place = slice_get_within moved_in k e there in let count = length-set ds n moved in omega (arith, place, count)

        by_test : ((nat_eq n k ≡ true) × (n ≡ k)) ⊎ ((nat_eq n k ≡ false) × (n ≡ k → ⊥)) → e.end ≡ end_in k (rs ++ range ∷ [])
        by_test (inl same) =
            let own : slice_get moved_in n ≡ Some e = ap (slice_get moved_in) same.1 ∙ there in
            let is : e ≡ moved = sym (get_or_from_slice_get moved_in n e e own) ∙ get_or-set_same ds n moved e within in
            ap (λ (x : Definition). x.end) is ∙ sym (ap (last_end 0) (own_ranges k rs range same.1) ∙ last_push 0 (ranges_of k rs) range)
        by_test (inr other) =
            let differs : k ≢ n = λ is. other.1 (sym is) in
            let is : get_or ds k e ≡ e = sym (get_or-set_other ds n k moved e differs) ∙ get_or_from_slice_get moved_in k e e there in
            are k e (slice_get-get_or ds k e holds ∙ ap Some is) ∙ sym (ap (last_end 0) (other_ranges k rs range other.1))

    pub held_range : (h : History) (rs : List ExportRange) (puts : List Put) (p : Put) → AreHeld h ds rs puts → d.end < to → to ≤ cursor h
        → IsCommitted (log h) (map export_of ds) range p → AreHeld h moved_in (rs ++ range ∷ []) (puts ++ p ∷ [])
    held_range h rs puts p is ahead up here =
        let all = map export_of ds in
        let from : d.end ≡ end_in n rs = is.ends n d at in
        let behind : end_in n rs < to = subst (λ (e : ℕ). e < to) from ahead in
        let committed = subst (λ (e : ℕ). IsCommitted (log h) all (record { export = n; above = e; to = to }) p) from here in
        let more = IsExported-range h (exports_of ds rs) n to behind up puts p is.exported committed in
        let ranged = subst (λ (e : ℕ). IsExported h (record { defined = all; ranges = rs ++ record { export = n; above = e; to = to } ∷ [] }) (puts ++ p ∷ [])) (sym from) more in
        record {
          exported = subst (λ (es : List ExportView). IsExported h (record { defined = es; ranges = rs ++ range ∷ [] }) (puts ++ p ∷ [])) (sym same_exports) ranged;
          ends = ends_moved rs is.ends;
        }
