-- How many records are looked at for the rows of a view.
use Rattle.std.proofs.Common.{◌≡◌, ◌≤◌, ◌+◌, ℕ, Bool, true, false, not, ◌||◌, cond, nat_lt, List, [], ◌∷◌, ◌++◌, length, map, refl, sym, ap, ◌∙◌, subst, arith, length-append}
use Rattle.std.specs.List.{filter, list_any, sum_by}
use Rattle.std.proofs.lemmas.Bool.{le-ltb}
use Rattle.std.proofs.lemmas.List.{length-map, map-append}
use Rattle.std.proofs.lemmas.List.Sums.{sum_by-cons}
use Rattle.std.proofs.lemmas.List.Sorted.{IsPermutation-filter_both, sum_by-IsPermutation}
use Rattle.kq_catalog.specs.Held.{AreItems, extent_item}
use Rattle.kq_store_extent.specs.Seen.{ExtentView, HeldExtents, held_extents, records_in}
use Rattle.kq_catalog_journal.specs.declared.view.View.{View}
use Rattle.kq_catalog_journal.specs.History.{History, cursor, view_cursor}
use Rattle.kq_catalog_journal.specs.Records.{ExtentItem, extents, is_small_item}
use Rattle.kq_plan.specs.declared.work.LeafKind.{LeafKind}
use Rattle.kq_plan.specs.declared.work.LeafKind.TheVariants as kind
use Rattle.kq_run_plan.specs.kq_run_scan.Ranges.{count_read, is_later}
use Rattle.kq_value.specs.declared.record.Record.{Record}
use Rattle.kq_value.specs.declared.record_id.RecordId.{RecordId}
use Rattle.kq_engine_query.specs.Views.{has_later, looked_at, read_to, records_later}

module _ (above : ℕ) where
  abbrev later_in : ExtentItem → ℕ
  later_in i = cond (has_later above i) (length i.records) 0

  any_id : (rs : List Record) → list_any (λ (r : Record). nat_lt above r.id.cursor) rs ≡ list_any (λ (id : RecordId). nat_lt above id.cursor) (map (λ (r : Record). r.id) rs)
  any_id [] = refl
  any_id (r ∷ rs) = ap (λ (b : Bool). nat_lt above r.id.cursor || b) (any_id rs)

  one_item : (e : ExtentView) → later_in (extent_item e) ≡ cond (is_later above e) (length e.records) 0
  one_item e = ap (λ (b : Bool). cond b (length (extent_item e).records) 0) (sym (any_id e.records)) ∙ ap (λ (n : ℕ). cond (is_later above e) n 0) (length-map e.records (λ (r : Record). r.id))

  by_items : (es : List ExtentView) → count_read above es ≡ sum_by later_in (map extent_item es)
  by_items [] = refl
  by_items (e ∷ es) = by_test (is_later above e) (by_items es) (one_item e) ∙ sym (sum_by-cons later_in (extent_item e) (map extent_item es))
    where
      by_test : (b : Bool) → count_read above es ≡ sum_by later_in (map extent_item es) → later_in (extent_item e) ≡ cond b (length e.records) 0
          → length (records_in (cond b (e ∷ filter (is_later above) es) (filter (is_later above) es))) ≡ later_in (extent_item e) + sum_by later_in (map extent_item es)
      by_test true rest here = let n = length-append e.records (records_in (filter (is_later above) es)) in omega (arith, n, rest, here)
      by_test false rest here = omega (arith, rest, here)

  -- the records that a walk over a table's extents looks at
  pub walked : (h : History) (t : ℕ) (held : HeldExtents) → AreItems (extents h t) held → count_read above (held_extents held) ≡ records_later h t above
  walked h t held items =
      let is = extents h t in
      let big : ExtentItem → Bool = λ (i : ExtentItem). not (is_small_item i) in
      by_items (held_extents held) ∙ ap (sum_by later_in) (map-append extent_item held.small held.big)
      ∙ ap (λ (xs : List ExtentItem). sum_by later_in (xs ++ map extent_item held.big)) items.small
      ∙ ap (λ (xs : List ExtentItem). sum_by later_in (filter is_small_item is ++ xs)) items.big
      ∙ sum_by-IsPermutation later_in is (filter is_small_item is ++ filter big is) (IsPermutation-filter_both is_small_item big (λ i. refl) is)

pub looked : (h : History) (k : LeafKind) (n : ℕ) (v : View) (held : HeldExtents) (above to : ℕ) → above ≡ view_cursor h n → to ≡ read_to h k n → AreItems (extents h v.source) held
    → cond (nat_lt above to) (count_read above (held_extents held)) 0 ≤ looked_at h k n v
looked h k n v held above to from up items = subst (λ (t : ℕ). cond (nat_lt above t) read 0 ≤ looked_at h k n v) (sym up) (by_kind k)
  where
    read : ℕ
    read = count_read above (held_extents held)

    all : read ≡ records_later h v.source (view_cursor h n)
    all = walked above h v.source held items ∙ ap (records_later h v.source) from

    most : (b : Bool) → cond b read 0 ≤ records_later h v.source (view_cursor h n)
    most true = omega (arith, all)
    most false = omega arith

    by_kind : (k : LeafKind) → cond (nat_lt above (read_to h k n)) read 0 ≤ looked_at h k n v
    by_kind kind.Table = most (nat_lt above (cursor h))
    by_kind kind.View = most (nat_lt above (cursor h))
    by_kind kind.Part = let none : nat_lt above (view_cursor h n) ≡ false = le-ltb above (view_cursor h n) (omega (arith, from)) in rw none (omega arith)
