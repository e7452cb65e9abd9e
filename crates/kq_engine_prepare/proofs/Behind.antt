-- What a view doesn't hold yet, and a part to which that is folded.
use Rattle.std.proofs.Common.{◌≡◌, ◌≤◌, ℕ, List, ◌++◌, Some, Result, Ok, Err, IfOk, ap, sym, ◌∙◌, subst}
use Rattle.std.specs.List.{slice_get}
use Rattle.std.specs.List.Sorted.{IsPermutation}
use Rattle.kq_catalog.specs.Seen.{CatalogView, Sound, hist}
use Rattle.kq_catalog.specs.Views.{HoldsPart}
use Rattle.kq_store_extent.specs.Seen.{HeldExtents, held_records}
use Rattle.kq_store_extent.specs.Wide.{wide_held}
use Rattle.kq_view_fold.specs.Folds.{IsPartOf}
use Rattle.kq_catalog.specs.kq_run_groups.Groups.{Grouping}
use Rattle.kq_view_body.specs.kq_run_gather.Bodies.{IsViewBody, OverflowsAt, StandsFor, columns_read}
use Rattle.kq_view_fold.proofs.kq_run_gather.AnyOrder.{StandsFor-any_order}
use Rattle.kq_catalog_journal.specs.declared.view.View.{View}
use Rattle.kq_catalog_journal.specs.History.{Log, Viewed, cursor, log, view_cursor, views}
use Rattle.kq_catalog_journal.specs.Records.{records, schema_of}
use Rattle.kq_catalog_journal.specs.Views.{covered, row_for}
use Rattle.kq_catalog_journal.proofs.Views.{IsOver}
use Rattle.kq_plan.specs.declared.work.LeafKind.TheVariants as kind
use Rattle.kq_plan.specs.Plans.{planned_of}
use Rattle.kq_engine_query.proofs.Covering.{read_covered, split_same}
use Rattle.kq_engine_query.proofs.Standing.{IsNumbered, numbered, view_from, view_part, view_up}
use Rattle.kq_engine_query.specs.Views.{view_numbered}
use Rattle.kq_engine_query.specs.kq_run_scan.Ranges.{rows_between}
use Rattle.kq_value.proofs.SameLemmas.{IsPermutation-from_Same, Row, Same-append, Same-from_permutation, Same-refl, Same-sym, Same-trans}
use Rattle.kq_value.specs.Same.{Same}
use Rattle.kq_engine_prepare.specs.declared.found.Folding.{Folding}
use Rattle.kq_engine_prepare.specs.Folds.{IsFoldingIn, OverflowsBeyond}

pub body_of : (l : Log) (v : View) → IsOver l v → IsViewBody (planned_of v.body)
body_of l v over = record { table = over.name; columns = columns_read (planned_of v.body); body = over.body }

-- what is read of the extents is what is covered in the range
pub read_since : (l : Log) (v : View) (held : HeldExtents) (above to : ℕ) (rows : List Row) → IsOver l v → IsPermutation (held_records (wide_held (schema_of l v.source) held)) (records l v.source)
    → rows ≡ rows_between above to (columns_read (planned_of v.body)) (held_records held) → IsPermutation (covered l v above to) rows
read_since l v held above to rows over same is =
    let read = rows_between above to (columns_read (planned_of v.body)) (held_records held) in
    subst (IsPermutation (covered l v above to)) (sym is) (IsPermutation-from_Same (covered l v above to) read (Same-sym read (covered l v above to) (read_covered v l over.columns held above to same)))

pub reads_since : {E : Type 0} (l : Log) (v : View) (held : HeldExtents) (above to low high : ℕ) (r : Result (List Row) E) → IsOver l v → IsPermutation (held_records (wide_held (schema_of l v.source) held)) (records l v.source)
    → low ≡ above → high ≡ to → IfOk r (λ rows. rows ≡ rows_between low high (columns_read (planned_of v.body)) (held_records held)) → IfOk r (λ rows. IsPermutation (covered l v above to) rows)
reads_since l v held above to low high (Ok rows) over same from up is =
    let columns = columns_read (planned_of v.body) in
    read_since l v held above to rows over same (is ∙ ap (λ (n : ℕ). rows_between n high columns (held_records held)) from ∙ ap (λ (n : ℕ). rows_between above n columns (held_records held)) up)
reads_since l v held above to low high (Err e) over same from up is = is

-- what is covered up to a cursor and what is covered behind it
both_covered : (l : Log) (v : View) (base at to : ℕ) (rows : List Row) → base ≤ at → at ≤ to → IsPermutation (covered l v at to) rows → Same (covered l v base at ++ rows) (covered l v base to)
both_covered l v base at to rows low high new =
    let had = covered l v base at in
    let more = covered l v at to in
    Same-trans (had ++ rows) (had ++ more) (covered l v base to)
    (Same-append had had rows more (Same-refl had) (Same-sym more rows (Same-from_permutation more rows new)))
    (Same-sym (covered l v base to) (had ++ more) (split_same (row_for v) base at to low high (records l v.source)))

-- a view that stands, with its part and the rows behind that in some order
module _ (c : CatalogView) (n : ℕ) (v : View) (part : Grouping) (rows : List Row) (sound : Sound c) (stands : view_numbered (hist c) n ≡ Some v)
    (holds : (w : Viewed) → slice_get (views (log (hist c))) n ≡ Some w → HoldsPart (hist c) n w.view part)
    (new : IsPermutation (covered (log (hist c)) v (view_cursor (hist c) n) (cursor (hist c))) rows) where
  -- what the part stands for
  abbrev had : List Row
  had = covered (log (hist c)) v v.base (view_cursor (hist c) n)

  held : HoldsPart (hist c) n v part
  held = view_part (hist c) n v part stands holds

  one : IsNumbered (hist c) n v
  one = numbered (hist c) n v stands

  pub part_of : IsPartOf (planned_of v.body) part
  part_of = record { had = had; stands = held }

  all_held : Same (had ++ rows) (covered (log (hist c)) v v.base (cursor (hist c)))
  all_held = both_covered (log (hist c)) v v.base (view_cursor (hist c) n) (cursor (hist c)) rows (view_from c n v sound stands) (view_up c n v kind.View sound stands) new

  pub folding_in : (f : Folding) → f.view ≡ n → f.to ≡ cursor (hist c) → ((had : List Row) → StandsFor (planned_of v.body) had part → StandsFor (planned_of v.body) (had ++ rows) f.part) → IsFoldingIn (hist c) n f
  folding_in f same to folds = record {
    of = same;
    viewed = one.viewed;
    stands = one.at;
    to = to;
    part = subst (λ (w : View). StandsFor (planned_of w.body) (covered (log (hist c)) w w.base (cursor (hist c))) f.part) (sym one.is) (StandsFor-any_order (planned_of v.body) (had ++ rows) (covered (log (hist c)) v v.base (cursor (hist c))) f.part all_held (folds had held));
  }

  pub overflows_in : (stage : ℕ) → OverflowsAt (planned_of v.body) rows stage → OverflowsBeyond (hist c) n stage
  overflows_in stage overflows = record {
    viewed = one.viewed;
    stands = one.at;
    order = rows;
    same = subst (λ (w : View). IsPermutation (covered (log (hist c)) w (view_cursor (hist c) n) (cursor (hist c))) rows) (sym one.is) new;
    overflows = subst (λ (w : View). OverflowsAt (planned_of w.body) rows stage) (sym one.is) overflows;
  }
