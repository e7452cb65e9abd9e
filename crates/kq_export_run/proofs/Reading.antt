-- What is read of a table's extents is what an export reads of a range.
use Rattle.std.proofs.Common.{◌≡◌, ◌<◌, ◌+◌, ◌∙◌, ap, sym, subst, arith, refl, ℕ, Bool, true, false, not, ◌&&◌, cond, nat_lt, List, [], ◌∷◌, ◌++◌, All, length, map, take, Some}
use Rattle.std.specs.List.{filter, slice_get, sum_by}
use Rattle.std.specs.List.Sorted.{IsPermutation}
use Rattle.std.proofs.lemmas.List.Elements.{All-cons, All-head, All-nil, All-tail}
use Rattle.std.proofs.lemmas.List.Sorted.{sum_by-IsPermutation}
use Rattle.std.proofs.lemmas.List.Sums.{sum_by-cons}
use Rattle.kq_value.specs.Computed.{Is}
use Rattle.kq_export_ranges.specs.Exported.{IsDefined, TableAlone, first_cells, is_between, rows_of_range}
use Rattle.kq_export_ranges.specs.Exports.{ExportView}
use Rattle.kq_store_extent.proofs.Wide.{held_records-wide}
use Rattle.kq_store_extent.specs.Seen.{HeldExtents, held_records, row_of}
use Rattle.kq_store_extent.specs.Wide.{wide_held}
use Rattle.kq_catalog_journal.specs.declared.table.Table.{Table}
use Rattle.kq_catalog_journal.specs.History.{History, log, tables}
use Rattle.kq_catalog_journal.specs.Records.{records, rows_in, schema_of}
use Rattle.kq_run_plan.specs.kq_run_scan.Ranges.{is_taken, row_under, rows_between}
use Rattle.kq_run_plan.specs.Outcomes.{Row}
use Rattle.kq_engine_query.proofs.Reading.{typed_held}
use Rattle.kq_engine_query.proofs.Standing.{table_typed}
use Rattle.kq_value.specs.declared.record.Record.{Record}
use Rattle.kq_value.specs.declared.schema.Field.{Field}
use Rattle.kq_value.specs.declared.value.Value.{Value}
use Rattle.kq_value.specs.Same.{Same, times}
use Rattle.kq_value.specs.Typed.{HasTypes, missing_of}
use Rattle.kq_value.specs.Values.{is_same_row}
use Rattle.kq_store_rows.specs.Widened.{widened, widened_record, widened_records}

-- ---- rows of the records that pass a test, in any order

module _ (f : Record → Row) where
  -- how often a record brings the row
  abbrev brings : Row → Bool → Record → ℕ
  brings q b r = cond b (cond (is_same_row q (f r)) 1 0) 0

  times_kept : (q : Row) (p : Record → Bool) (rs : List Record) → times q (map f (filter p rs)) ≡ sum_by (λ (r : Record). brings q (p r) r) rs
  times_kept q p [] = refl
  times_kept q p (r ∷ rs) = by_test (p r) (times_kept q p rs) ∙ sym (sum_by-cons (λ (x : Record). brings q (p x) x) r rs)
    where
      by_test : (b : Bool) → times q (map f (filter p rs)) ≡ sum_by (λ (x : Record). brings q (p x) x) rs
          → times q (map f (cond b (r ∷ filter p rs) (filter p rs))) ≡ brings q b r + sum_by (λ (x : Record). brings q (p x) x) rs
      by_test true rest = ap (λ (n : ℕ). brings q true r + n) rest
      by_test false rest = rest ∙ omega arith

  kept_same : (p : Record → Bool) (xs ys : List Record) → IsPermutation xs ys → Same (map f (filter p xs)) (map f (filter p ys))
  kept_same p xs ys same =
      record { each = λ q. times_kept q p xs ∙ sym (sum_by-IsPermutation (λ (r : Record). brings q (p r) r) xs ys same) ∙ sym (times_kept q p ys) }

-- ---- the first columns

cut_first : (first more : List Field) (row : List Value) → take (length first) (widened (first ++ more) row) ≡ take (length first) (widened first row)
cut_first [] more row = refl
cut_first (f ∷ first) more [] = ap (λ (vs : List Value). missing_of f.ty ∷ vs) (cut_first first more [])
cut_first (f ∷ first) more (v ∷ row) = ap (λ (vs : List Value). v ∷ vs) (cut_first first more row)

cut_typed : (first more : List Field) (row : List Value) → HasTypes (first ++ more) row → HasTypes first (take (length first) row)
cut_typed [] more row typed = tt
cut_typed (f ∷ first) more [] typed = absurd typed
cut_typed (f ∷ first) more (v ∷ row) typed = (typed.0, cut_typed first more row typed.1)

same_test : (b c : Bool) → cond b c false ≡ (b && c)
same_test true c = refl
same_test false c = refl

module _ (columns more : List Field) (above to : ℕ) where
  abbrev cut : Record → Row
  cut = first_cells (length columns)

  abbrev kept : List Record → List Record
  kept = filter (is_between above to)

  abbrev wide : List Record → List Record
  wide = widened_records (columns ++ more)

  read_rows : (rs : List Record) → rows_between above to columns rs ≡ map cut (kept (wide rs))
  read_rows [] = refl
  read_rows (r ∷ rs) =
      let taken = filter (is_taken above to) rs in
      let test = same_test (nat_lt above r.id.cursor) (not (nat_lt to r.id.cursor)) in
      ap (λ (b : Bool). map (row_under columns) (cond b (r ∷ taken) taken)) test ∙ by_test (is_between above to r) (read_rows rs)
    where
      by_test : (b : Bool) → rows_between above to columns rs ≡ map cut (kept (wide rs))
          → map (row_under columns) (cond b (r ∷ filter (is_taken above to) rs) (filter (is_taken above to) rs))
          ≡ map cut (cond b (widened_record (columns ++ more) r ∷ kept (wide rs)) (kept (wide rs)))
      by_test true rest =
          ap (λ (row : Row). row ∷ rows_between above to columns rs) (sym (cut_first columns more r.row))
          ∙ ap (λ (rows : List Row). cut (widened_record (columns ++ more) r) ∷ rows) rest
      by_test false rest = rest

  rows_typed : (rs : List Record) → All (HasTypes (columns ++ more)) (map row_of rs) → All (HasTypes columns) (map cut (kept rs))
  rows_typed [] typed = All-nil (HasTypes columns)
  rows_typed (r ∷ rs) typed = by_test (is_between above to r) (rows_typed rs (All-tail (HasTypes (columns ++ more)) r.row (map row_of rs) typed))
    where
      by_test : (b : Bool) → All (HasTypes columns) (map cut (kept rs)) → All (HasTypes columns) (map cut (cond b (r ∷ kept rs) (kept rs)))
      by_test true rest =
          All-cons (HasTypes columns) (cut r) (map cut (kept rs)) (cut_typed columns more r.row (All-head (HasTypes (columns ++ more)) r.row (map row_of rs) typed)) rest
      by_test false rest = rest

-- ---- what a snapshot's extents give

module _ (h : History) (e : ExportView) (is : IsDefined (log h) e) (held : HeldExtents)
    (same : IsPermutation (held_records (wide_held (schema_of (log h) e.table) held)) (records (log h) e.table))
    (typed : (t : Table) → slice_get (tables (log h)) e.table ≡ Some t → All (HasTypes t.schema) (rows_in h e.table)) where
  abbrev schema : List Field
  schema = schema_of (log h) e.table

  abbrev all : List Record
  all = held_records (wide_held schema held)

  abbrev cells : Record → Row
  cells = first_cells (length e.columns)

  all_typed : All (HasTypes (e.columns ++ is.more)) (map row_of all)
  all_typed =
      let rows = table_typed h e.table is.stands typed in
      subst (λ (fs : List Field). All (HasTypes fs) (map row_of all)) is.columns (typed_held schema h e.table all same rows)

  read_range : (above to : ℕ) → rows_between above to e.columns (held_records held) ≡ map cells (filter (is_between above to) all)
  read_range above to =
      read_rows e.columns is.more above to (held_records held)
      ∙ ap (λ (fs : List Field). map cells (filter (is_between above to) (widened_records fs (held_records held)))) (sym is.columns)
      ∙ ap (λ (rs : List Record). map cells (filter (is_between above to) rs)) (sym (held_records-wide schema held))

  pub range_read : (above to : ℕ) → TableAlone (rows_of_range (log h) e.table (length e.columns) above to) e.columns (Is (rows_between above to e.columns (held_records held)))
  range_read above to =
      let read = sym (read_range above to) in
      let there = kept_same cells (is_between above to) all (records (log h) e.table) same in (
        subst (λ (rows : List Row). Same rows (rows_of_range (log h) e.table (length e.columns) above to)) read there,
        subst (All (HasTypes e.columns)) read (rows_typed e.columns is.more above to all all_typed),
      )
