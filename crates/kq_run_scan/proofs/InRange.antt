-- The rows of the records of a range, by their places.
use Rattle.std.proofs.Common.{◌≡◌, ◌<◌, ◌≤◌, ◌+◌, ℕ, suc, Bool, true, false, not, cond, List, [], ◌∷◌, ◌++◌, Some, length, map, take, get_or, refl, sym, ap, subst, ◌∙◌, arith, append-nil, append_assoc, slice_get}
use Rattle.std.specs.Prelude.{Vec, nat_lt}
use Rattle.std.specs.List.{All, filter, list_any, sum_by}
use Rattle.std.specs.declared.alloc.Global.{Global}
use Rattle.std.proofs.lemmas.Bool.{false≢true, false_from_ne_true, or_parts}
use Rattle.std.proofs.lemmas.List.{get_or-map, length-map, length-take-le, map-append, take_more}
use Rattle.std.proofs.lemmas.List.Elements.{All-cons, All-nil, filter-append}
use Rattle.std.proofs.lemmas.List.Folds.{list_any-append, list_any_at}
use Rattle.std.proofs.lemmas.Option.{get_or_from_slice_get}
use Rattle.kq_store_column.proofs.Bagged.{cells_between}
use Rattle.kq_store_extent.specs.Seen.{ExtentView, HeldExtents, held_extents, held_records, id_of, records_in, row_of}
use Rattle.kq_store_extent.specs.Wide.{wide, wide_held}
use Rattle.kq_store_extent.proofs.Walked.{records_in-held}
use Rattle.kq_store_extent.proofs.Wide.{held_extents-wide}
use Rattle.kq_store_rows.specs.Chunks.{HasWidth, row_at, same_width}
use Rattle.kq_store_rows.proofs.Typed.{same_width-wide}
use Rattle.kq_run_row_operators.specs.kq_eval_pieces.Operators.{Row}
use Rattle.kq_value.specs.declared.record.Record.{Record}
use Rattle.kq_value.specs.declared.record_id.RecordId.{RecordId}
use Rattle.kq_value.specs.declared.schema.Field.{Field}
use Rattle.kq_value.specs.declared.value.Value.{Value}
use Rattle.kq_store_rows.specs.Widened.{widened}
use Rattle.kq_run_scan.specs.Beside.{both_of, cells_to}
use Rattle.kq_run_scan.specs.Lent.{rows_of}
use Rattle.kq_run_scan.specs.Pairs.{rows_beside, sources_beside}
use Rattle.kq_run_scan.specs.Ranges.{is_between, is_later, is_taken, places_between, row_under, rows_between}
use Rattle.kq_run_scan.specs.Unread.{rows_among}
use Rattle.kq_run_scan.proofs.Pairing.{sum_parts}

between-append : (above to : ℕ) (fields : List Field) (xs ys : List Record) → rows_between above to fields (xs ++ ys) ≡ rows_between above to fields xs ++ rows_between above to fields ys
between-append above to fields xs ys =
    ap (map (row_under fields)) (filter-append (is_taken above to) xs ys) ∙ map-append (row_under fields) (filter (is_taken above to) xs) (filter (is_taken above to) ys)

-- ---- the places

earlier : (above to n : ℕ) → nat_lt above n ≡ false → is_between above to n ≡ false
earlier above to n fails = ap (λ (b : Bool). cond b (not (nat_lt to n)) false) fails

module _ (above to : ℕ) where
  abbrev Later : Record → Bool
  Later r = nat_lt above r.id.cursor

  -- none of them lie in an extent that is passed over
  none_from : (k : ℕ) (rs : List Record) → list_any Later rs ≡ false → places_between above to k rs ≡ []
  none_from k [] fails = refl
  none_from k (r ∷ rs) fails =
      let here : Later r ≡ false = false_from_ne_true (Later r) (λ holds. false≢true (sym fails ∙ list_any_at Later (r ∷ rs) 0 r (omega arith) holds)) in
      let rest : list_any Later rs ≡ false = (or_parts (list_any Later (r ∷ [])) (list_any Later rs) (sym (list_any-append Later (r ∷ []) rs) ∙ fails)).1 in
      ap (λ (b : Bool). cond b ((k, 0) ∷ []) [] ++ places_between above to (k + 1) rs) (earlier above to r.id.cursor here) ∙ none_from (k + 1) rs rest

  pub passed_over : (e : ExtentView) → is_later above e ≡ false → [] ≡ places_between above to 0 e.records
  passed_over e fails = sym (none_from 0 e.records fails)

  -- those of one record more
  pub places_behind : (rs : List Record) (k n : ℕ) (r : Record) → n ≡ k + length rs → places_between above to k (rs ++ r ∷ []) ≡ places_between above to k rs ++ cond (is_taken above to r) ((n, 0) ∷ []) []
  places_behind [] k n r is =
      let same : n ≡ k = omega (arith, is) in
      append-nil (cond (is_taken above to r) ((k, 0) ∷ []) []) ∙ ap (λ (m : ℕ). cond (is_taken above to r) ((m, 0) ∷ []) []) (sym same)
  places_behind (x ∷ rs) k n r is =
      let here : List (ℕ × ℕ) = cond (is_taken above to x) ((k, 0) ∷ []) [] in
      ap (λ (ps : List (ℕ × ℕ)). here ++ ps) (places_behind rs (k + 1) n r (omega (arith, is)))
      ∙ sym (append_assoc here (places_between above to (k + 1) rs) (cond (is_taken above to r) ((n, 0) ∷ []) []))

  pub places_more : (rs : List Record) (i : ℕ) (d : Record) (b : Bool) → i < length rs → is_taken above to (get_or rs i d) ≡ b
      → places_between above to 0 (take (i + 1) rs) ≡ places_between above to 0 (take i rs) ++ cond b ((i, 0) ∷ []) []
  places_more rs i d b within is =
      let long = length-take-le i rs (omega (arith, within)) in
      ap (places_between above to 0) (take_more rs i d within) ∙ places_behind (take i rs) 0 i (get_or rs i d) (omega (arith, long))
      ∙ ap (λ (c : Bool). places_between above to 0 (take i rs) ++ cond c ((i, 0) ∷ []) []) is

-- a record as the code has it
pub nobody : RecordId → Record
nobody id = record { id = id; row = [] }

pub id_at : (rs : List Record) (i : ℕ) (id : RecordId) (d : Record) → i < length rs → slice_get (map id_of rs) i ≡ Some id → (get_or rs i d).id ≡ id
id_at rs i id d within is = sym (get_or-map id_of rs i d id within) ∙ get_or_from_slice_get (map id_of rs) i id id is

-- ---- the rows at the places

long_widened : (fields : List Field) (row : List Value) → length fields ≤ length (widened fields row)
long_widened [] row = omega arith
long_widened (f ∷ fields) [] = let more = long_widened fields [] in omega (arith, more)
long_widened (f ∷ fields) (v ∷ row) = let more = long_widened fields row in omega (arith, more)

long_under : (fields : List Field) (row : List Value) → length (take (length fields) (widened fields row)) ≡ length fields
long_under fields row = length-take-le (length fields) (widened fields row) (long_widened fields row)

module _ (fields : List Field) (others : List Row) where
  abbrev width : ℕ
  width = length fields

  -- a row beside no cells of others is cut
  cut_row : (row other : Row) → both_of width 0 (widened fields row) other ≡ take width (widened fields row)
  cut_row row other =
      append-nil (cells_to width (widened fields row)) ∙ cells_between (widened fields row) 0 width (let long = long_widened fields row in omega (arith, long))

  abbrev wide_row : Record → Row
  wide_row r = widened fields r.row

  module _ (above to : ℕ) where
    made_from : (left : List Row) (rs : List Record) (k : ℕ) → ((i m : ℕ) → m ≡ k + i → row_at left m ≡ get_or (map wide_row rs) i [])
        → rows_beside width 0 left others (places_between above to k rs) ≡ rows_between above to fields rs
    made_from left [] k at = refl
    made_from left (r ∷ rs) k at = by_test (is_taken above to r) (made_from left rs (k + 1) (λ i m is. at (suc i) m (omega (arith, is))))
      where
        by_test : (b : Bool) → rows_beside width 0 left others (places_between above to (k + 1) rs) ≡ rows_between above to fields rs
            → rows_beside width 0 left others (cond b ((k, 0) ∷ []) [] ++ places_between above to (k + 1) rs)
            ≡ map (row_under fields) (cond b (r ∷ filter (is_taken above to) rs) (filter (is_taken above to) rs))
        by_test true rest = λ t. (ap (λ (row : Row). both_of width 0 row (row_at others 0)) (at 0 k (omega arith)) ∙ cut_row r.row (row_at others 0)) t ∷ rest t
        by_test false rest = rest

    rows_wide : (rs : List Record) → map row_of (map (λ (r : Record). record { id = r.id; row = widened fields r.row }) rs) ≡ map wide_row rs
    rows_wide [] = refl
    rows_wide (r ∷ rs) = ap (λ (rows : List Row). wide_row r ∷ rows) (rows_wide rs)

    one_made : (e : ExtentView) → rows_beside width 0 (rows_of (wide fields e)) others (places_between above to 0 e.records) ≡ rows_between above to fields e.records
    one_made e =
        made_from (rows_of (wide fields e)) e.records 0
        (λ i m is. let same : m ≡ i = omega (arith, is) in (λ t. row_at (rows_wide e.records t) (same t)))

    abbrev places_of : ExtentView → List (ℕ × ℕ)
    places_of e = places_between above to 0 e.records

    all_made : (es : List ExtentView) → rows_among (sources_beside width 0 others (map rows_of (map (wide fields) es)) (map places_of es)) ≡ rows_between above to fields (records_in es)
    all_made [] = refl
    all_made (e ∷ es) = (λ t. one_made e t ++ all_made es t) ∙ sym (between-append above to fields e.records (records_in es))

    module _ (held : HeldExtents) (parts : List (Vec (ℕ × ℕ) Global)) (are : map (λ pairs. pairs.items) parts ≡ map places_of (held_extents held)) where
      abbrev left : List ExtentView
      left = held_extents (wide_held fields held)

      pub long_parts : length parts ≡ length left
      long_parts =
          sym (length-map parts (λ pairs. pairs.items)) ∙ ap (λ (all : List (List (ℕ × ℕ))). length all) are ∙ length-map (held_extents held) places_of
          ∙ sym (length-map (held_extents held) (wide fields)) ∙ sym (ap (λ (es : List ExtentView). length es) (held_extents-wide fields held))

      pub held_made : rows_among (sources_beside width 0 others (map rows_of left) (map (λ pairs. pairs.items) parts)) ≡ rows_between above to fields (held_records held)
      held_made =
          (λ t. rows_among (sources_beside width 0 others (map rows_of (held_extents-wide fields held t)) (are t))) ∙ all_made (held_extents held)
          ∙ ap (rows_between above to fields) (records_in-held held)

      -- there are no more of them than records
      pub few_made : sum_by (λ pairs. length pairs.items) parts ≤ length (held_records held)
      few_made =
          let sum = sum_parts width 0 others left parts long_parts in
          let rows = ap (λ (all : List Row). length all) held_made in
          let long = length-map (filter (is_taken above to) (held_records held)) (row_under fields) in
          let few = few_kept (is_taken above to) (held_records held) in
          omega (arith, sum, rows, long, few)
        where
          few_kept : (p : Record → Bool) (rs : List Record) → length (filter p rs) ≤ length rs
          few_kept p [] = omega arith
          few_kept p (r ∷ rs) = by_test (p r) (few_kept p rs)
            where
              by_test : (b : Bool) → length (filter p rs) ≤ length rs → length (cond b (r ∷ filter p rs) (filter p rs)) ≤ length (r ∷ rs)
              by_test true rest = omega (arith, rest)
              by_test false rest = omega (arith, rest)

-- ---- the rows are of one width

all_long : (fields : List Field) (rs : List Record) → All (HasWidth (length fields)) (map (row_under fields) rs)
all_long fields [] = All-nil (HasWidth (length fields))
all_long fields (r ∷ rs) = All-cons (HasWidth (length fields)) (row_under fields r) (map (row_under fields) rs) (long_under fields r.row) (all_long fields rs)

pub even_between : (above to : ℕ) (fields : List Field) (records : List Record) (rows : List Row) → rows ≡ rows_between above to fields records → same_width rows
even_between above to fields records rows is =
    same_width-wide (length fields) rows (subst (All (HasWidth (length fields))) (sym is) (all_long fields (filter (is_taken above to) records)))
