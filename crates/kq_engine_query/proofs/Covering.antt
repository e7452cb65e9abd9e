-- What a view covers: what it covers up to its cursor, and what came behind that.
use Rattle.std.proofs.Common.{◌≡◌, ◌≤◌, ◌+◌, ℕ, Bool, true, false, not, ◌&&◌, cond, nat_lt, List, [], ◌∷◌, ◌++◌, All, length, map, take, refl, sym, ap, ◌∙◌, subst, arith}
use Rattle.std.specs.List.{filter, sum_by}
use Rattle.std.specs.List.Sorted.{IsPermutation}
use Rattle.std.proofs.lemmas.Bool.{ltb-false, ltb-true}
use Rattle.std.proofs.lemmas.List.Elements.{All-cons, All-head, All-nil, All-tail}
use Rattle.std.proofs.lemmas.List.Sums.{sum_by-cons}
use Rattle.std.proofs.lemmas.List.Sorted.{sum_by-IsPermutation}
use Rattle.kq_store_extent.proofs.Wide.{held_records-wide}
use Rattle.kq_store_extent.specs.Seen.{HeldExtents, held_records, row_of}
use Rattle.kq_store_extent.specs.Wide.{wide_held}
use Rattle.kq_run_plan.specs.kq_run_gather.Bodies.{columns_read}
use Rattle.kq_catalog_journal.specs.declared.view.View.{View}
use Rattle.kq_catalog_journal.specs.History.{Log}
use Rattle.kq_catalog_journal.specs.Records.{records, schema_of}
use Rattle.kq_catalog_journal.specs.Views.{covered, is_between, row_for}
use Rattle.kq_catalog_journal.proofs.Growing.{Extends}
use Rattle.kq_plan.specs.Plans.{planned_of}
use Rattle.kq_run_plan.specs.kq_run_scan.Ranges.{is_taken, row_under, rows_between}
use Rattle.kq_value.specs.declared.record.Record.{Record}
use Rattle.kq_value.specs.declared.schema.Field.{Field}
use Rattle.kq_value.specs.declared.value.Value.{Value}
use Rattle.kq_value.specs.Same.{Same, times}
use Rattle.kq_value.specs.Typed.{HasTypes, missing_of}
use Rattle.kq_value.specs.Values.{is_same_row}
use Rattle.kq_value.proofs.SameLemmas.{Row, Same-append, Same-refl, Same-sym, Same-trans, times-append}
use Rattle.kq_store_rows.specs.Widened.{widened, widened_record, widened_records}

-- ---- rows of the records that pass a test

module _ (f : Record → Row) where
  -- how often a record brings the row
  abbrev brings : Row → Bool → Record → ℕ
  brings q b r = cond b (cond (is_same_row q (f r)) 1 0) 0

  abbrev rows_by : (Record → Bool) → List Record → List Row
  rows_by p rs = map f (filter p rs)

  times_kept : (q : Row) (p : Record → Bool) (rs : List Record) → times q (rows_by p rs) ≡ sum_by (λ (r : Record). brings q (p r) r) rs
  times_kept q p [] = refl
  times_kept q p (r ∷ rs) = by_test (p r) (times_kept q p rs) ∙ sym (sum_by-cons (λ (x : Record). brings q (p x) x) r rs)
    where
      by_test : (b : Bool) → times q (rows_by p rs) ≡ sum_by (λ (x : Record). brings q (p x) x) rs → times q (map f (cond b (r ∷ filter p rs) (filter p rs))) ≡ brings q b r + sum_by (λ (x : Record). brings q (p x) x) rs
      by_test true rest = ap (λ (n : ℕ). brings q true r + n) rest
      by_test false rest = rest ∙ omega arith

  kept_same : (p : Record → Bool) (xs ys : List Record) → IsPermutation xs ys → Same (rows_by p xs) (rows_by p ys)
  kept_same p xs ys same = record { each = λ q. times_kept q p xs ∙ sym (sum_by-IsPermutation (λ (r : Record). brings q (p r) r) xs ys same) ∙ sym (times_kept q p ys) }

  -- records in a range are those up to a cursor within it, and those above that
  module _ (a b c : ℕ) (low : a ≤ b) (high : b ≤ c) where
    one : (q : Row) (r : Record) (x y z : Bool) → nat_lt a r.id.cursor ≡ x → nat_lt b r.id.cursor ≡ y → nat_lt c r.id.cursor ≡ z
        → brings q (x && not z) r ≡ brings q (x && not y) r + brings q (y && not z) r
    one q r true true true p s t = omega arith
    one q r true true false p s t = omega arith
    one q r true false false p s t = omega arith
    one q r false false false p s t = omega arith
    one q r true false true p s t = let l = ltb-false b r.id.cursor s in let g = ltb-true c r.id.cursor t in absurd (omega (arith, l, g, high))
    one q r false true z p s t = let l = ltb-false a r.id.cursor p in let g = ltb-true b r.id.cursor s in absurd (omega (arith, l, g, low))
    one q r false false true p s t = let l = ltb-false b r.id.cursor s in let g = ltb-true c r.id.cursor t in absurd (omega (arith, l, g, high))

    abbrev all_of : Row → ℕ → ℕ → List Record → ℕ
    all_of q above to = sum_by (λ (r : Record). brings q (is_between above to r) r)

    counted : (q : Row) (rs : List Record) → all_of q a c rs ≡ all_of q a b rs + all_of q b c rs
    counted q [] = refl
    counted q (r ∷ rs) =
        let here = one q r (nat_lt a r.id.cursor) (nat_lt b r.id.cursor) (nat_lt c r.id.cursor) refl refl refl in
        let rest = counted q rs in
        let all = sum_by-cons (λ (x : Record). brings q (is_between a c x) x) r rs in
        let first = sum_by-cons (λ (x : Record). brings q (is_between a b x) x) r rs in
        let second = sum_by-cons (λ (x : Record). brings q (is_between b c x) x) r rs in
        omega (arith, here, rest, all, first, second)

    pub split_same : (rs : List Record) → Same (rows_by (is_between a c) rs) (rows_by (is_between a b) rs ++ rows_by (is_between b c) rs)
    split_same rs = record {
      each = λ q.
          let all = times_kept q (is_between a c) rs in
          let first = times_kept q (is_between a b) rs in
          let second = times_kept q (is_between b c) rs in
          let both = times-append q (rows_by (is_between a b) rs) (rows_by (is_between b c) rs) in
          all ∙ counted q rs ∙ ap (λ (n : ℕ). n + all_of q b c rs) (sym first) ∙ ap (λ (n : ℕ). times q (rows_by (is_between a b) rs) + n) (sym second) ∙ sym both;
    }

-- ---- the first columns

-- a row under columns, cut to the first of them
cut_first : (first more : List Field) (row : List Value) → take (length first) (widened (first ++ more) row) ≡ take (length first) (widened first row)
cut_first [] more row = refl
cut_first (f ∷ first) more [] = ap (λ (vs : List Value). missing_of f.ty ∷ vs) (cut_first first more [])
cut_first (f ∷ first) more (v ∷ row) = ap (λ (vs : List Value). v ∷ vs) (cut_first first more row)

cut_typed : (first more : List Field) (row : List Value) → HasTypes (first ++ more) row → HasTypes first (take (length first) row)
cut_typed [] more row typed = tt
cut_typed (f ∷ first) more [] typed = absurd typed
cut_typed (f ∷ first) more (v ∷ row) typed = (typed.0, cut_typed first more row typed.1)

same_test : (b c : Bool) → cond b c false ≡ (b && c)
same_test true c = refl
same_test false c = refl

module _ (v : View) where
  abbrev columns : List Field
  columns = columns_read (planned_of v.body)

  -- what is read of records, and what the view reads of them under its table's columns
  pub read_rows : (above to : ℕ) (more : List Field) (rs : List Record) → rows_between above to columns rs ≡ map (row_for v) (filter (is_between above to) (widened_records (columns ++ more) rs))
  read_rows above to more [] = refl
  read_rows above to more (r ∷ rs) =
      let rest = widened_records (columns ++ more) rs in
      ap (λ (b : Bool). map (row_under columns) (cond b (r ∷ filter (is_taken above to) rs) (filter (is_taken above to) rs))) (same_test (nat_lt above r.id.cursor) (not (nat_lt to r.id.cursor)))
      ∙ by_test (is_between above to r) (read_rows above to more rs)
    where
      by_test : (b : Bool) → rows_between above to columns rs ≡ map (row_for v) (filter (is_between above to) (widened_records (columns ++ more) rs))
          → map (row_under columns) (cond b (r ∷ filter (is_taken above to) rs) (filter (is_taken above to) rs))
          ≡ map (row_for v) (cond b (widened_record (columns ++ more) r ∷ filter (is_between above to) (widened_records (columns ++ more) rs)) (filter (is_between above to) (widened_records (columns ++ more) rs)))
      by_test true rest =
          ap (λ (row : Row). row ∷ rows_between above to columns rs) (sym (cut_first columns more r.row))
          ∙ ap (λ (rows : List Row). row_for v (widened_record (columns ++ more) r) ∷ rows) rest
      by_test false rest = rest

  rows_typed : (above to : ℕ) (more : List Field) (rs : List Record) → All (HasTypes (columns ++ more)) (map row_of rs) → All (HasTypes columns) (map (row_for v) (filter (is_between above to) rs))
  rows_typed above to more [] typed = All-nil (HasTypes columns)
  rows_typed above to more (r ∷ rs) typed =
      by_test (is_between above to r) (rows_typed above to more rs (All-tail (HasTypes (columns ++ more)) r.row (map row_of rs) typed))
    where
      by_test : (b : Bool) → All (HasTypes columns) (map (row_for v) (filter (is_between above to) rs)) → All (HasTypes columns) (map (row_for v) (cond b (r ∷ filter (is_between above to) rs) (filter (is_between above to) rs)))
      by_test true rest = All-cons (HasTypes columns) (row_for v r) (map (row_for v) (filter (is_between above to) rs)) (cut_typed columns more r.row (All-head (HasTypes (columns ++ more)) r.row (map row_of rs) typed)) rest
      by_test false rest = rest

  module _ (l : Log) (over : Extends columns (schema_of l v.source)) where
    pub covered_typed : (above to : ℕ) → All (HasTypes (schema_of l v.source)) (map row_of (records l v.source)) → All (HasTypes columns) (covered l v above to)
    covered_typed above to typed = rows_typed above to over.more (records l v.source) (subst (λ (fs : List Field). All (HasTypes fs) (map row_of (records l v.source))) over.is typed)

    -- what is read of a table's extents is what is covered
    pub read_covered : (held : HeldExtents) (above to : ℕ) → IsPermutation (held_records (wide_held (schema_of l v.source) held)) (records l v.source)
        → Same (rows_between above to columns (held_records held)) (covered l v above to)
    read_covered held above to same =
        let schema = schema_of l v.source in
        let is : rows_between above to columns (held_records held) ≡ map (row_for v) (filter (is_between above to) (held_records (wide_held schema held))) =
        read_rows above to over.more (held_records held)
        ∙ ap (λ (fs : List Field). map (row_for v) (filter (is_between above to) (widened_records fs (held_records held)))) (sym over.is)
        ∙ ap (λ (rs : List Record). map (row_for v) (filter (is_between above to) rs)) (sym (held_records-wide schema held)) in
        subst (λ (rows : List Row). Same rows (covered l v above to)) (sym is) (kept_same (row_for v) (is_between above to) (held_records (wide_held schema held)) (records l v.source) same)

    -- what is covered up to a cursor, and behind it what is read above that
    pub all_covered : (held : HeldExtents) (base mark to : ℕ) → base ≤ mark → mark ≤ to
        → IsPermutation (held_records (wide_held (schema_of l v.source) held)) (records l v.source)
        → Same (covered l v base mark ++ rows_between mark to columns (held_records held)) (covered l v base to)
    all_covered held base mark to low high same =
        let had = covered l v base mark in
        let delta = rows_between mark to columns (held_records held) in
        Same-trans (had ++ delta) (had ++ covered l v mark to) (covered l v base to)
        (Same-append had had delta (covered l v mark to) (Same-refl had) (read_covered held mark to same))
        (Same-sym (covered l v base to) (covered l v base mark ++ covered l v mark to) (split_same (row_for v) base mark to low high (records l v.source)))

-- ---- an empty range

pub none_read : (above to : ℕ) (fields : List Field) (rs : List Record) → to ≤ above → rows_between above to fields rs ≡ []
none_read above to fields [] low = refl
none_read above to fields (r ∷ rs) low = by_tests (nat_lt above r.id.cursor) (nat_lt to r.id.cursor) refl refl (none_read above to fields rs low)
  where
    by_tests : (x y : Bool) → nat_lt above r.id.cursor ≡ x → nat_lt to r.id.cursor ≡ y → rows_between above to fields rs ≡ []
        → map (row_under fields) (cond (cond x (not y) false) (r ∷ filter (is_taken above to) rs) (filter (is_taken above to) rs)) ≡ []
    by_tests true true p q rest = rest
    by_tests false y p q rest = rest
    by_tests true false p q rest = let l = ltb-true above r.id.cursor p in let g = ltb-false to r.id.cursor q in absurd (omega (arith, l, g, low))
