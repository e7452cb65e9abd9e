-- What comes later leaves the records of a range, also where their table gains columns.
use Rattle.std.proofs.Common.{◌≡◌, ◌≤◌, ◌<◌, refl, ℕ, zero, suc, ◌+◌, Bool, true, false, not, ◌&&◌, cond, List, [], ◌∷◌, ◌++◌, length, map, take, nat_eq, nat_lt, ap, sym, ◌∙◌, arith, append-nil, length-append}
use Rattle.std.specs.List.{filter}
use Rattle.std.proofs.lemmas.Bool.{lt-ltb}
use Rattle.std.proofs.lemmas.List.Elements.{filter-append}
use Rattle.kq_catalog_journal.specs.declared.batch.Batch.{Batch}
use Rattle.kq_catalog_journal.specs.declared.event.Commit.{Commit}
use Rattle.kq_catalog_journal.specs.declared.event.Commit.TheVariants.{CreateTable, SetPolicy, CreateView, AlterMerge, Ingest}
use Rattle.kq_catalog_journal.specs.History.{Log}
use Rattle.kq_catalog_journal.specs.Records.{batch_records, commit_records, records, records_from, records_given, schema_of}
use Rattle.kq_catalog_journal.proofs.Growing.{schema-go_on}
use Rattle.kq_catalog_journal.proofs.Unique.{records_from-append}
use Rattle.kq_store_rows.specs.Numbered.{numbered}
use Rattle.kq_value.specs.declared.record.Record.{Record}
use Rattle.kq_value.specs.declared.schema.Field.{Field}
use Rattle.kq_value.specs.declared.value.Value.{Value}
use Rattle.kq_value.specs.Typed.{missing_of}
use Rattle.kq_store_rows.specs.Widened.{widened, widened_record, widened_records}
use Rattle.kq_export_ranges.specs.Exported.{first_cells, is_between, rows_of_range}

-- records above a cursor are none of those up to it
past : (above to : ℕ) (r : Record) → to < r.id.cursor → is_between above to r ≡ false
past above to r later = ap (λ (b : Bool). nat_lt above r.id.cursor && not b) (lt-ltb to r.id.cursor later) ∙ and_false (nat_lt above r.id.cursor)
  where
    and_false : (b : Bool) → (b && false) ≡ false
    and_false true = refl
    and_false false = refl

numbered_past : (above to at ordinal : ℕ) (rows : List (List Value)) → to < at → filter (is_between above to) (numbered at ordinal rows) ≡ []
numbered_past above to at ordinal [] later = refl
numbered_past above to at ordinal (row ∷ rows) later =
    let r : Record = record { id = record { cursor = at; ordinal = ordinal }; row = row } in
    let rest = filter (is_between above to) (numbered at (ordinal + 1) rows) in
    ap (λ (b : Bool). cond b (r ∷ rest) rest) (past above to r later) ∙ numbered_past above to at (ordinal + 1) rows later

batch_records_past : (above to t at ordinal : ℕ) (bs : List Batch) → to < at → filter (is_between above to) (batch_records t at ordinal bs) ≡ []
batch_records_past above to t at ordinal [] later = refl
batch_records_past above to t at ordinal (b ∷ bs) later = by_test (nat_eq b.table t) (batch_records_past above to t at (ordinal + length b.rows) bs later) (batch_records_past above to t at ordinal bs later)
  where
    by_test : (is : Bool) → filter (is_between above to) (batch_records t at (ordinal + length b.rows) bs) ≡ [] → filter (is_between above to) (batch_records t at ordinal bs) ≡ []
        → filter (is_between above to) (cond is (numbered at ordinal b.rows ++ batch_records t at (ordinal + length b.rows) bs) (batch_records t at ordinal bs)) ≡ []
    by_test true rest same =
        filter-append (is_between above to) (numbered at ordinal b.rows) (batch_records t at (ordinal + length b.rows) bs)
        ∙ ap (λ (rs : List Record). rs ++ filter (is_between above to) (batch_records t at (ordinal + length b.rows) bs)) (numbered_past above to at ordinal b.rows later)
        ∙ rest
    by_test false rest same = same

given_past : (above to t at : ℕ) (c : Commit) → to < at → filter (is_between above to) (commit_records t at c) ≡ []
given_past above to t at (CreateTable name schema) later = refl
given_past above to t at (CreateView view) later = refl
given_past above to t at (SetPolicy table entries) later = refl
given_past above to t at (AlterMerge table columns) later = refl
given_past above to t at (Ingest batches failures) later = batch_records_past above to t at 0 batches later

records_past : (above to t n : ℕ) (l : Log) → to ≤ n → filter (is_between above to) (records_from t n l) ≡ []
records_past above to t n [] up = refl
records_past above to t n (c ∷ l) up =
    filter-append (is_between above to) (commit_records t (n + 1) c) (records_from t (n + 1) l)
    ∙ ap (λ (rs : List Record). rs ++ filter (is_between above to) (records_from t (n + 1) l)) (given_past above to t (n + 1) c (omega (arith, up)))
    ∙ records_past above to t (n + 1) l (omega (arith, up))

-- columns don't change which records are between
between_wide : (above to : ℕ) (fields : List Field) (rs : List Record) → filter (is_between above to) (widened_records fields rs) ≡ widened_records fields (filter (is_between above to) rs)
between_wide above to fields [] = refl
between_wide above to fields (r ∷ rs) = by_test (is_between above to r) (between_wide above to fields rs)
  where
    by_test : (b : Bool) → filter (is_between above to) (widened_records fields rs) ≡ widened_records fields (filter (is_between above to) rs)
        → cond b (widened_record fields r ∷ filter (is_between above to) (widened_records fields rs)) (filter (is_between above to) (widened_records fields rs)) ≡ widened_records fields (cond b (r ∷ filter (is_between above to) rs) (filter (is_between above to) rs))
    by_test true rest = ap (λ (xs : List Record). widened_record fields r ∷ xs) rest
    by_test false rest = rest

-- further columns don't change the first cells
cut_wide : (k : ℕ) (first more : List Field) (row : List Value) → k ≤ length first → take k (widened (first ++ more) row) ≡ take k (widened first row)
cut_wide zero first more row within = refl
cut_wide (suc k) [] more row within = absurd (omega (arith, within))
cut_wide (suc k) (f ∷ first) more [] within = ap (λ (vs : List Value). missing_of f.ty ∷ vs) (cut_wide k first more [] (omega (arith, within)))
cut_wide (suc k) (f ∷ first) more (v ∷ row) within = ap (λ (vs : List Value). v ∷ vs) (cut_wide k first more row (omega (arith, within)))

rows_wide : (k : ℕ) (first more : List Field) (rs : List Record) → k ≤ length first → map (first_cells k) (widened_records (first ++ more) rs) ≡ map (first_cells k) (widened_records first rs)
rows_wide k first more [] within = refl
rows_wide k first more (r ∷ rs) within =
    ap (λ (row : List Value). row ∷ map (first_cells k) (widened_records (first ++ more) rs)) (cut_wide k first more r.row within)
    ∙ ap (λ (rows : List (List Value)). first_cells k (widened_record first r) ∷ rows) (rows_wide k first more rs within)

pub rows-go_on : (l more : Log) (t width above to : ℕ) → width ≤ length (schema_of l t) → to ≤ length l → rows_of_range (l ++ more) t width above to ≡ rows_of_range l t width above to
rows-go_on l more t width above to within up =
    let first = schema_of l t in
    let rest = schema-go_on l more t in
    let p = is_between above to in
    let old = records_given l t in
    let new = records_from t (0 + length l) more in
    let all : filter p (records_given (l ++ more) t) ≡ filter p old =
    ap (filter p) (records_from-append t 0 l more) ∙ filter-append p old new ∙ ap (λ (rs : List Record). filter p old ++ rs) (records_past above to t (0 + length l) more (omega (arith, up)))
    ∙ append-nil (filter p old) in
    ap (map (first_cells width)) (between_wide above to (schema_of (l ++ more) t) (records_given (l ++ more) t) ∙ ap (widened_records (schema_of (l ++ more) t)) all)
    ∙ ap (λ (fields : List Field). map (first_cells width) (widened_records fields (filter p old))) rest.is
    ∙ rows_wide width first rest.more (filter p old) within
    ∙ sym (ap (map (first_cells width)) (between_wide above to first old))
