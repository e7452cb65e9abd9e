-- What the tables of a snapshot give beside the rows of a batch.
use Rattle.std.proofs.Common.{◌≡◌, ◌<◌, ◌^◌, ℕ, [], List, All, Option, Some, Result, Ok, Err, IfOk, length, map, option_map, take, unwrap_or, cond, ap, sym, ◌∙◌, subst, arith}
use Rattle.std.specs.List.{slice_get}
use Rattle.std.specs.List.Sorted.{IsPermutation}
use Rattle.std.proofs.lemmas.Bool.{eq-eqb}
use Rattle.std.proofs.lemmas.List.Sorted.{All-permutation, IsPermutation-map, IsPermutation-sym, length_permutation}
use Rattle.kq_policy_cascade.specs.Lent.{HoldsRows}
use Rattle.kq_value.specs.Computed.{Is}
use Rattle.kq_store_extent.specs.Seen.{HeldExtents, held_records, row_of}
use Rattle.kq_store_extent.specs.Wide.{wide_held}
use Rattle.kq_store_extent.proofs.Wide.{held_records-wide}
use Rattle.kq_run_plan.specs.kq_run_scan.Lent.{AreLent, rows_held}
use Rattle.kq_catalog_journal.specs.declared.table.Table.{Table}
use Rattle.kq_catalog_journal.specs.Beside.{TableBeside, cut_to, rows_beside}
use Rattle.kq_catalog_journal.specs.Derived.{Row}
use Rattle.kq_catalog_journal.specs.History.{History, Log, NumberedTable, log, table_numbered, tables}
use Rattle.kq_catalog_journal.specs.Records.{records, rows_in, schema_of}
use Rattle.kq_catalog_journal.proofs.Tables.{table_numbered-at}
use Rattle.kq_store_rows.specs.Chunks.{same_width}
use Rattle.kq_store_rows.proofs.Typed.{same_width-typed}
use Rattle.kq_value.specs.declared.schema.Field.{Field}
use Rattle.kq_value.specs.Same.{Same}
use Rattle.kq_value.specs.Typed.{HasTypes}
use Rattle.kq_value.proofs.SameLemmas.{Same-from_permutation, Same-refl}
use Rattle.kq_store_rows.proofs.WidenedLemmas.{widened_records-same}
use Rattle.kq_policy_run.specs.Reading.{IsFirstOf}
use Rattle.kq_policy_run.proofs.Cutting.{all_typed_take, all_whole}

pub schema_at : (l : Log) (number : ℕ) (t : Table) → slice_get (tables l) number ≡ Some t → schema_of l number ≡ t.schema
schema_at l number t at = ap (λ (o : Option Table). unwrap_or (option_map (λ (x : Table). x.schema) o) []) at

-- rows that a call gives are some, of which this holds
pub of_given : {E : Type 0} (r : Result (List Row) E) (rows : List Row) (P : List Row → Type 0) → IfOk r (λ given. given ≡ rows) → P rows → IfOk r P
of_given (Ok given) rows P is here = subst P (sym is) here
of_given (Err e) rows P is here = tt

-- ---- a table's records

module _ (h : History) (number : ℕ) (t : Table) (held : HeldExtents) (at : slice_get (tables (log h)) number ≡ Some t)
    (same : IsPermutation (held_records (wide_held (schema_of (log h) number) held)) (records (log h) number)) (typed : All (HasTypes t.schema) (rows_in h number)) where
  abbrev rows : List Row
  rows = rows_held (wide_held t.schema held)

  under : IsPermutation (held_records (wide_held t.schema held)) (records (log h) number)
  under = subst (λ (fields : List Field). IsPermutation (held_records (wide_held fields held)) (records (log h) number)) (schema_at (log h) number t at) same

  once : IsPermutation rows (rows_in h number)
  once = IsPermutation-map row_of (held_records (wide_held t.schema held)) (records (log h) number) under

  rows_typed : All (HasTypes t.schema) rows
  rows_typed = All-permutation (HasTypes t.schema) (rows_in h number) rows (IsPermutation-sym rows (rows_in h number) once) typed

  pub wide_rows : same_width rows
  wide_rows = same_width-typed t.schema rows rows_typed

  pub may_lend : length (records (log h) number) < 2 ^ 63 → AreLent (wide_held t.schema held)
  may_lend few = let long = length_permutation (held_records (wide_held t.schema held)) (records (log h) number) under in record { wide = wide_rows; small = omega (arith, long, few) }

  -- under the first of its columns
  module _ (columns : List Field) (first : columns ≡ take (length columns) t.schema) where
    pub cut_same : Same (map (take (length columns)) rows) (cut_to columns (rows_in h number))
    cut_same = Same-from_permutation (map (take (length columns)) rows) (cut_to columns (rows_in h number)) (IsPermutation-map (take (length columns)) rows (rows_in h number) once)

    pub cut_typed : All (HasTypes columns) (map (take (length columns)) rows)
    cut_typed = subst (λ (fs : List Field). All (HasTypes fs) (map (take (length columns)) rows)) (sym first) (all_typed_take (length columns) t.schema rows rows_typed)

    -- which are all
    pub whole : length columns ≡ length t.schema → map (take (length columns)) rows ≡ rows
    whole all = ap (λ (n : ℕ). map (take n) rows) all ∙ all_whole t.schema rows rows_typed

    pub whole_same : length columns ≡ length t.schema → Same rows (cut_to columns (rows_in h number))
    whole_same all = subst (λ (rs : List Row). Same rs (cut_to columns (rows_in h number))) (whole all) cut_same

    pub whole_typed : length columns ≡ length t.schema → All (HasTypes columns) rows
    whole_typed all = subst (All (HasTypes columns)) (whole all) cut_typed

-- copies of the columns and of the extents are lent as those are
pub copies_lent : (fields copied : List Field) (held shared : HeldExtents) → copied ≡ fields → shared ≡ held → AreLent (wide_held fields held) → AreLent (wide_held copied shared)
copies_lent fields copied held shared same also lent =
    subst (λ (t : HeldExtents). AreLent (wide_held copied t)) (sym also) (subst (λ (fs : List Field). AreLent (wide_held fs held)) (sym same) lent)

pub copies_hold : (fields copied : List Field) (held shared : HeldExtents) → copied ≡ fields → shared ≡ held → rows_held (wide_held copied shared) ≡ rows_held (wide_held fields held)
copies_hold fields copied held shared same also =
    ap (λ (t : HeldExtents). rows_held (wide_held copied t)) also ∙ ap (λ (fs : List Field). rows_held (wide_held fs held)) same

-- ---- a batch

-- extents that hold rows of a table's types hold them under its columns too
module _ (fields : List Field) (held : HeldExtents) (batch : List Row) (holds : HoldsRows held batch) (typed : All (HasTypes fields) batch) where
  unwidened : held_records (wide_held fields held) ≡ held_records held
  unwidened = held_records-wide fields held ∙ widened_records-same fields (held_records held) (subst (All (HasTypes fields)) (sym holds.are) typed)

  pub batch_held : rows_held (wide_held fields held) ≡ batch
  batch_held = ap (map row_of) unwidened ∙ holds.are

  pub batch_lent : AreLent (wide_held fields held)
  batch_lent =
      let few = holds.small in
      let long = ap length unwidened in
      record { wide = subst (λ (rs : List Row). same_width rs) (sym batch_held) (same_width-typed fields batch typed); small = omega (arith, long, few) }

  -- and where so many cells are read as there are columns, they are read whole
  pub batch_whole : (n : ℕ) → n ≡ length fields → rows_held (wide_held fields held) ≡ map (take n) batch
  batch_whole n all = batch_held ∙ sym (ap (λ (k : ℕ). map (take k) batch) all ∙ all_whole fields batch typed)

-- ---- the source

some_same : {X : Type 0} {x z : X} → Some x ≡ Some z → x ≡ z
some_same h = cc

-- it gives the rows of the batch, cut to its first columns
pub source_beside : (l : Log) (source : ℕ) (batch : List Row) (said : List ℕ) (columns : List Field) (n : NumberedTable) → table_numbered said (tables l) ≡ Some n → IsFirstOf l said columns → n.number ≡ source → All (HasTypes (schema_of l source)) batch
    → TableBeside l source batch columns (table_numbered said (tables l)) (Is (map (take (length columns)) batch))
source_beside l source batch said columns n finds first own typed =
    let found : first.found ≡ n = some_same (sym first.finds ∙ finds) in
    let schema : schema_of l source ≡ n.table.schema = ap (schema_of l) (sym own) ∙ schema_at l n.number n.table (table_numbered-at said (tables l) n finds).1 in
    let is : columns ≡ take (length columns) (schema_of l source) = first.first ∙ ap (λ (f : NumberedTable). take (length columns) f.table.schema) found ∙ ap (take (length columns)) (sym schema) in
    let cut = map (take (length columns)) batch in
    let rows : rows_beside l source batch n.number ≡ batch = ap (λ b. cond b batch (map row_of (records l n.number))) (eq-eqb n.number source own) in
    subst (λ (o : Option NumberedTable). TableBeside l source batch columns o (Is cut)) (sym finds) (
      subst (λ (rs : List Row). Same cut (cut_to columns rs)) (sym rows) (Same-refl cut),
      subst (λ (fs : List Field). All (HasTypes fs) cut) (sym is) (all_typed_take (length columns) (schema_of l source) batch typed),
    )
