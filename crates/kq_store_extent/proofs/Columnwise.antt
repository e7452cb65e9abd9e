-- The columns of extents that become one.
use Rattle.std.proofs.Common.{◌≡◌, ◌<◌, ◌-◌, ◌+◌, ℕ, List, [], ◌∷◌, ◌++◌, All, length, map, get_or, take, drop, refl, sym, ap, subst, ◌∙◌, arith, append-nil, length-append}
use Rattle.std.specs.List.{flat_map}
use Rattle.std.proofs.lemmas.List.{map-append, length-map, take_all, get_or_append_left, get_or-append-add}
use Rattle.std.proofs.lemmas.List.Concat.{flat_map-append}
use Rattle.std.proofs.lemmas.List.Elements.{All-cons, All-nil}
use Rattle.std.proofs.lemmas.Option.{unwrap_or-slice_get}
use Rattle.kq_value.specs.declared.schema.Field.{Field}
use Rattle.kq_value.specs.declared.value.Value.{Value}
use Rattle.kq_store_column_view.specs.Vectors.{cell_of}
use Rattle.kq_store_column.specs.Cells.{cell_in, column_of}
use Rattle.kq_store_extent.specs.Columns.{missing}
use Rattle.kq_store_extent.specs.Seen.{ExtentView, records_in, row_of}
use Rattle.kq_store_extent.specs.Wide.{wide}
use Rattle.kq_store_extent.proofs.Walked.{rows_by, rows_by-more}
use Rattle.kq_store_extent.proofs.Wide.{wide-rows, records_in-wide}
use Rattle.kq_store_rows.specs.Widened.{widened, widened_record}

column_same : (j : ℕ) (rows : List (List Value)) → map (λ r. cell_of r j) rows ≡ column_of j rows
column_same j [] = refl
column_same j (r ∷ rows) = λ i. unwrap_or-slice_get r j missing i ∷ column_same j rows i

-- what an extent lends from its first record to its last
pub part_lent : (j n : ℕ) (rows : List (List Value)) (cells : List Value) → n ≡ length rows → cells ≡ map (λ r. cell_of r j) (take (n - 0) (drop 0 rows)) → cells ≡ column_of j rows
part_lent j n rows cells long lent = lent ∙ ap (map (λ (r : List Value). cell_of r j)) (take_all (n - 0) rows (omega (arith, long))) ∙ column_same j rows

-- the column of one extent more
pub column_more : (j : ℕ) (es : List ExtentView) (i : ℕ) (e : ExtentView) → i < length es → get_or es i e ≡ e → column_of j (rows_by (take i es)) ++ column_of j (map row_of e.records) ≡ column_of j (rows_by (take (i + 1) es))
column_more j es i e within is = sym (map-append (cell_in j) (rows_by (take i es)) (map row_of e.records)) ∙ ap (column_of j) (rows_by-more [] es i e within is)

pub parts_more : {P : Type 0} (cells : P → List Value) (parts : List P) (part : P) → flat_map cells (parts ++ part ∷ []) ≡ flat_map cells parts ++ cells part
parts_more cells parts part = flat_map-append cells parts (part ∷ []) ∙ ap (λ (vs : List Value). flat_map cells parts ++ vs) (append-nil (cells part))

left : {A : Type 0} (P : A → Type 0) (xs ys : List A) → All P (xs ++ ys) → All P xs
left P xs ys all = λ k d h. subst P (get_or_append_left xs ys d k h) (all k d (let n = length-append xs ys in omega (arith, n, h)))

right : {A : Type 0} (P : A → Type 0) (xs ys : List A) → All P (xs ++ ys) → All P ys
right P xs ys all = λ k d h. subst P (get_or-append-add xs ys k d) (all (length xs + k) d (let n = length-append xs ys in omega (arith, n, h)))

-- what holds of all cells holds of those of each part
pub each_part : {P : Type 0} (Q : Value → Type 0) (cells : P → List Value) (parts : List P) → All Q (flat_map cells parts) → All (λ p. All Q (cells p)) parts
each_part Q cells [] all = All-nil (λ p. All Q (cells p))
each_part Q cells (p ∷ parts) all = All-cons (λ p. All Q (cells p)) p parts (left Q (cells p) (flat_map cells parts) all) (each_part Q cells parts (right Q (cells p) (flat_map cells parts) all))

pub length-wide : (fields : List Field) (e : ExtentView) → length (map row_of (wide fields e).records) ≡ length e.records
length-wide fields e = ap length (wide-rows fields e) ∙ length-map (map row_of e.records) (widened fields) ∙ length-map e.records row_of

-- widening leaves the number of rows
pub length-rows_wide : (fields : List Field) (es : List ExtentView) → length (map row_of (records_in (map (wide fields) es))) ≡ length (records_in es)
length-rows_wide fields es = length-map (records_in (map (wide fields) es)) row_of ∙ ap length (records_in-wide fields es) ∙ length-map (records_in es) (widened_record fields)
