-- Rows that are kept as columns: they come back, and so do the cells of a column.
use Rattle.std.proofs.Common.{◌≡◌, ◌<◌, ◌≤◌, ◌+◌, ℕ, zero, suc, Bool, true, false, not, cond, List, [], ◌∷◌, ◌++◌, Option, Some, None, Result, Ok, Err, OnErr, length, map, get_or, take, refl, sym, ap, subst, ◌∙◌, arith, slice_get, append_assoc, length-append, option_and_then}
use Rattle.std.specs.List.{All, range_with_len, filter_map, cons_option}
use Rattle.std.proofs.lemmas.List.{get_or-map, length-map, take_more, get_or_append_left, get_or-append-add}
use Rattle.std.proofs.lemmas.List.Elements.{All-map, All-weaker, All-cons, All-take, All-append}
use Rattle.std.proofs.lemmas.List.FromFn.{fill_by_all, length-map-range_with_len}
use Rattle.std.proofs.lemmas.Option.{slice_get_past, get_or_from_slice_get, slice_get_within}
use Rattle.kq_value.specs.declared.schema.Field.{Field}
use Rattle.kq_value.specs.declared.value.Value.{Value}
use Rattle.kq_value.specs.Typed.{HasType, HasTypes, is_null}
use Rattle.kq_value.proofs.Types.{length-HasTypes}
use Rattle.kq_store_rows.specs.Chunks.{HasWidth, row_at, same_width}
use Rattle.kq_store_column.specs.Cells.{cell_in, cells_present, column_of, IsWider}
use Rattle.kq_store_rows.specs.Widened.{widened}
use Rattle.kq_store_extent.specs.Cells.{cell_of, cells_of}
use Rattle.kq_store_extent.specs.Columns.{missing, row_across, rows_across}

-- the columns of rows
abbrev columns_in : List (List Value) → ℕ → List (List Value)
columns_in rows width = map (λ j. column_of j rows) (range_with_len 0 width)

typed_cell : (fs : List Field) (vs : List Value) (j : ℕ) (f : Field) → HasTypes fs vs → j < length fs → HasType (get_or fs j f).ty (get_or vs j missing)
typed_cell [] vs j f typed h = absurd (omega arith)
typed_cell (g ∷ fs) [] j f typed h = absurd typed
typed_cell (g ∷ fs) (v ∷ vs) zero f typed h = typed.0
typed_cell (g ∷ fs) (v ∷ vs) (suc j) f typed h = typed_cell fs vs j f typed.1 (omega arith)

pub wide : (fs : List Field) (rows : List (List Value)) (j : ℕ) → All (HasTypes fs) rows → j < length fs → All (IsWider j) rows
wide fs rows j typed h = All-weaker (HasTypes fs) (IsWider j) (λ r t. omega (arith, length-HasTypes fs r t)) rows typed

pub typed_column : (fs : List Field) (rows : List (List Value)) (j : ℕ) (f : Field) → All (HasTypes fs) rows → j < length fs → All (HasType (get_or fs j f).ty) (column_of j rows)
typed_column fs rows j f typed h = All-map (HasType (get_or fs j f).ty) (cell_in j) rows (All-weaker (HasTypes fs) (λ r. HasType (get_or fs j f).ty (cell_in j r)) (λ r t. typed_cell fs r j f t h) rows typed)

across : (rows : List (List Value)) (js : List ℕ) (k : ℕ) → k < length rows → map (λ c. get_or c k missing) (map (λ j. column_of j rows) js) ≡ map (λ j. cell_in j (get_or rows k [])) js
across rows [] k h = refl
across rows (j ∷ js) k h = λ i. get_or-map (cell_in j) rows k [] missing h i ∷ across rows js k h i

row_back : (rows : List (List Value)) (width k : ℕ) → k < length rows → All (λ r. length r ≡ width) rows → get_or rows k [] ≡ row_across (columns_in rows width) k
row_back rows width k h all = fill_by_all (λ j. cell_in j (get_or rows k [])) (get_or rows k []) width missing (all k [] h) (λ j l. refl) ∙ sym (across rows (range_with_len 0 width) k h)

-- the columns of rows give the rows back
pub rows_back : (fs : List Field) (rows columns : List (List Value)) (count : ℕ) → count ≡ length rows → columns ≡ columns_in rows (length fs) → All (HasTypes fs) rows → rows_across columns count ≡ rows
rows_back fs rows columns count n is typed =
    let all = All-weaker (HasTypes fs) (λ r. length r ≡ length fs) (λ r t. omega (arith, length-HasTypes fs r t)) rows typed in
    rw (n, is) (sym (fill_by_all (row_across (columns_in rows (length fs))) rows (length rows) [] refl (λ k l. row_back rows (length fs) k l all)))

pub long_columns : (rows columns : List (List Value)) (width count : ℕ) → count ≡ length rows → columns ≡ columns_in rows width → All (λ c. length c ≡ count) columns
long_columns rows columns width count n is = rw is (All-map (λ c. length c ≡ count) (λ j. column_of j rows) (range_with_len 0 width) (λ k d h. length-map rows (cell_in (get_or (range_with_len 0 width) k d)) ∙ sym n))

pub length-rows_across : (columns : List (List Value)) (count : ℕ) → length (rows_across columns count) ≡ count
length-rows_across columns count = length-map-range_with_len (row_across columns) 0 count

got_across : (columns : List (List Value)) (a m i : ℕ) → i < m → slice_get (map (row_across columns) (range_with_len a m)) i ≡ Some (row_across columns (a + i))
got_across columns a zero i h = absurd (omega arith)
got_across columns a (suc m) zero h = ap (λ (k : ℕ). Some (row_across columns k)) (let same : a ≡ a + 0 = omega arith in same)
got_across columns a (suc m) (suc i) h = got_across columns (a + 1) m i (omega arith) ∙ ap (λ (k : ℕ). Some (row_across columns k)) (let same : a + 1 + i ≡ a + suc i = omega arith in same)

pub row_got : (columns : List (List Value)) (count i : ℕ) → i < count → slice_get (rows_across columns count) i ≡ Some (row_across columns i)
row_got columns count i h = got_across columns 0 count i h ∙ ap (λ (k : ℕ). Some (row_across columns k)) (let same : 0 + i ≡ i = omega arith in same)

pub cell_across : (columns : List (List Value)) (j i : ℕ) (cells : List Value) → slice_get columns j ≡ Some cells → slice_get (row_across columns i) j ≡ Some (get_or cells i missing)
cell_across [] j i cells is = absurd (cc)
cell_across (c ∷ columns) zero i cells is = cc
cell_across (c ∷ columns) (suc j) i cells is = cell_across columns j i cells is

kept : (b : Bool) (v : Value) (vs : List Value) → cons_option (cond b None (Some v)) vs ≡ cond (not b) (v ∷ vs) vs
kept true v vs = refl
kept false v vs = refl

present_across : (columns : List (List Value)) (j : ℕ) (cells : List Value) (is : List ℕ) → slice_get columns j ≡ Some cells
    → filter_map (cell_of j) (map (row_across columns) is) ≡ cells_present (map (λ i. get_or cells i missing) is)
present_across columns j cells [] got = refl
present_across columns j cells (i ∷ is) got =
    ap (λ (o : Option Value). cons_option (option_and_then (λ v. cond (is_null v) None (Some v)) o) (filter_map (cell_of j) (map (row_across columns) is))) (cell_across columns j i cells got)
    ∙ ap (λ (vs : List Value). cons_option (cond (is_null (get_or cells i missing)) None (Some (get_or cells i missing))) vs) (present_across columns j cells is got)
    ∙ kept (is_null (get_or cells i missing)) (get_or cells i missing) (cells_present (map (λ i. get_or cells i missing) is))

-- the cells of a column, nulls aside, are those of the column that is kept
pub cells_across : (columns : List (List Value)) (count j : ℕ) (cells : List Value) → slice_get columns j ≡ Some cells → length cells ≡ count → cells_of j (rows_across columns count) ≡ cells_present cells
cells_across columns count j cells got long =
    present_across columns j cells (range_with_len 0 count) got
    ∙ ap cells_present (sym (fill_by_all (λ i. get_or cells i missing) cells count missing long (λ k l. refl)))

none_across : (columns : List (List Value)) (j : ℕ) (is : List ℕ) → length columns ≤ j → filter_map (cell_of j) (map (row_across columns) is) ≡ []
none_across columns j [] past = refl
none_across columns j (i ∷ is) past =
    let out : slice_get (row_across columns i) j ≡ None = slice_get_past (row_across columns i) j (let n = length-map columns (λ c. get_or c i missing) in omega (arith, n, past)) in
    ap (λ (o : Option Value). cons_option (option_and_then (λ v. cond (is_null v) None (Some v)) o) (filter_map (cell_of j) (map (row_across columns) is))) out ∙ none_across columns j is past

-- past the last column there are no cells
pub cells_across-past : (columns : List (List Value)) (count j : ℕ) → length columns ≤ j → cells_of j (rows_across columns count) ≡ []
cells_across-past columns count j past = none_across columns j (range_with_len 0 count) past

widths : (z : List Value) (zs : List (List Value)) (row : List Value) → All (HasWidth (length z)) (z ∷ zs) → length row ≡ length z → All (HasWidth (length row)) (z ∷ zs)
widths z zs row all is = All-weaker (HasWidth (length z)) (HasWidth (length row)) (λ r e. e ∙ sym is) (z ∷ zs) all

-- each row of rows of one width has the width of all
all_wide : (rows : List (List Value)) (i : ℕ) (row : List Value) → same_width rows → i < length rows → get_or rows i [] ≡ row → All (HasWidth (length row)) rows
all_wide [] i row same within is = absurd (omega arith)
all_wide (z ∷ zs) i row same within is =
    let all : All (HasWidth (length z)) (z ∷ zs) = All-cons (HasWidth (length z)) z zs refl same in
    widths z zs row all (sym (ap length is) ∙ all i [] within)

all_left : (P : List Value → Type 0) (xs ys : List (List Value)) → All P (xs ++ ys) → All P xs
all_left P xs ys all = λ k d h. subst P (get_or_append_left xs ys d k h) (all k d (let n = length-append xs ys in omega (arith, n, h)))

all_right : (P : List Value → Type 0) (xs ys : List (List Value)) → All P (xs ++ ys) → All P ys
all_right P xs ys all = λ k d h. subst P (get_or-append-add xs ys k d) (all (length xs + k) d (let n = length-append xs ys in omega (arith, n, h)))

-- the next row has the width of those before it
pub wide_next : (xs ys : List (List Value)) (i : ℕ) (row : List Value) → same_width (xs ++ ys) → slice_get ys i ≡ Some row → All (HasWidth (length row)) (xs ++ take i ys)
wide_next xs ys i row same got =
    let within : i < length ys = slice_get_within ys i row got in
    let there : length xs + i < length (xs ++ ys) = let n = length-append xs ys in omega (arith, n, within) in
    let all = all_wide (xs ++ ys) (length xs + i) row same there (get_or-append-add xs ys i [] ∙ get_or_from_slice_get ys i row [] got) in
    All-append (HasWidth (length row)) xs (take i ys) (all_left (HasWidth (length row)) xs ys all) (All-take (HasWidth (length row)) i ys (all_right (HasWidth (length row)) xs ys all))

-- rows of one width stay so where the last are left out
pub same_width-left : (xs ys : List (List Value)) → same_width (xs ++ ys) → same_width xs
same_width-left [] ys same = tt
same_width-left (x ∷ xs) ys same = all_left (HasWidth (length x)) xs ys same

-- a row more
pub take_next : (xs ys : List (List Value)) (i : ℕ) (row : List Value) → slice_get ys i ≡ Some row → (xs ++ take i ys) ++ row ∷ [] ≡ xs ++ take (i + 1) ys
take_next xs ys i row got =
    let within : i < length ys = slice_get_within ys i row got in
    append_assoc xs (take i ys) (row ∷ [])
    ∙ ap (λ (rs : List (List Value)). xs ++ rs) (ap (λ (r : List Value). take i ys ++ r ∷ []) (sym (get_or_from_slice_get ys i row [] got)) ∙ sym (take_more ys i [] within))

-- what holds anyway holds on an error
pub on_err : {T E : Type 0} (r : Result T E) (P : Type 0) → P → OnErr r P
on_err (Ok x) P p = tt
on_err (Err e) P p = p

-- the cell of a row in a column
pub cell_got : (columns : List (List Value)) (count i j : ℕ) (cells : List Value) (cell : Value) → i < count → slice_get columns j ≡ Some cells → slice_get cells i ≡ Some cell
    → slice_get (row_at (rows_across columns count) i) j ≡ Some cell
cell_got columns count i j cells cell h got is =
    ap (λ (row : List Value). slice_get row j) (get_or_from_slice_get (rows_across columns count) i (row_across columns i) [] (row_got columns count i h))
    ∙ cell_across columns j i cells got ∙ ap Some (get_or_from_slice_get cells i cell missing is)

-- past the last column there is none
pub cell_got-past : (columns : List (List Value)) (count i j : ℕ) → i < count → length columns ≤ j → slice_get (row_at (rows_across columns count) i) j ≡ None
cell_got-past columns count i j h past =
    ap (λ (row : List Value). slice_get row j) (get_or_from_slice_get (rows_across columns count) i (row_across columns i) [] (row_got columns count i h))
    ∙ slice_get_past (row_across columns i) j (let n = length-map columns (λ c. get_or c i missing) in omega (arith, n, past))

-- under no columns rows stay as they are
pub map-widened_none : (rows : List (List Value)) → map (widened []) rows ≡ rows
map-widened_none [] = refl
map-widened_none (r ∷ rows) = ap (λ (rs : List (List Value)). r ∷ rs) (map-widened_none rows)
