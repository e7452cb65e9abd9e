-- Rows in columns: the cells of a row, of a column, and of the first rows.
use Rattle.std.proofs.Common.{◌≡◌, ◌<◌, ◌≤◌, ◌+◌, ℕ, zero, suc, List, [], ◌∷◌, Option, Some, None, length, map, get_or, take, drop, refl, sym, ap, ◌∙◌, arith, unwrap_or, slice_get, ⊎_elim}
use Rattle.std.specs.Prelude.{min, option_map}
use Rattle.std.specs.List.{All, range_with_len}
use Rattle.std.proofs.lemmas.Bool.{cases_lt}
use Rattle.std.proofs.lemmas.List.{drop-map, get_or-map, get_or-take, length-map, length-take-le, take-map, take_all}
use Rattle.std.proofs.lemmas.List.Elements.{All-map}
use Rattle.std.proofs.lemmas.List.FromFn.{fill_by_all, length-map-range_with_len}
use Rattle.std.proofs.lemmas.Option.{get_or_from_slice_get, slice_get-map, slice_get_past, slice_get_read, unwrap_or-slice_get}
use Rattle.kq_value.specs.declared.ty.Ty.TheVariants as ty
use Rattle.kq_value.specs.declared.value.Value.{Value}
use Rattle.kq_value.specs.declared.value.Value.TheVariants.{Null}
use Rattle.kq_store_rows.specs.Chunks.{HasWidth, row_at}
use Rattle.kq_store_column_view.specs.Vectors.{cell_of}
use Rattle.kq_store_frame.specs.Frames.{columns_in, row_across, rows_across}
use Rattle.kq_store_frame.specs.Series.{cells_in}
use Rattle.kq_store_frame.specs.declared.series.Series.{Series}

abbrev missing : Value
missing = Null ty.Long

-- ---- columns

pub column_got : (cs : List Series) (j : ℕ) (x : Series) → j < length cs → x ≡ get_or cs j x → slice_get (map cells_in cs) j ≡ Some (cells_in x)
column_got cs j x within is = slice_get-map cells_in cs j ∙ ap (option_map cells_in) (slice_get_read cs (length cs) j x refl within is)

-- the length of one where all are as long
pub long_at : (cs : List Series) (n j : ℕ) (x : Series) → All (λ c. length c ≡ n) (map cells_in cs) → j < length cs → x ≡ get_or cs j x → length (cells_in x) ≡ n
long_at cs n j x long within is =
    ap (λ (y : Series). length (cells_in y)) is ∙ sym (ap length (get_or-map cells_in cs j x [] within)) ∙ long j [] (let many = length-map cs cells_in in omega (arith, within, many))

-- ---- rows

pub length-rows_across : (columns : List (List Value)) (count : ℕ) → length (rows_across columns count) ≡ count
length-rows_across columns count = length-map-range_with_len (row_across columns) 0 count

got_across : (columns : List (List Value)) (a m i : ℕ) → i < m → slice_get (map (row_across columns) (range_with_len a m)) i ≡ Some (row_across columns (a + i))
got_across columns a zero i h = absurd (omega arith)
got_across columns a (suc m) zero h = ap (λ (k : ℕ). Some (row_across columns k)) (let same : a ≡ a + 0 = omega arith in same)
got_across columns a (suc m) (suc i) h = got_across columns (a + 1) m i (omega arith) ∙ ap (λ (k : ℕ). Some (row_across columns k)) (let same : a + 1 + i ≡ a + suc i = omega arith in same)

pub row_is : (columns : List (List Value)) (count i : ℕ) → i < count → row_at (rows_across columns count) i ≡ row_across columns i
row_is columns count i h =
    get_or_from_slice_get (rows_across columns count) i (row_across columns i) [] (got_across columns 0 count i h ∙ ap (λ (k : ℕ). Some (row_across columns k)) (let same : 0 + i ≡ i = omega arith in same))

-- a row has as many cells as there are columns
pub all_wide : (columns : List (List Value)) (count w : ℕ) → length columns ≡ w → All (HasWidth w) (rows_across columns count)
all_wide columns count w is = All-map (HasWidth w) (row_across columns) (range_with_len 0 count) (λ k d h. length-map columns (λ c. cell_of c (get_or (range_with_len 0 count) k d)) ∙ is)

-- ---- cells

cell_across : (columns : List (List Value)) (j i : ℕ) (cells : List Value) → slice_get columns j ≡ Some cells → slice_get (row_across columns i) j ≡ Some (cell_of cells i)
cell_across [] j i cells is = absurd (cc)
cell_across (c ∷ columns) zero i cells is = cc
cell_across (c ∷ columns) (suc j) i cells is = cell_across columns j i cells is

-- the cell of a row in a column
pub cell_got : (columns : List (List Value)) (count i j : ℕ) (cells : List Value) (cell : Value) → i < count → slice_get columns j ≡ Some cells → slice_get cells i ≡ Some cell
    → slice_get (row_at (rows_across columns count) i) j ≡ Some cell
cell_got columns count i j cells cell h got is =
    ap (λ (row : List Value). slice_get row j) (row_is columns count i h) ∙ cell_across columns j i cells got ∙ ap (λ (o : Option Value). Some (unwrap_or o missing)) is

-- past the last column there is none
pub cell_got-past : (columns : List (List Value)) (count i j : ℕ) → i < count → length columns ≤ j → slice_get (row_at (rows_across columns count) i) j ≡ None
cell_got-past columns count i j h past =
    ap (λ (row : List Value). slice_get row j) (row_is columns count i h) ∙ slice_get_past (row_across columns i) j (let n = length-map columns (λ c. cell_of c i) in omega (arith, n, past))

cells_back : (cells : List Value) (count : ℕ) → length cells ≡ count → cells ≡ map (cell_of cells) (range_with_len 0 count)
cells_back cells count long = fill_by_all (cell_of cells) cells count missing long (λ k l. sym (unwrap_or-slice_get cells k missing))

column_across : (columns : List (List Value)) (j : ℕ) (cells : List Value) (is : List ℕ) → slice_get columns j ≡ Some cells → map (λ r. cell_of r j) (map (row_across columns) is) ≡ map (cell_of cells) is
column_across columns j cells [] got = refl
column_across columns j cells (i ∷ is) got = λ k. unwrap_or (cell_across columns j i cells got k) missing ∷ column_across columns j cells is got k

-- a column from a place on is what the rows have there
pub lent_across : (columns rows : List (List Value)) (count j n from : ℕ) (cells : List Value) → slice_get columns j ≡ Some cells → length cells ≡ count → rows_across columns count ≡ rows
    → take n (drop from cells) ≡ map (λ r. cell_of r j) (take n (drop from rows))
lent_across columns rows count j n from cells got long view =
    let whole : map (λ r. cell_of r j) rows ≡ cells =
    ap (λ (rs : List (List Value)). map (λ r. cell_of r j) rs) (sym view) ∙ column_across columns j cells (range_with_len 0 count) got ∙ sym (cells_back cells count long) in
    ap (λ (cs : List Value). take n (drop from cs)) (sym whole) ∙ ap (take n) (drop-map (λ (r : List Value). cell_of r j) from rows) ∙ take-map (λ (r : List Value). cell_of r j) n (drop from rows)

-- ---- the first rows

first_row : (columns : List (List Value)) (m i : ℕ) → i < m → row_across (map (take m) columns) i ≡ row_across columns i
first_row [] m i h = refl
first_row (c ∷ columns) m i h =
    let here : cell_of (take m c) i ≡ cell_of c i = unwrap_or-slice_get (take m c) i missing ∙ get_or-take m c i missing h ∙ sym (unwrap_or-slice_get c i missing) in
    λ k. here k ∷ first_row columns m i h k

-- the first rows have the first cells of the columns
pub first_across : (columns few : List (List Value)) (count m : ℕ) → m ≤ count → few ≡ map (take m) columns → rows_across few m ≡ take m (rows_across columns count)
first_across columns few count m within are =
    let rows = rows_across columns count in
    let long : length (take m rows) ≡ m = length-take-le m rows (let n = length-rows_across columns count in omega (arith, n, within)) in
    ap (λ (cs : List (List Value)). rows_across cs m) are
    ∙ sym (fill_by_all (row_across (map (take m) columns)) (take m rows) m [] long (λ k l. get_or-take m rows k [] l ∙ row_is columns count k (omega (arith, l, within)) ∙ sym (first_row columns m k l)))

pub long_few : (columns few : List (List Value)) (count m : ℕ) → m ≤ count → All (λ c. length c ≡ count) columns → few ≡ map (take m) columns → All (λ c. length c ≡ m) few
long_few columns few count m within long are =
    rw are (All-map (λ c. length c ≡ m) (take m) columns (λ k d h. length-take-le m (get_or columns k d) (let n = long k d h in omega (arith, n, within))))

-- ---- the columns of rows

cell_back : (row : List Value) (w : ℕ) → length row ≡ w → row ≡ map (cell_of row) (range_with_len 0 w)
cell_back row w long = cells_back row w long

across_back : (rows : List (List Value)) (js : List ℕ) (i : ℕ) → i < length rows → row_across (map (λ j. map (λ r. cell_of r j) rows) js) i ≡ map (cell_of (row_at rows i)) js
across_back rows [] i h = refl
across_back rows (j ∷ js) i h =
    let here : cell_of (map (λ r. cell_of r j) rows) i ≡ cell_of (row_at rows i) j = unwrap_or-slice_get (map (λ r. cell_of r j) rows) i missing ∙ get_or-map (λ (r : List Value). cell_of r j) rows i [] missing h in
    λ k. here k ∷ across_back rows js i h k

-- the columns of rows give the rows back
pub rows_back : (rows columns : List (List Value)) (w count : ℕ) → All (HasWidth w) rows → columns ≡ columns_in rows w → count ≡ length rows → rows_across columns count ≡ rows
rows_back rows columns w count wide are many =
    (λ i. rows_across (are i) (many i))
    ∙ sym (fill_by_all (row_across (map (λ j. map (λ r. cell_of r j) rows) (range_with_len 0 w))) rows (length rows) [] refl
    (λ k l. cell_back (row_at rows k) w (wide k [] l) ∙ sym (across_back rows (range_with_len 0 w) k l)))

pub long_columns : (rows columns : List (List Value)) (w count : ℕ) → columns ≡ columns_in rows w → count ≡ length rows → All (λ c. length c ≡ count) columns
long_columns rows columns w count are many =
    rw are (All-map (λ c. length c ≡ count) (λ j. map (λ r. cell_of r j) rows) (range_with_len 0 w) (λ k d h. length-map rows (λ (r : List Value). cell_of r (get_or (range_with_len 0 w) k d)) ∙ sym many))

-- so many or all
pub take_least : (count end : ℕ) (rows : List (List Value)) → end ≡ min count (length rows) → take end rows ≡ take count rows
take_least count end rows is =
    ⊎_elim (λ low. let same : end ≡ count = omega (arith, is, low) in ap (λ (n : ℕ). take n rows) same) (λ past. take_all end rows (omega (arith, is, past)) ∙ sym (take_all count rows past)) (cases_lt count (length rows))
