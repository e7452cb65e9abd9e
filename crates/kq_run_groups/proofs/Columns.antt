-- Keys whose cells stand in several columns, and codes that tell them apart.
use Rattle.std.proofs.Common.{◌≡◌, ◌<◌, ◌≤◌, ◌+◌, ℕ, zero, suc, ℤ, pos, List, [], ◌∷◌, ◌++◌, Vec, Global, length, map, take, get_or, IfOk, Result, Ok, Err, refl, sym, ap, ◌∙◌, subst, arith, length-append}
use Rattle.std.specs.List.{All}
use Rattle.std.specs.declared.alloc.AllocError.{AllocError}
use Rattle.std.proofs.Math.Seq.{get_or-append_seam}
use Rattle.std.proofs.lemmas.List.{get_or_append_left, get_or-map, get_or-replicate, get_or-take, length-map, length-replicate, length-take-le, map-append, take_more}
use Rattle.std.proofs.lemmas.List.FromFn.{fill_by_all}
use Rattle.std.proofs.lemmas.List.Elements.{All-push}
use Rattle.std.proofs.lemmas.Option.{unwrap_or-slice_get}
use Rattle.kq_run_aggregates.specs.Across.{across, rows_across}
use Rattle.kq_run_aggregates.specs.Alone.{alone, cell_as, each_alone}
use Rattle.kq_run_aggregates.specs.declared.reading.Reading.{Reading}
use Rattle.kq_store_rows.specs.Chunks.{row_at}
use Rattle.kq_value.specs.declared.ty.Ty.TheVariants as ty
use Rattle.kq_value.specs.declared.value.Value.{Value}
use Rattle.kq_value.specs.declared.value.Value.TheVariants.{Null}
use Rattle.kq_store_column_view.specs.Vectors.{cell_of, cells_of}
use Rattle.kq_store_column_view.specs.declared.vector.Vector.{Vector}
use Rattle.kq_run_groups.specs.Columns.{AreNumbersAcross, HaveLength, SameCodes, Tell, TellCells, code_of, in_front, rows_of}
use Rattle.kq_run_groups.specs.Keys.{AreNumbers}
use Rattle.kq_run_groups.proofs.Groupings.{numbers_along}

abbrev Key : Type 0
Key = List Value

abbrev Column : Type 0
Column = List Value

abbrev Codes : Type 0
Codes = Vec ℤ Global

-- ---- cells

cell_get : (cells : Column) (i : ℕ) → cell_of cells i ≡ get_or cells i (Null ty.Long)
cell_get cells i = unwrap_or-slice_get cells i (Null ty.Long)

mapped_cell : {A : Type 0} (f : A → Value) (xs : List A) (i : ℕ) (d : A) → i < length xs → cell_of (map f xs) i ≡ f (get_or xs i d)
mapped_cell {A} f xs i d h = cell_get (map f xs) i ∙ get_or-map f xs i d (Null ty.Long) h

alone_at : (cells : Column) (i : ℕ) → i < length cells → row_at (each_alone cells) i ≡ alone (cell_of cells i)
alone_at cells i h = get_or-map alone cells i (Null ty.Long) [] h ∙ ap alone (sym (cell_get cells i))

alone_same : (v w : Value) → alone v ≡ alone w → v ≡ w
alone_same v w e = cc

-- ---- rows

others_long : (n : ℕ) (cells : Column) (columns : List Column) → HaveLength n (cells ∷ columns) → HaveLength n columns
others_long n cells columns along i d h = along (suc i) d (omega (arith, h))

length-in_front : (cells : Column) (rows : List Key) → length cells ≡ length rows → length (in_front cells rows) ≡ length rows
length-in_front [] [] e = refl
length-in_front [] (r ∷ rows) e = absurd (omega arith)
length-in_front (v ∷ cells) [] e = absurd (omega arith)
length-in_front (v ∷ cells) (r ∷ rows) e = ap suc (length-in_front cells rows (omega arith))

pub length-rows_of : (n : ℕ) (columns : List Column) → HaveLength n columns → length (rows_of n columns) ≡ n
length-rows_of n [] along = length-replicate n []
length-rows_of n (cells ∷ columns) along =
    let rest = length-rows_of n columns (others_long n cells columns along) in
    let own : length cells ≡ n = along 0 [] (omega arith) in
    length-in_front cells (rows_of n columns) (own ∙ sym rest) ∙ rest

front_at : (cells : Column) (rows : List Key) (i : ℕ) → i < length cells → length cells ≡ length rows → get_or (in_front cells rows) i [] ≡ get_or cells i (Null ty.Long) ∷ get_or rows i []
front_at [] rows i h e = absurd (omega arith)
front_at (v ∷ cells) [] i h e = absurd (omega arith)
front_at (v ∷ cells) (r ∷ rows) zero h e = refl
front_at (v ∷ cells) (r ∷ rows) (suc i) h e = front_at cells rows i (omega arith) (omega arith)

-- the row at a place
row_across : (n : ℕ) (columns : List Column) (i : ℕ) → HaveLength n columns → i < n → row_at (rows_of n columns) i ≡ across columns i
row_across n [] i along h = get_or-replicate n i [] [] h
row_across n (cells ∷ columns) i along h =
    let others = others_long n cells columns along in
    let rest = length-rows_of n columns others in
    let own : length cells ≡ n = along 0 [] (omega arith) in
    front_at cells (rows_of n columns) i (omega (arith, own, h)) (own ∙ sym rest)
    ∙ ap (λ (v : Value). v ∷ row_at (rows_of n columns) i) (sym (cell_get cells i))
    ∙ ap (λ (r : Key). cell_of cells i ∷ r) (row_across n columns i others h)

-- the same rows one by one
pub rows_are : (n : ℕ) (columns : List Column) → HaveLength n columns → rows_of n columns ≡ rows_across n columns
rows_are n columns along = fill_by_all (across columns) (rows_of n columns) n [] (length-rows_of n columns along) (λ k h. row_across n columns k along h)

-- one row more
pub take_rows : (n : ℕ) (columns : List Column) (i : ℕ) → HaveLength n columns → i < n → take (i + 1) (rows_of n columns) ≡ take i (rows_of n columns) ++ across columns i ∷ []
take_rows n columns i along h =
    let long = length-rows_of n columns along in
    take_more (rows_of n columns) i [] (omega (arith, long, h)) ∙ ap (λ (r : Key). take i (rows_of n columns) ++ r ∷ []) (row_across n columns i along h)

-- ---- numbers

number_is : (keys : List Key) (ns : List ℕ) (rows : List Key) (p : ℕ) → AreNumbers keys ns rows → p < length ns → (get_or ns p 0 < length keys) × (row_at keys (get_or ns p 0) ≡ row_at rows p)
number_is keys [] rows p are h = absurd (omega arith)
number_is keys (n ∷ ns) [] p are h = absurd are
number_is keys (n ∷ ns) (r ∷ rows) zero are h = (are.0, are.1)
number_is keys (n ∷ ns) (r ∷ rows) (suc p) are h = number_is keys ns rows p are.2 (omega arith)

pub numbers_so_far : (keys : List Key) (ns : List ℕ) (n : ℕ) (columns : List Column) (i : ℕ) → HaveLength n columns → i ≤ n → AreNumbers keys ns (take i (rows_of n columns)) → (length ns ≡ i) × AreNumbersAcross keys ns columns
numbers_so_far keys ns n columns i along most are = (count, λ p h. each p h)
  where
    rows : List Key
    rows = rows_of n columns

    long : length (rows_of n columns) ≡ n
    long = length-rows_of n columns along

    count : length ns ≡ i
    count = numbers_along keys ns (take i (rows_of n columns)) are ∙ length-take-le i (rows_of n columns) (omega (arith, long, most))

    each : (p : ℕ) → p < length ns → (get_or ns p 0 < length keys) × (row_at keys (get_or ns p 0) ≡ across columns p)
    each p h =
        let below : p < i = omega (arith, h, count) in
        let at = number_is keys ns (take i (rows_of n columns)) p are h in
        (at.0, at.1 ∙ get_or-take i (rows_of n columns) p [] below ∙ row_across n columns p along (omega (arith, below, most)))

-- a row with the codes of one before it has its number
pub same_number : (keys : List Key) (ns : List ℕ) (columns : List Column) (codes : List Codes) (row place n : ℕ) → length ns ≡ row → AreNumbersAcross keys ns columns → Tell (row + 1) codes columns
    → (place < length ns) × (n ≡ get_or ns place 0) × SameCodes place row codes → (n < length keys) × (row_at keys n ≡ across columns row)
same_number keys ns columns codes row place n next are told found =
    let inside = found.0 in
    let at = are place inside in
    let same = told place row (omega (arith, inside, next)) (omega arith) found.2 in
    subst (λ (m : ℕ). (m < length keys) × (row_at keys m ≡ across columns row)) (sym found.1) (at.0, at.1 ∙ same)

-- ---- codes

same_numbers : (ns : List ℕ) (p q : ℕ) → p < length ns → q < length ns → code_of (map pos ns) p ≡ code_of (map pos ns) q → get_or ns p 0 ≡ get_or ns q 0
same_numbers ns p q h l same = natural (get_or ns p 0) (get_or ns q 0) (sym (get_or-map pos ns p 0 (pos 0) h) ∙ same ∙ get_or-map pos ns q 0 (pos 0) l)
  where
    natural : (m n : ℕ) → pos m ≡ pos n → m ≡ n
    natural m n e = cc

pub tell_numbers : (r : Reading) (zs : List ℤ) → TellCells zs (map (cell_as r) zs)
tell_numbers r zs p q h l same =
    let long = length-map zs (cell_as r) in
    mapped_cell (cell_as r) zs p (pos 0) (omega (arith, h, long)) ∙ ap (cell_as r) same ∙ sym (mapped_cell (cell_as r) zs q (pos 0) (omega (arith, l, long)))

pub tell_words : (words : List Value) (codes : List ℕ) → TellCells (map pos codes) (map (cell_of words) codes)
tell_words words codes p q h l same =
    let long = length-map codes (cell_of words) in
    let a : p < length codes = omega (arith, h, long) in
    let b : q < length codes = omega (arith, l, long) in
    mapped_cell (cell_of words) codes p 0 a ∙ ap (cell_of words) (same_numbers codes p q a b same) ∙ sym (mapped_cell (cell_of words) codes q 0 b)

pub tell_cells : (keys : List Key) (ns : List ℕ) (cells : Column) → AreNumbers keys ns (each_alone cells) → TellCells (map pos ns) cells
tell_cells keys ns cells are p q h l same =
    let long : length ns ≡ length cells = numbers_along keys ns (each_alone cells) are ∙ length-map cells alone in
    let a : p < length ns = omega (arith, h, long) in
    let b : q < length ns = omega (arith, l, long) in
    let at = number_is keys ns (each_alone cells) p are a in
    let other = number_is keys ns (each_alone cells) q are b in
    alone_same (cell_of cells p) (cell_of cells q) (sym (alone_at cells p h) ∙ sym at.1 ∙ ap (row_at keys) (same_numbers ns p q a b same) ∙ other.1 ∙ alone_at cells q l)

pub told_by : (r : Result Codes AllocError) (zs : List ℤ) (cells : Column) → IfOk r (λ v. v.items ≡ zs) → TellCells zs cells → IfOk r (λ v. TellCells v.items cells)
told_by (Ok v) zs cells is tell = subst (λ (codes : List ℤ). TellCells codes cells) (sym is) tell
told_by (Err e) zs cells is tell = tt

pub told_first : (n m : ℕ) (codes : List Codes) (columns : List Column) → m ≤ n → Tell n codes columns → Tell m codes columns
told_first n m codes columns most told p q h l same = told p q (omega (arith, h, most)) (omega (arith, l, most)) same

-- ---- one column more

first_all : {X : Type 0} (P : X → Type 0) (xs : List X) (x : X) → All P (xs ++ x ∷ []) → All P xs
first_all {X} P xs x all i d h = let e = length-append xs (x ∷ []) in subst P (get_or_append_left xs (x ∷ []) d i h) (all i d (omega (arith, e, h)))

last_all : {X : Type 0} (P : X → Type 0) (xs : List X) (x : X) → All P (xs ++ x ∷ []) → P x
last_all {X} P xs x all = let e = length-append xs (x ∷ []) in subst P (get_or-append_seam xs x [] x) (all (length xs) x (omega (arith, e)))

pub cells_more : (columns : List Vector) (i : ℕ) (column : Vector) → i < length columns → column ≡ get_or columns i column → map cells_of (take (i + 1) columns) ≡ map cells_of (take i columns) ++ cells_of column ∷ []
cells_more columns i column h at =
    ap (map cells_of) (take_more columns i column h)
    ∙ map-append cells_of (take i columns) (get_or columns i column ∷ [])
    ∙ ap (λ (v : Vector). map cells_of (take i columns) ++ cells_of v ∷ []) (sym at)

across_last : (columns : List Column) (cells : Column) (row : ℕ) → across (columns ++ cells ∷ []) row ≡ across columns row ++ cell_of cells row ∷ []
across_last columns cells row = map-append (λ (x : Column). cell_of x row) columns (cells ∷ [])

told_more : (n : ℕ) (codes : List Codes) (one : Codes) (columns : List Column) (cells : Column) → length cells ≡ n → TellCells one.items cells → Tell n codes columns → Tell n (codes ++ one ∷ []) (columns ++ cells ∷ [])
told_more n codes one columns cells long own told p q h l same =
    let before = told p q h l (first_all (λ (v : Codes). code_of v.items p ≡ code_of v.items q) codes one same) in
    let cell = own p q (omega (arith, h, long)) (omega (arith, l, long)) (last_all (λ (v : Codes). code_of v.items p ≡ code_of v.items q) codes one same) in
    across_last columns cells p
    ∙ ap (λ (r : Key). r ++ cell_of cells p ∷ []) before
    ∙ ap (λ (v : Value). across columns q ++ v ∷ []) cell
    ∙ sym (across_last columns cells q)

pub told_next : (codes : List Codes) (one : Codes) (columns : List Vector) (i : ℕ) (column : Vector) → i < length columns → column ≡ get_or columns i column → TellCells one.items (cells_of column)
    → ((n : ℕ) → HaveLength n (map cells_of (take i columns)) → Tell n codes (map cells_of (take i columns)))
    → (n : ℕ) → HaveLength n (map cells_of (take (i + 1) columns)) → Tell n (codes ++ one ∷ []) (map cells_of (take (i + 1) columns))
told_next codes one columns i column h at own told n along =
    let before = map cells_of (take i columns) in
    let is = cells_more columns i column h at in
    let all : HaveLength n (before ++ cells_of column ∷ []) = subst (HaveLength n) is along in
    let P : Column → Type 0 = λ cells. length cells ≡ n in
    subst (Tell n (codes ++ one ∷ [])) (sym is)
    (told_more n codes one before (cells_of column) (last_all P before (cells_of column) all) own (told n (first_all P before (cells_of column) all)))

pub same_more : (p q : ℕ) (codes : List Codes) (i : ℕ) (one : Codes) → i < length codes → one ≡ get_or codes i one → code_of one.items p ≡ code_of one.items q → SameCodes p q (take i codes) → SameCodes p q (take (i + 1) codes)
same_more p q codes i one h at same before =
    let P : Codes → Type 0 = λ v. code_of v.items p ≡ code_of v.items q in
    subst (All P) (sym (take_more codes i one h)) (All-push P (take i codes) (get_or codes i one) before (subst P at same))
