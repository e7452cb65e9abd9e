-- Rows that come one by one, column by column.
use Rattle.std.proofs.Common.{◌≡◌, ◌<◌, ◌+◌, ◌^◌, ℕ, zero, suc, List, [], ◌∷◌, ◌++◌, All, length, map, get_or, refl, subst, sym, ap, ◌∙◌, arith, length-append, take}
use Rattle.std.proofs.Math.ListN.{set}
use Rattle.std.proofs.lemmas.List.{get_or_append_left, get_or-append-add, map-append, take_more}
use Rattle.std.proofs.lemmas.List.Elements.{All-cons, All-head, All-nil, All-tail}
use Rattle.std.proofs.lemmas.List.FromFn.{fill_by_all, map-range_with_len_more}
use Rattle.std.proofs.lemmas.Option.{get_or_from_slice_get}
use Rattle.kq_value.specs.declared.schema.Field.{Field}
use Rattle.kq_value.specs.declared.ty.Ty.{Ty}
use Rattle.kq_value.specs.declared.value.Value.{Value}
use Rattle.kq_value.specs.Typed.{HasType, HasTypes}
use Rattle.kq_store_column.specs.Growing.{Grown, begun, with_cell}
use Rattle.kq_store_extent.specs.Columns.{missing, row_across, rows_across, AreWhole}
use Rattle.kq_store_extent.specs.Coming.{ComingRows, IsOfTypes, cells_grown, types_grown, types_of, with_row}
use Rattle.kq_store_extent.proofs.Across.{length-rows_across, row_got}

-- the first so many columns have the cells of a row more
abbrev pub grown_more : ℕ → List Grown → List Value → List Grown
grown_more zero gs row = gs
grown_more (suc i) [] row = []
grown_more (suc i) (g ∷ gs) [] = g ∷ gs
grown_more (suc i) (g ∷ gs) (v ∷ vs) = with_cell g v ∷ grown_more i gs vs

pub length-grown_more : (i : ℕ) (gs : List Grown) (row : List Value) → length (grown_more i gs row) ≡ length gs
length-grown_more zero gs row = refl
length-grown_more (suc i) [] row = refl
length-grown_more (suc i) (g ∷ gs) [] = refl
length-grown_more (suc i) (g ∷ gs) (v ∷ vs) = ap (λ (n : ℕ). suc n) (length-grown_more i gs vs)

-- the next one has no more yet
pub got_more : (i : ℕ) (gs : List Grown) (row : List Value) (d : Grown) → i < length gs → get_or (grown_more i gs row) i d ≡ get_or gs i d
got_more zero gs row d h = refl
got_more (suc i) [] row d h = refl
got_more (suc i) (g ∷ gs) [] d h = refl
got_more (suc i) (g ∷ gs) (v ∷ vs) d h = got_more i gs vs d (omega arith)

set_next : (i : ℕ) (gs : List Grown) (row : List Value) (d : Grown) (e : Value) → i < length gs → i < length row
    → set (grown_more i gs row) i (with_cell (get_or gs i d) (get_or row i e)) ≡ grown_more (suc i) gs row
set_next i [] row d e h k = absurd (omega arith)
set_next i (g ∷ gs) [] d e h k = absurd (omega arith)
set_next zero (g ∷ gs) (v ∷ vs) d e h k = refl
set_next (suc i) (g ∷ gs) (v ∷ vs) d e h k = ap (λ (xs : List Grown). with_cell g v ∷ xs) (set_next i gs vs d e (omega arith) (omega arith))

-- and then it has
pub set_more : (i : ℕ) (gs : List Grown) (row : List Value) (d : Grown) (e : Value) → i < length gs → i < length row
    → set (grown_more i gs row) i (with_cell (get_or gs i d) (get_or row i e)) ≡ grown_more (i + 1) gs row
set_more i gs row d e h k = set_next i gs row d e h k ∙ ap (λ (n : ℕ). grown_more n gs row) (let next : suc i ≡ i + 1 = omega arith in next)

pub types-grown_more : (i : ℕ) (gs : List Grown) (row : List Value) → types_grown (grown_more i gs row) ≡ types_grown gs
types-grown_more zero gs row = refl
types-grown_more (suc i) [] row = refl
types-grown_more (suc i) (g ∷ gs) [] = refl
types-grown_more (suc i) (g ∷ gs) (v ∷ vs) = ap (λ (ts : List Ty). g.ty ∷ ts) (types-grown_more i gs vs)

pub length-IsOfTypes : (gs : List Grown) (row : List Value) → IsOfTypes (types_grown gs) row → length row ≡ length gs
length-IsOfTypes [] [] h = refl
length-IsOfTypes [] (v ∷ vs) h = absurd h
length-IsOfTypes (g ∷ gs) [] h = absurd h
length-IsOfTypes (g ∷ gs) (v ∷ vs) h = ap (λ (n : ℕ). suc n) (length-IsOfTypes gs vs h.1)

pub typed_at : (gs : List Grown) (row : List Value) (i : ℕ) (d : Grown) (e : Value) → IsOfTypes (types_grown gs) row → i < length gs → HasType (get_or gs i d).ty (get_or row i e)
typed_at [] row i d e h within = absurd (omega arith)
typed_at (g ∷ gs) [] i d e h within = absurd h
typed_at (g ∷ gs) (v ∷ vs) zero d e h within = h.0
typed_at (g ∷ gs) (v ∷ vs) (suc i) d e h within = typed_at gs vs i d e h.1 (omega arith)

-- the row of a table is one of the types of its columns
pub of_types : (fs : List Field) (row : List Value) → HasTypes fs row → IsOfTypes (types_of fs) row
of_types [] [] h = tt
of_types [] (v ∷ vs) h = absurd h
of_types (f ∷ fs) [] h = absurd h
of_types (f ∷ fs) (v ∷ vs) h = (h.0, of_types fs vs h.1)

-- all columns have a cell more
pub whole_more : (count n : ℕ) (gs : List Grown) (row : List Value) → n ≡ length gs → length row ≡ length gs → All (λ c. length c ≡ count) (cells_grown gs)
    → All (λ c. length c ≡ count + 1) (cells_grown (grown_more n gs row))
whole_more count zero [] row e f all = All-nil (λ c. length c ≡ count + 1)
whole_more count (suc n) [] row e f all = All-nil (λ c. length c ≡ count + 1)
whole_more count zero (g ∷ gs) row e f all = absurd (omega arith)
whole_more count (suc n) (g ∷ gs) [] e f all = absurd (omega arith)
whole_more count (suc n) (g ∷ gs) (v ∷ vs) e f all =
    let here = All-head (λ c. length c ≡ count) g.cells (cells_grown gs) all in
    All-cons (λ c. length c ≡ count + 1) (g.cells ++ v ∷ []) (cells_grown (grown_more n gs vs)) (omega (arith, length-append g.cells (v ∷ []), here))
    (whole_more count n gs vs (omega arith) (omega arith) (All-tail (λ c. length c ≡ count) g.cells (cells_grown gs) all))

same_row : (k count n : ℕ) (gs : List Grown) (row : List Value) → k < count → All (λ c. length c ≡ count) (cells_grown gs) → row_across (cells_grown (grown_more n gs row)) k ≡ row_across (cells_grown gs) k
same_row k count zero gs row h all = refl
same_row k count (suc n) [] row h all = refl
same_row k count (suc n) (g ∷ gs) [] h all = refl
same_row k count (suc n) (g ∷ gs) (v ∷ vs) h all =
    let here = All-head (λ c. length c ≡ count) g.cells (cells_grown gs) all in
    let within : k < length g.cells = omega (arith, here) in
    λ i. get_or_append_left g.cells (v ∷ []) missing k within i ∷ same_row k count n gs vs h (All-tail (λ c. length c ≡ count) g.cells (cells_grown gs) all) i

last_row : (count n : ℕ) (gs : List Grown) (row : List Value) → n ≡ length gs → length row ≡ length gs → All (λ c. length c ≡ count) (cells_grown gs) → row_across (cells_grown (grown_more n gs row)) count ≡ row
last_row count zero [] [] e f all = refl
last_row count (suc n) [] [] e f all = refl
last_row count n [] (v ∷ vs) e f all = absurd (omega arith)
last_row count zero (g ∷ gs) row e f all = absurd (omega arith)
last_row count (suc n) (g ∷ gs) [] e f all = absurd (omega arith)
last_row count (suc n) (g ∷ gs) (v ∷ vs) e f all =
    let here = All-head (λ c. length c ≡ count) g.cells (cells_grown gs) all in
    let place : count ≡ length g.cells + 0 = omega (arith, here) in
    let cell : get_or (g.cells ++ v ∷ []) count missing ≡ v = ap (λ (k : ℕ). get_or (g.cells ++ v ∷ []) k missing) place ∙ get_or-append-add g.cells (v ∷ []) 0 missing in
    λ i. cell i ∷ last_row count n gs vs (omega arith) (omega arith) (All-tail (λ c. length c ≡ count) g.cells (cells_grown gs) all) i

-- the rows of all columns, with the one more
pub rows_more : (count n : ℕ) (gs : List Grown) (row : List Value) → n ≡ length gs → length row ≡ length gs → All (λ c. length c ≡ count) (cells_grown gs)
    → rows_across (cells_grown (grown_more n gs row)) (count + 1) ≡ rows_across (cells_grown gs) count ++ row ∷ []
rows_more count n gs row e f all =
    let old = cells_grown gs in
    let new = cells_grown (grown_more n gs row) in
    let firsts = fill_by_all (row_across new) (rows_across old count) count [] (length-rows_across old count)
    (λ k l. get_or_from_slice_get (rows_across old count) k (row_across old k) [] (row_got old count k l) ∙ sym (same_row k count n gs row l all)) in
    map-range_with_len_more (row_across new) 0 count count (omega arith) ∙ (λ i. sym firsts i ++ last_row count n gs row e f all i ∷ [])

still_long : (i : ℕ) (gs now : List Grown) (row : List Value) → now ≡ grown_more i gs row → length now ≡ length gs
still_long i gs now row is = ap length is ∙ length-grown_more i gs row

-- the column that comes next is as it was
next_is : (gs now : List Grown) (row : List Value) (i : ℕ) (g : Grown) → now ≡ grown_more i gs row → i < length gs → g ≡ get_or now i g → g ≡ get_or gs i g
next_is gs now row i g is within at = at ∙ ap (λ (xs : List Grown). get_or xs i g) is ∙ got_more i gs row g within

pub next_typed : (gs now : List Grown) (row : List Value) (i : ℕ) (g : Grown) (v : Value) → IsOfTypes (types_grown gs) row → now ≡ grown_more i gs row → i < length now → g ≡ get_or now i g → v ≡ get_or row i v
    → HasType g.ty v
next_typed gs now row i g v of is within at cell =
    let long = still_long i gs now row is in
    let there : i < length gs = omega (arith, long, within) in
    let same = next_is gs now row i g is there at in
    subst (λ (w : Value). HasType g.ty w) (sym cell) (subst (λ (h : Grown). HasType h.ty (get_or row i v)) (sym same) (typed_at gs row i g v of there))

-- it took the cell of the row
pub next_taken : (gs now : List Grown) (row : List Value) (i : ℕ) (g y : Grown) (v : Value) → IsOfTypes (types_grown gs) row → now ≡ grown_more i gs row → i < length now → g ≡ get_or now i g → v ≡ get_or row i v → y ≡ with_cell g v
    → set now i y ≡ grown_more (i + 1) gs row
next_taken gs now row i g y v of is within at cell new =
    let long = still_long i gs now row is in
    let there : i < length gs = omega (arith, long, within) in
    let wide : i < length row = let n = length-IsOfTypes gs row of in omega (arith, n, there) in
    let same = next_is gs now row i g is there at in
    (λ t. set (is t) i ((new ∙ (λ k. with_cell (same k) (cell k))) t)) ∙ set_more i gs row g v there wide

-- all columns took their cells of a row
pub all_whole : (gs now : List Grown) (row : List Value) (count n : ℕ) → IsOfTypes (types_grown gs) row → now ≡ grown_more n gs row → n ≡ length gs → AreWhole (cells_grown gs) count → count + 1 < 2 ^ 63
    → AreWhole (cells_grown now) (count + 1)
all_whole gs now row count n of is all whole small = record {
  long = subst (λ (xs : List Grown). All (λ c. length c ≡ count + 1) (cells_grown xs)) (sym is) (whole_more count n gs row all (length-IsOfTypes gs row of) whole.long);
  small = small;
}

pub all_taken : (gs now : List Grown) (row : List Value) (count n : ℕ) (b : ComingRows) → IsOfTypes (types_grown gs) row → now ≡ grown_more n gs row → n ≡ length gs → AreWhole (cells_grown gs) count
    → record { types = types_grown gs; rows = rows_across (cells_grown gs) count } ≡ b → record { types = types_grown now; rows = rows_across (cells_grown now) (count + 1) } ≡ with_row b row
all_taken gs now row count n b of is all whole view =
    (λ t. record {
      types = (ap types_grown is ∙ types-grown_more n gs row) t;
      rows = (ap (λ (xs : List Grown). rows_across (cells_grown xs) (count + 1)) is ∙ rows_more count n gs row all (length-IsOfTypes gs row of) whole.long) t;
    }) ∙ ap (λ (c : ComingRows). with_row c row) view

-- columns that nothing came to
abbrev pub begun_all : List Field → List Grown
begun_all = map (λ (f : Field). begun f.ty)

pub types-begun_all : (fs : List Field) → types_grown (begun_all fs) ≡ types_of fs
types-begun_all [] = refl
types-begun_all (f ∷ fs) = ap (λ (ts : List Ty). f.ty ∷ ts) (types-begun_all fs)

pub whole_none : (fs : List Field) → All (λ c. length c ≡ 0) (cells_grown (begun_all fs))
whole_none [] = All-nil (λ c. length c ≡ 0)
whole_none (f ∷ fs) = All-cons (λ c. length c ≡ 0) [] (cells_grown (begun_all fs)) refl (whole_none fs)

pub begun_more : (fs : List Field) (i : ℕ) (f : Field) → i < length fs → f ≡ get_or fs i f → begun_all (take (i + 1) fs) ≡ begun_all (take i fs) ++ begun f.ty ∷ []
begun_more fs i f within is =
    ap begun_all (take_more fs i f within) ∙ map-append (λ (g : Field). begun g.ty) (take i fs) (get_or fs i f ∷ []) ∙ (λ t. begun_all (take i fs) ++ begun (sym is t).ty ∷ [])
