-- The cells of the rows at some places.
use Rattle.std.proofs.Common.{◌≡◌, ◌<◌, ◌≤◌, ◌+◌, ℕ, zero, suc, List, [], ◌∷◌, ◌++◌, map, length, get_or, take, Option, Some, None, Vec, Global, subst, refl, sym, ap, ◌∙◌, arith}
use Rattle.std.proofs.Math.ListN.{replicate}
use Rattle.std.proofs.lemmas.List.{take_more}
use Rattle.std.specs.Prelude.{slice_get, IfSome}
use Rattle.std.specs.List.{range_with_len}
use Rattle.std.proofs.lemmas.List.FromFn.{fill_by_all}
use Rattle.std.proofs.lemmas.Option.{unwrap_or-slice_get}
use Rattle.kq_value.specs.declared.ty.Ty.TheVariants.{Long}
use Rattle.kq_value.specs.declared.value.Value.{Value}
use Rattle.kq_value.specs.declared.value.Value.TheVariants.{Null}
use Rattle.kq_eval_row.specs.Val.{cell_of}
use Rattle.kq_store_column_view.specs.declared.vector.Vector.{Vector}
use Rattle.kq_store_column_view.specs.Vectors.{cells_of}
use Rattle.kq_eval_columns.specs.Vectors.{row_at, rows_at}
use Rattle.kq_eval_columns.specs.Over.{bare}

cell_of-row : (columns : List Vector) (i j : ℕ) (c : Vector) → j < length columns → c ≡ get_or columns j c → cell_of (cells_of c) i ≡ cell_of (row_at columns i) j
cell_of-row [] i j c h is = absurd (omega arith)
cell_of-row (x ∷ columns) i zero c h is = ap (λ (d : Vector). cell_of (cells_of d) i) is
cell_of-row (x ∷ columns) i (suc j) c h is = cell_of-row columns i j c (omega arith) is

cell_of-beyond : (columns : List Vector) (i j : ℕ) → length columns ≤ j → Null Long ≡ cell_of (row_at columns i) j
cell_of-beyond [] i zero h = refl
cell_of-beyond [] i (suc j) h = refl
cell_of-beyond (x ∷ columns) i zero h = absurd (omega arith)
cell_of-beyond (x ∷ columns) i (suc j) h = cell_of-beyond columns i j (omega arith)

-- the cells of one column are those of the rows
cells-rows : (columns : List Vector) (places : List ℕ) (j : ℕ) (c : Vector) → j < length columns → c ≡ get_or columns j c → map (cell_of (cells_of c)) places ≡ map (λ r. cell_of r j) (rows_at columns places)
cells-rows columns [] j c h is = refl
cells-rows columns (i ∷ places) j c h is = λ k. cell_of-row columns i j c h is k ∷ cells-rows columns places j c h is k

all_beyond : (columns : List Vector) (places : List ℕ) (j : ℕ) → length columns ≤ j → map (λ r. cell_of r j) (rows_at columns places) ≡ replicate (length places) (Null Long)
all_beyond columns [] j h = refl
all_beyond columns (i ∷ places) j h = λ k. sym (cell_of-beyond columns i j h) k ∷ all_beyond columns places j h k

-- what is the same for all rows
same_of_all : {A : Type 0} (v : A) (columns : List Vector) (places : List ℕ) → map (λ (r : List Value). v) (rows_at columns places) ≡ replicate (length places) v
same_of_all v columns [] = refl
same_of_all v columns (i ∷ places) = ap (λ xs. v ∷ xs) (same_of_all v columns places)

pub bare_rows : (columns : List Vector) (places : List ℕ) (n : ℕ) → n ≡ length places → bare (rows_at columns places) ≡ replicate n []
bare_rows columns places n h = same_of_all [] columns places ∙ ap (λ (k : ℕ). replicate k []) (sym h)

pub map_replicate : {A B : Type 0} (f : A → B) (n : ℕ) (x : A) → map f (replicate n x) ≡ replicate n (f x)
map_replicate f zero x = refl
map_replicate f (suc n) x = ap (λ xs. f x ∷ xs) (map_replicate f n x)

pub replicate_more : {A : Type 0} (n : ℕ) (x : A) → replicate (suc n) x ≡ replicate n x ++ x ∷ []
replicate_more zero x = refl
replicate_more (suc n) x = ap (λ xs. x ∷ xs) (replicate_more n x)

pub map_take_more : {A : Type 0} (f : ℕ → A) (xs : List ℕ) (i : ℕ) → i < length xs → map f (take (suc i) xs) ≡ map f (take i xs) ++ f (get_or xs i 0) ∷ []
map_take_more f [] i h = absurd (omega arith)
map_take_more f (x ∷ xs) zero h = refl
map_take_more f (x ∷ xs) (suc i) h = ap (λ ys. f x ∷ ys) (map_take_more f xs i (omega arith))

-- one item more
pub map_more : {A B : Type 0} (f : A → B) (xs : List A) (i : ℕ) (x : A) → i < length xs → x ≡ get_or xs i x → map f (take (suc i) xs) ≡ map f (take i xs) ++ f x ∷ []
map_more f [] i x h e = absurd (omega arith)
map_more f (y ∷ xs) zero x h e = ap (λ z. f z ∷ []) (sym e)
map_more f (y ∷ xs) (suc i) x h e = ap (λ ys. f y ∷ ys) (map_more f xs i x (omega arith) e)

pub map_next : {A B : Type 0} (f : A → B) (xs : List A) (i : ℕ) (d : A) → i < length xs → map f (take (suc i) xs) ≡ map f (take i xs) ++ f (get_or xs i d) ∷ []
map_next f [] i d h = absurd (omega arith)
map_next f (x ∷ xs) zero d h = refl
map_next f (x ∷ xs) (suc i) d h = ap (λ ys. f x ∷ ys) (map_next f xs i d (omega arith))

pub item_cell : (xs : List Value) (i : ℕ) (x : Value) → i < length xs → x ≡ get_or xs i x → cell_of xs i ≡ x
item_cell [] i x h e = absurd (omega arith)
item_cell (y ∷ xs) zero x h e = sym e
item_cell (y ∷ xs) (suc i) x h e = item_cell xs i x (omega arith) e

pub some_there : {A : Type 0} (xs : List A) (i : ℕ) (d : A) → i < length xs → Some (get_or xs i d) ≡ slice_get xs i
some_there [] i d h = absurd (omega arith)
some_there (y ∷ xs) zero d h = refl
some_there (y ∷ xs) (suc i) d h = some_there xs i d (omega arith)

pub some_at : {A : Type 0} (xs : List A) (i : ℕ) (x : A) → i < length xs → x ≡ get_or xs i x → Some x ≡ slice_get xs i
some_at [] i x h e = absurd (omega arith)
some_at (y ∷ xs) zero x h e = ap Some e
some_at (y ∷ xs) (suc i) x h e = some_at xs i x (omega arith) e

-- items found at places are cells found there
abbrev as_cell : {A : Type 0} → (A → Value) → Option A → Value
as_cell f (Some x) = f x
as_cell f None = Null Long

found_cell : {A : Type 0} (f : A → Value) (xs : List A) (i : ℕ) → as_cell f (slice_get xs i) ≡ cell_of (map f xs) i
found_cell f [] zero = refl
found_cell f [] (suc i) = refl
found_cell f (x ∷ xs) zero = refl
found_cell f (x ∷ xs) (suc i) = found_cell f xs i

of_found : {A : Type 0} (f : A → Value) (vs : List A) → map f vs ≡ map (as_cell f) (map Some vs)
of_found f [] = refl
of_found f (v ∷ vs) = ap (λ us. f v ∷ us) (of_found f vs)

of_places : {A : Type 0} (f : A → Value) (xs : List A) (places : List ℕ) → map (as_cell f) (map (slice_get xs) places) ≡ map (cell_of (map f xs)) places
of_places f xs [] = refl
of_places f xs (i ∷ places) = λ k. found_cell f xs i k ∷ of_places f xs places k

pub gathered_mapped : {A : Type 0} (f : A → Value) (xs vs : List A) (places : List ℕ) → map Some vs ≡ map (slice_get xs) places → map f vs ≡ map (cell_of (map f xs)) places
gathered_mapped f xs vs places e = of_found f vs ∙ ap (map (as_cell f)) e ∙ of_places f xs places

pub filled_over : (v : Value) (columns : List Vector) (places : List ℕ) (n : ℕ) (made : List Value) → n ≡ length places → made ≡ replicate n v → map (λ (r : List Value). v) (rows_at columns places) ≡ made
filled_over v columns places n made h e = same_of_all v columns places ∙ ap (λ (k : ℕ). replicate k v) (sym h) ∙ sym e

pub column_of_rows : (columns : List Vector) (places : List ℕ) (j : ℕ) (c : Vector) (made : List Value) → j < length columns → c ≡ get_or columns j c → made ≡ map (cell_of (cells_of c)) places → map (λ r. cell_of r j) (rows_at columns places) ≡ made
column_of_rows columns places j c made h is e = sym (e ∙ cells-rows columns places j c h is)

pub beyond_of_rows : (columns : List Vector) (places : List ℕ) (j n : ℕ) (made : List Value) → length columns ≤ j → n ≡ length places → made ≡ replicate n (Null Long) → map (λ r. cell_of r j) (rows_at columns places) ≡ made
beyond_of_rows columns places j n made h k e = all_beyond columns places j h ∙ ap (λ (m : ℕ). replicate m (Null Long)) (sym k) ∙ sym e

-- the cells of a column without nulls, where its items were found at all places
pub found_at : {A : Type 0} (f : A → Value) (column : Vector) (xs ys : List A) (places : List ℕ) (o : Option (Vec A Global)) (v : Vec A Global)
    → cells_of column ≡ map f ys → xs ≡ ys → o ≡ Some v → IfSome o (λ v. map Some v.items ≡ map (slice_get xs) places) → map f v.items ≡ map (cell_of (cells_of column)) places
found_at f column xs ys places o v is e s h =
    let found : IfSome (Some v) (λ v. map Some v.items ≡ map (slice_get xs) places) = subst (λ (o : Option (Vec _ Global)). IfSome o (λ v. map Some v.items ≡ map (slice_get xs) places)) s h in
    gathered_mapped f xs v.items places found ∙ ap (λ cs. map (cell_of cs) places) (ap (map f) e ∙ sym is)

-- at all places, in order, stand the cells themselves
pub all_cells : (cells made : List Value) (places : List ℕ) (n : ℕ) → places ≡ range_with_len 0 n → n ≡ length cells → made ≡ cells → made ≡ map (cell_of cells) places
all_cells cells made places n all long is =
    is ∙ fill_by_all (cell_of cells) cells n (Null Long) (sym long) (λ k l. sym (unwrap_or-slice_get cells k (Null Long))) ∙ ap (map (cell_of cells)) (sym all)

range_next : (a n m : ℕ) → m ≡ a + n → range_with_len a (suc n) ≡ range_with_len a n ++ m ∷ []
range_next a zero m e = let same : a ≡ m = omega arith in ap (λ (k : ℕ). k ∷ []) same
range_next a (suc n) m e = ap (λ (ks : List ℕ). a ∷ ks) (range_next (a + 1) n m (omega arith))

-- one place more is the next in order
pub firsts : (xs : List ℕ) (i : ℕ) → i < length xs → get_or xs i 0 ≡ i → take i xs ≡ range_with_len 0 i → take (suc i) xs ≡ range_with_len 0 (suc i)
firsts xs i h e so_far =
    let one : suc i ≡ i + 1 = omega arith in
    ap (λ (k : ℕ). take k xs) one ∙ take_more xs i 0 h ∙ (λ j. so_far j ++ e j ∷ []) ∙ sym (range_next 0 i i (omega arith))
