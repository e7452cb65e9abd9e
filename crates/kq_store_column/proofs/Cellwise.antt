-- The cells of one row more.
use Rattle.std.proofs.Common.{◌≡◌, ◌<◌, ◌+◌, ℕ, Some, option_map, List, [], ◌∷◌, ◌++◌, length, take, get_or, slice_get, Bool, true, false, not, cond, ap, sym, ◌∙◌, append-nil, All, subst}
use Rattle.std.proofs.lemmas.List.{take_more, length-map, get_or_read}
use Rattle.std.proofs.lemmas.List.Elements.{filter-append}
use Rattle.std.proofs.lemmas.Option.{slice_get_within, get_or_from_slice_get, slice_get-map}
use Rattle.kq_value.specs.declared.value.Value.{Value}
use Rattle.kq_value.specs.Typed.{is_null}
use Rattle.kq_store_column.specs.Cells.{cell_in, cells_present, column_of, is_present, IsWider}

pub take_got : {X : Type 0} (xs : List X) (i : ℕ) (x : X) → slice_get xs i ≡ Some x → take (i + 1) xs ≡ take i xs ++ x ∷ []
take_got {X} xs i x got = take_more xs i x (slice_get_within xs i x got) ∙ ap (λ (y : X). take i xs ++ y ∷ []) (get_or_from_slice_get xs i x x got)

pub length-column_of : (column : ℕ) (rows : List (List Value)) → length (column_of column rows) ≡ length rows
length-column_of column rows = length-map rows (cell_in column)

-- a row that is there reaches the column
pub wide_at : (column : ℕ) (rows : List (List Value)) (i : ℕ) (row : List Value) → All (IsWider column) rows → slice_get rows i ≡ Some row → column < length row
wide_at column rows i row wide got = subst (IsWider column) (get_or_from_slice_get rows i row [] got) (wide i [] (slice_get_within rows i row got))

-- the cell that was read in a row is the column's
pub cell_got : (column : ℕ) (rows : List (List Value)) (i : ℕ) (row : List Value) (v : Value) → column < length row → slice_get rows i ≡ Some row → v ≡ get_or row column v
    → slice_get (column_of column rows) i ≡ Some v
cell_got column rows i row v within got is =
    slice_get-map (cell_in column) rows i ∙ ap (option_map (cell_in column)) got ∙ ap (λ (w : Value). Some w) (sym (get_or_read row column v within is _))

one_present : (v : Value) → is_null v ≡ false → cells_present (v ∷ []) ≡ v ∷ []
one_present v present = ap (λ (b : Bool). cond (not b) (v ∷ []) []) present

none_present : (v : Value) → is_null v ≡ true → cells_present (v ∷ []) ≡ []
none_present v null = ap (λ (b : Bool). cond (not b) (v ∷ []) []) null

cells_present-push : (cells : List Value) (v : Value) → cells_present (cells ++ v ∷ []) ≡ cells_present cells ++ cells_present (v ∷ [])
cells_present-push cells v = filter-append is_present cells (v ∷ [])

pub cells_present-more : (cells : List Value) (i : ℕ) (v : Value) → slice_get cells i ≡ Some v → is_null v ≡ false → cells_present (take (i + 1) cells) ≡ cells_present (take i cells) ++ v ∷ []
cells_present-more cells i v got present =
    ap cells_present (take_got cells i v got) ∙ cells_present-push (take i cells) v ∙ ap (λ (vs : List Value). cells_present (take i cells) ++ vs) (one_present v present)

pub cells_present-same : (cells : List Value) (i : ℕ) (v : Value) → slice_get cells i ≡ Some v → is_null v ≡ true → cells_present (take (i + 1) cells) ≡ cells_present (take i cells)
cells_present-same cells i v got null =
    ap cells_present (take_got cells i v got) ∙ cells_present-push (take i cells) v ∙ ap (λ (vs : List Value). cells_present (take i cells) ++ vs) (none_present v null) ∙ append-nil (cells_present (take i cells))
