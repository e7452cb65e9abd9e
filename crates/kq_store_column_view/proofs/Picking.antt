-- Items at places, as cells.
use Rattle.std.proofs.Common.{◌≡◌, ◌<◌, ◌+◌, ℕ, zero, suc, List, [], ◌∷◌, ◌++◌, All, map, length, get_or, take, replicate, Option, Some, None, refl, sym, ap, subst, ◌∙◌, arith}
use Rattle.std.specs.Prelude.{slice_get}
use Rattle.std.proofs.lemmas.List.{take_more}
use Rattle.std.proofs.lemmas.List.Elements.{All-head, All-tail, All-push}
use Rattle.kq_value.specs.declared.ty.Ty.TheVariants.{Long}
use Rattle.kq_value.specs.declared.value.Value.{Value}
use Rattle.kq_value.specs.declared.value.Value.TheVariants.{Null}
use Rattle.kq_store_column_view.specs.Vectors.{cell_of}

pub map_take_more : {A : Type 0} (f : ℕ → A) (xs : List ℕ) (i : ℕ) → i < length xs → map f (take (suc i) xs) ≡ map f (take i xs) ++ f (get_or xs i 0) ∷ []
map_take_more f [] i h = absurd (omega arith)
map_take_more f (x ∷ xs) zero h = refl
map_take_more f (x ∷ xs) (suc i) h = ap (λ ys. f x ∷ ys) (map_take_more f xs i (omega arith))

pub some_at : {A : Type 0} (xs : List A) (i : ℕ) (x : A) → i < length xs → x ≡ get_or xs i x → Some x ≡ slice_get xs i
some_at [] i x h e = absurd (omega arith)
some_at (y ∷ xs) zero x h e = ap Some e
some_at (y ∷ xs) (suc i) x h e = some_at xs i x (omega arith) e

abbrev as_cell : {A : Type 0} → (A → Value) → Option A → Value
as_cell f (Some x) = f x
as_cell f None = Null Long

found_cell : {A : Type 0} (f : A → Value) (xs : List A) (i : ℕ) → as_cell f (slice_get xs i) ≡ cell_of (map f xs) i
found_cell f [] zero = refl
found_cell f [] (suc i) = refl
found_cell f (x ∷ xs) zero = refl
found_cell f (x ∷ xs) (suc i) = found_cell f xs i

of_found : {A : Type 0} (f : A → Value) (vs : List A) → map f vs ≡ map (as_cell f) (map Some vs)
of_found f [] = refl
of_found f (v ∷ vs) = ap (λ us. f v ∷ us) (of_found f vs)

of_places : {A : Type 0} (f : A → Value) (xs : List A) (places : List ℕ) → map (as_cell f) (map (slice_get xs) places) ≡ map (cell_of (map f xs)) places
of_places f xs [] = refl
of_places f xs (i ∷ places) = λ k. found_cell f xs i k ∷ of_places f xs places k

-- items found at places are cells found there
pub gathered_mapped : {A : Type 0} (f : A → Value) (xs vs : List A) (places : List ℕ) → map Some vs ≡ map (slice_get xs) places → map f vs ≡ map (cell_of (map f xs)) places
gathered_mapped f xs vs places e = of_found f vs ∙ ap (map (as_cell f)) e ∙ of_places f xs places

-- the same of codes of words
pub gathered_codes : (words : List Value) (codes found : List ℕ) (places : List ℕ) → map Some found ≡ map (slice_get codes) places → map (cell_of words) found ≡ map (cell_of (map (cell_of words) codes)) places
gathered_codes words codes found places e = gathered_mapped (cell_of words) codes found places e

-- one cell more
pub cells_more : (cells : List Value) (i : ℕ) → i < length cells → take (suc i) cells ≡ take i cells ++ cell_of cells i ∷ []
cells_more [] i h = absurd (omega arith)
cells_more (x ∷ cells) zero h = refl
cells_more (x ∷ cells) (suc i) h = ap (λ ys. x ∷ ys) (cells_more cells i (omega arith))

pub item_cell : (xs : List Value) (i : ℕ) (x : Value) → i < length xs → x ≡ get_or xs i x → cell_of xs i ≡ x
item_cell [] i x h e = absurd (omega arith)
item_cell (y ∷ xs) zero x h e = sym e
item_cell (y ∷ xs) (suc i) x h e = item_cell xs i x (omega arith) e

same_cell : (v : Value) (count i : ℕ) → i < count → v ≡ cell_of (replicate count v) i
same_cell v zero i h = absurd (omega arith)
same_cell v (suc count) zero h = refl
same_cell v (suc count) (suc i) h = same_cell v count i (omega arith)

-- one cell, at any places
pub same_cells : (v : Value) (count : ℕ) (places : List ℕ) → All (λ p. p < count) places → replicate (length places) v ≡ map (cell_of (replicate count v)) places
same_cells v count [] below = refl
same_cells v count (p ∷ places) below = λ k. same_cell v count p (All-head (λ p. p < count) p places below) k ∷ same_cells v count places (All-tail (λ p. p < count) p places below) k

-- one place more
pub below_more : (count : ℕ) (places : List ℕ) (i : ℕ) → i < length places → get_or places i 0 < count → All (λ p. p < count) (take i places) → All (λ p. p < count) (take (i + 1) places)
below_more count places i h below all = subst (λ (ps : List ℕ). All (λ p. p < count) ps) (sym (take_more places i 0 h)) (All-push (λ p. p < count) (take i places) (get_or places i 0) all below)
