-- What loops that pick and merge keep.
use Rattle.std.proofs.Common.{◌≡◌, ◌<◌, ◌≤◌, ℕ, zero, suc, min, Bool, true, false, List, [], ◌∷◌, ◌++◌, map, length, get_or, take, drop, refl, sym, ap, ◌∙◌, arith, append-nil, append_assoc}
use Rattle.kq_value.specs.declared.value.Value.{Value}
use Rattle.kq_value.specs.declared.value.Value.TheVariants.{Bool as Truth}
use Rattle.kq_value_arithmetic.specs.Logic.{is_yes}
use Rattle.kq_eval_row.specs.Val.{cell_of}
use Rattle.kq_store_column_view.specs.declared.vector.Vector.{Vector}
use Rattle.kq_eval_columns.specs.Vectors.{rows_at, row_at}
use Rattle.kq_eval_columns.specs.Choices.{picked, merged}

drop_tests : (xs : List Bool) (i : ℕ) → length xs ≤ i → drop i xs ≡ []
drop_tests [] zero h = refl
drop_tests [] (suc i) h = refl
drop_tests (y ∷ xs) zero h = absurd (omega arith)
drop_tests (y ∷ xs) (suc i) h = drop_tests xs i (omega arith)

pub map_more : (f : Value → Bool) (xs : List Value) (i : ℕ) → i < length xs → map f (take (suc i) xs) ≡ map f (take i xs) ++ f (cell_of xs i) ∷ []
map_more f [] i h = absurd (omega arith)
map_more f (x ∷ xs) zero h = refl
map_more f (x ∷ xs) (suc i) h = ap (λ ys. f x ∷ ys) (map_more f xs i (omega arith))

is_yes_truth : (b : Bool) → is_yes (Truth b) ≡ b
is_yes_truth true = refl
is_yes_truth false = refl

pub truths_back : (bs : List Bool) → map is_yes (map Truth bs) ≡ bs
truths_back [] = refl
truths_back (b ∷ bs) = λ j. is_yes_truth b j ∷ truths_back bs j

-- a cell is the item at its place
pub cell_is : (xs : List Value) (i : ℕ) (x : Value) → i < length xs → x ≡ cell_of xs i → x ≡ get_or xs i x
cell_is [] i x h e = absurd (omega arith)
cell_is (y ∷ xs) zero x h e = e
cell_is (y ∷ xs) (suc i) x h e = cell_is xs i x (omega arith) e

module _ {A : Type 0} where
  pub picked_true : (ts : List Bool) (xs : List A) (i : ℕ) (t : Bool) (x : A) → i < length ts → i < length xs → x ≡ get_or xs i x → get_or ts i t ≡ true
      → picked (drop i ts) (drop i xs) ≡ x ∷ picked (drop (suc i) ts) (drop (suc i) xs)
  picked_true [] xs i t x h k e p = absurd (omega arith)
  picked_true (b ∷ ts) [] i t x h k e p = absurd (omega arith)
  picked_true (b ∷ ts) (y ∷ xs) zero t x h k e p = rw p (ap (λ z. z ∷ picked ts xs) (sym e))
  picked_true (b ∷ ts) (y ∷ xs) (suc i) t x h k e p = picked_true ts xs i t x (omega arith) (omega arith) e p

  pub picked_false : (ts : List Bool) (xs : List A) (i : ℕ) (t : Bool) → i < length ts → i < length xs → get_or ts i t ≡ false
      → picked (drop i ts) (drop i xs) ≡ picked (drop (suc i) ts) (drop (suc i) xs)
  picked_false [] xs i t h k p = absurd (omega arith)
  picked_false (b ∷ ts) [] i t h k p = absurd (omega arith)
  picked_false (b ∷ ts) (y ∷ xs) zero t h k p = rw p refl
  picked_false (b ∷ ts) (y ∷ xs) (suc i) t h k p = picked_false ts xs i t (omega arith) (omega arith) p

  none_left : (us : List Bool) → picked {A = A} us [] ≡ []
  none_left [] = refl
  none_left (u ∷ us) = refl

  pub picked_end : (ts : List Bool) (xs : List A) (i : ℕ) → min (length ts) (length xs) ≤ i → picked (drop i ts) (drop i xs) ≡ []
  picked_end [] xs zero h = refl
  picked_end [] xs (suc i) h = refl
  picked_end (b ∷ ts) [] zero h = refl
  picked_end (b ∷ ts) [] (suc i) h = none_left (drop i ts)
  picked_end (b ∷ ts) (y ∷ xs) zero h = absurd (omega arith)
  picked_end (b ∷ ts) (y ∷ xs) (suc i) h = picked_end ts xs i (omega arith)

  item_at : (xs : List A) (i : ℕ) (x : A) → i < length xs → x ≡ get_or xs i x → drop i xs ≡ x ∷ drop (suc i) xs
  item_at [] i x h e = absurd (omega arith)
  item_at (y ∷ xs) zero x h e = ap (λ z. z ∷ xs) (sym e)
  item_at (y ∷ xs) (suc i) x h e = item_at xs i x (omega arith) e

  drop_all : (xs : List A) (i : ℕ) → length xs ≤ i → drop i xs ≡ []
  drop_all [] zero h = refl
  drop_all [] (suc i) h = refl
  drop_all (y ∷ xs) zero h = absurd (omega arith)
  drop_all (y ∷ xs) (suc i) h = drop_all xs i (omega arith)

  pub list_goes_on : (whole next made rest : List A) (x : A) → whole ≡ made ++ next → next ≡ x ∷ rest → whole ≡ (made ++ x ∷ []) ++ rest
  list_goes_on whole next made rest x h e = h ∙ rw e (sym (append_assoc made (x ∷ []) rest))

  pub list_ends : (whole next made : List A) → whole ≡ made ++ next → next ≡ [] → made ≡ whole
  list_ends whole next made h e = sym (h ∙ rw e (append-nil made))

  module _ (ts : List Bool) (ys zs : List A) (k i j : ℕ) where
    tests_at : (t b : Bool) → k < length ts → get_or ts k t ≡ b → drop k ts ≡ b ∷ drop (suc k) ts
    tests_at t b h p = from ts k h p
      where
        from : (us : List Bool) (n : ℕ) → n < length us → get_or us n t ≡ b → drop n us ≡ b ∷ drop (suc n) us
        from [] n h p = absurd (omega arith)
        from (u ∷ us) zero h p = ap (λ z. z ∷ us) p
        from (u ∷ us) (suc n) h p = from us n (omega arith) p

    pub merged_first : (t : Bool) (y : A) → k < length ts → get_or ts k t ≡ true → i < length ys → y ≡ get_or ys i y
        → merged (drop k ts) (drop i ys) (drop j zs) ≡ y ∷ merged (drop (suc k) ts) (drop (suc i) ys) (drop j zs)
    merged_first t y h p g e = rw (tests_at t true h p, item_at ys i y g e) refl

    pub merged_second : (t : Bool) (z : A) → k < length ts → get_or ts k t ≡ false → j < length zs → z ≡ get_or zs j z
        → merged (drop k ts) (drop i ys) (drop j zs) ≡ z ∷ merged (drop (suc k) ts) (drop i ys) (drop (suc j) zs)
    merged_second t z h p g e = rw (tests_at t false h p, item_at zs j z g e) refl

    pub merged_no_first : (t : Bool) → k < length ts → get_or ts k t ≡ true → length ys ≤ i → merged (drop k ts) (drop i ys) (drop j zs) ≡ []
    merged_no_first t h p g = rw (tests_at t true h p, drop_all ys i g) refl

    pub merged_no_second : (t : Bool) → k < length ts → get_or ts k t ≡ false → length zs ≤ j → merged (drop k ts) (drop i ys) (drop j zs) ≡ []
    merged_no_second t h p g = rw (tests_at t false h p, drop_all zs j g) refl

    pub merged_end : length ts ≤ k → merged (drop k ts) (drop i ys) (drop j zs) ≡ []
    merged_end h = rw (drop_tests ts k h) refl

pub merged_first_cell : (ts : List Bool) (ys zs : List Value) (k i j : ℕ) (t : Bool) (y : Value) → k < length ts → get_or ts k t ≡ true → i < length ys → y ≡ cell_of ys i
    → merged (drop k ts) (drop i ys) (drop j zs) ≡ y ∷ merged (drop (suc k) ts) (drop (suc i) ys) (drop j zs)
merged_first_cell ts ys zs k i j t y h p g e = merged_first ts ys zs k i j t y h p g (cell_is ys i y g e)

pub merged_second_cell : (ts : List Bool) (ys zs : List Value) (k i j : ℕ) (t : Bool) (z : Value) → k < length ts → get_or ts k t ≡ false → j < length zs → z ≡ cell_of zs j
    → merged (drop k ts) (drop i ys) (drop j zs) ≡ z ∷ merged (drop (suc k) ts) (drop i ys) (drop (suc j) zs)
merged_second_cell ts ys zs k i j t z h p g e = merged_second ts ys zs k i j t z h p g (cell_is zs j z g e)

pub merged_mapped : {A B : Type 0} (v : A → B) (ts : List Bool) (ys zs : List A) → map v (merged ts ys zs) ≡ merged ts (map v ys) (map v zs)
merged_mapped v [] ys zs = refl
merged_mapped v (true ∷ ts) [] zs = refl
merged_mapped v (true ∷ ts) (y ∷ ys) zs = ap (λ us. v y ∷ us) (merged_mapped v ts ys zs)
merged_mapped v (false ∷ ts) ys [] = refl
merged_mapped v (false ∷ ts) ys (z ∷ zs) = ap (λ us. v z ∷ us) (merged_mapped v ts ys zs)

picked_mapped : {A B : Type 0} (v : A → B) (ts : List Bool) (xs : List A) → map v (picked ts xs) ≡ picked ts (map v xs)
picked_mapped v [] xs = refl
picked_mapped v (t ∷ ts) [] = refl
picked_mapped v (true ∷ ts) (x ∷ xs) = ap (λ us. v x ∷ us) (picked_mapped v ts xs)
picked_mapped v (false ∷ ts) (x ∷ xs) = picked_mapped v ts xs

pub rows_picked : (columns : List Vector) (ts : List Bool) (places made : List ℕ) → made ≡ picked ts places → rows_at columns made ≡ picked ts (rows_at columns places)
rows_picked columns ts places made e = ap (rows_at columns) e ∙ picked_mapped (row_at columns) ts places
