-- Cells that are lent, from a place on, up to another.
use Rattle.std.proofs.Common.{◌≡◌, ◌<◌, ◌≤◌, ◌-◌, ℕ, zero, suc, ℤ, Bool, true, false, List, [], ◌∷◌, Option, Some, None, length, map, take, drop, refl, sym, ap, ◌∙◌, arith}
use Rattle.std.proofs.lemmas.List.{take-map, drop-map, length-drop}
use Rattle.std.proofs.lemmas.Option.{unwrap_or-slice_get}
use Rattle.kq_value.specs.declared.ty.Ty.{Ty}
use Rattle.kq_value.specs.declared.ty.Ty.TheVariants as ty
use Rattle.kq_value.specs.declared.value.Value.{Value}
use Rattle.kq_value.specs.declared.value.Value.TheVariants.{Null}
use Rattle.kq_store_column_view.specs.Numbers.{marked, number_cell, AreNumbers}
use Rattle.kq_store_column_view.specs.Vectors.{cell_of}
use Rattle.kq_store_column.specs.Words.{word_at}

part-map : {A B : Type 0} (f : A → B) (n from : ℕ) (xs : List A) → map f (take n (drop from xs)) ≡ take n (drop from (map f xs))
part-map f n from xs = sym (ap (take n) (drop-map f from xs) ∙ take-map f n (drop from xs))

part-none : {A : Type 0} (xs : List A) (n from : ℕ) → length xs ≤ 0 → take n (drop from xs) ≡ xs
part-none [] zero zero h = refl
part-none [] zero (suc from) h = refl
part-none [] (suc n) zero h = refl
part-none [] (suc n) (suc from) h = refl
part-none (x ∷ xs) n from h = absurd (omega arith)

-- a part of nothing
pub none_lent : {A : Type 0} (xs : List A) (n from : ℕ) → length xs ≤ 0 → xs ≡ take n (drop from xs)
none_lent xs n from h = sym (part-none xs n from h)

drop-plain : (n : ℕ) (zs : List ℤ) → drop n (marked [] zs) ≡ marked [] (drop n zs)
drop-plain zero zs = refl
drop-plain (suc n) [] = refl
drop-plain (suc n) (z ∷ zs) = drop-plain n zs

take-plain : (n : ℕ) (zs : List ℤ) → take n (marked [] zs) ≡ marked [] (take n zs)
take-plain zero zs = refl
take-plain (suc n) [] = refl
take-plain (suc n) (z ∷ zs) = ap (λ (os : List (Option ℤ)). Some z ∷ os) (take-plain n zs)

drop-marked : (n : ℕ) (ns : List Bool) (zs : List ℤ) → length ns ≡ length zs → drop n (marked ns zs) ≡ marked (drop n ns) (drop n zs)
drop-marked zero ns zs h = refl
drop-marked (suc n) [] [] h = refl
drop-marked (suc n) [] (z ∷ zs) h = absurd (omega arith)
drop-marked (suc n) (m ∷ ns) [] h = absurd (omega arith)
drop-marked (suc n) (true ∷ ns) (z ∷ zs) h = drop-marked n ns zs (omega arith)
drop-marked (suc n) (false ∷ ns) (z ∷ zs) h = drop-marked n ns zs (omega arith)

take-marked : (n : ℕ) (ns : List Bool) (zs : List ℤ) → length ns ≡ length zs → take n (marked ns zs) ≡ marked (take n ns) (take n zs)
take-marked zero ns zs h = refl
take-marked (suc n) [] [] h = refl
take-marked (suc n) [] (z ∷ zs) h = absurd (omega arith)
take-marked (suc n) (m ∷ ns) [] h = absurd (omega arith)
take-marked (suc n) (true ∷ ns) (z ∷ zs) h = ap (λ (os : List (Option ℤ)). None ∷ os) (take-marked n ns zs (omega arith))
take-marked (suc n) (false ∷ ns) (z ∷ zs) h = ap (λ (os : List (Option ℤ)). Some z ∷ os) (take-marked n ns zs (omega arith))

marked-part : (ns : List Bool) (zs : List ℤ) (n from : ℕ) → (0 < length ns → length ns ≡ length zs) → marked (take n (drop from ns)) (take n (drop from zs)) ≡ take n (drop from (marked ns zs))
marked-part [] zs n from h = (λ i. marked (part-none ([]) n from (omega arith) i) (take n (drop from zs))) ∙ sym (take-plain n (drop from zs)) ∙ ap (take n) (sym (drop-plain from zs))
marked-part (m ∷ ns) zs n from h =
    let long = h (omega arith) in
    let left : length (drop from (m ∷ ns)) ≡ length (drop from zs) = length-drop from (m ∷ ns) ∙ ap (λ (k : ℕ). k - from) long ∙ sym (length-drop from zs) in
    sym (take-marked n (drop from (m ∷ ns)) (drop from zs) left) ∙ ap (take n) (sym (drop-marked from (m ∷ ns) zs long))

-- a part of the numbers with that of their marks
pub numbers_lent : (t : Ty) (ns ms : List Bool) (zs ys : List ℤ) (cells : List Value) (n from : ℕ) → AreNumbers t ns zs → ms ≡ take n (drop from ns) → ys ≡ take n (drop from zs)
    → map (number_cell t) (marked ns zs) ≡ cells → map (number_cell t) (marked ms ys) ≡ take n (drop from cells)
numbers_lent t ns ms zs ys cells n from are marks numbers view =
    (λ i. map (number_cell t) (marked (marks i) (numbers i))) ∙ ap (map (number_cell t)) (marked-part ns zs n from are.marks) ∙ part-map (number_cell t) n from (marked ns zs)
    ∙ ap (λ (cs : List Value). take n (drop from cs)) view

word_same : (words : List Value) (code : ℕ) → cell_of words code ≡ word_at words code
word_same words code = unwrap_or-slice_get words code (Null ty.Long)

pub words_same : (words : List Value) (codes : List ℕ) → map (cell_of words) codes ≡ map (word_at words) codes
words_same words [] = refl
words_same words (c ∷ codes) = λ i. word_same words c i ∷ words_same words codes i

-- words with their codes
pub words_lent : (words given : List Value) (codes some : List ℕ) (cells : List Value) (n from : ℕ) → given ≡ words → some ≡ take n (drop from codes) → map (word_at words) codes ≡ cells
    → map (cell_of given) some ≡ take n (drop from cells)
words_lent words given codes some cells n from are lent view =
    (λ i. map (cell_of (are i)) (lent i)) ∙ words_same words (take n (drop from codes)) ∙ part-map (word_at words) n from codes ∙ ap (λ (cs : List Value). take n (drop from cs)) view
