-- Changes that are put in one after another.
use Rattle.std.proofs.Common.{◌≡◌, ◌<◌, refl, subst, ℕ, zero, suc, List, [], ◌∷◌, ◌++◌, length, take, get_or, slice_get, slice_set, Some, ap, sym, arith}
use Rattle.std.proofs.lemmas.Option.{slice_get_within}
use Rattle.kq_catalog_journal.specs.declared.table.Table.{Table}
use Rattle.kq_catalog_journal.specs.Edits.{changed, FitsTables, FitAll}
use Rattle.kq_catalog.specs.declared.edit.Change.{Change}
use Rattle.kq_catalog.specs.Edits.{edit_of, edits_by, put_in, put_all}
use Rattle.kq_catalog.specs.Held.{HeldTable, tables_in}
use Rattle.kq_catalog.proofs.Keeping.{tables_in-put}

pub put_all-push : (hs : List HeldTable) (cs : List Change) (c : Change) → put_all hs (cs ++ c ∷ []) ≡ put_in (put_all hs cs) c
put_all-push hs [] c = refl
put_all-push hs (x ∷ cs) c = put_all-push (put_in hs x) cs c

-- each change fits what those before it leave
pub FitAll-at : (hs : List HeldTable) (cs : List Change) (n : ℕ) (c : Change) → n < length cs → c ≡ get_or cs n c → FitAll (tables_in hs) (edits_by cs) → FitsTables (tables_in (put_all hs (take n cs))) (edit_of c)
FitAll-at hs [] n c within is fits = absurd (omega (arith, within))
FitAll-at hs (x ∷ cs) zero c within is fits = subst (λ (y : Change). FitsTables (tables_in hs) (edit_of y)) (sym is) fits.0
FitAll-at hs (x ∷ cs) (suc n) c within is fits =
    FitAll-at (put_in hs x) cs n c (omega (arith, within)) is (subst (λ (ts : List Table). FitAll ts (edits_by cs)) (sym (tables_in-put x hs)) fits.1)

-- another item in the place of one is that one changed
pub set-changed : {X : Type 0} (f : X → X) (n : ℕ) (xs : List X) (x : X) → slice_get xs n ≡ Some x → slice_set xs n (f x) ≡ changed f n xs
set-changed f n [] x at = let within = slice_get_within [] n x at in absurd (omega (arith, within))
set-changed f zero (y ∷ xs) x at = let same : y ≡ x = cc in ap (λ z. f z ∷ xs) (sym same)
set-changed f (suc n) (y ∷ xs) x at = ap (λ zs. y ∷ zs) (set-changed f n xs x at)

-- an item in the place of whatever stands there
pub set-any : {X : Type 0} (n : ℕ) (xs : List X) (x : X) → n < length xs → slice_set xs n x ≡ changed (λ (old : X). x) n xs
set-any n [] x within = absurd (omega (arith, within))
set-any zero (y ∷ xs) x within = refl
set-any (suc n) (y ∷ xs) x within = ap (λ zs. y ∷ zs) (set-any n xs x (omega (arith, within)))
