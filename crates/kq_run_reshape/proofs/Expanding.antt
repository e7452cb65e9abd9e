-- An expansion of one row more.
use Rattle.std.proofs.Common.{◌≡◌, ◌<◌, ◌+◌, ℕ, zero, suc, Option, List, [], ◌∷◌, ◌++◌, length, get_or, drop, map, refl, sym, ap, ◌∙◌, subst, arith, append_assoc, add-one}
use Rattle.std.specs.List.{All}
use Rattle.std.proofs.Math.Seq.{drop-cons}
use Rattle.kq_store_rows.specs.Chunks.{HasWidth, row_at, same_width}
use Rattle.kq_value.specs.declared.ty.Ty.{Ty}
use Rattle.kq_value.specs.declared.value.Value.{Value}
use Rattle.kq_run_reshape.specs.MvExpand.{expanded, part_as, parts_of, with_cell, with_parts, width_with}

same_length : (rows : List (List Value)) (i : ℕ) → same_width rows → i < length rows → length (row_at rows 0) ≡ length (row_at rows i)
same_length [] i even within = absurd (omega arith)
same_length (r ∷ rows) zero even within = refl
same_length (r ∷ rows) (suc i) even within = sym (even i [] (omega arith))

-- the width of what comes is that of the first row with a part
pub wide_again : (rows out : List (List Value)) (i at : ℕ) (row : List Value) → same_width rows → i < length rows → row ≡ row_at rows i
    → All (HasWidth (width_with (length row) at)) out → All (HasWidth (width_with (length (row_at rows 0)) at)) out
wide_again rows out i at row even within is wide =
    subst (λ (n : ℕ). All (HasWidth (width_with n at)) out) (ap length is ∙ sym (same_length rows i even within)) wide

pub expanded-more : (at : ℕ) (t : Option Ty) (rows : List (List Value)) (values : List Value) (i : ℕ) (v : Value) (row : List Value) (ps : List Value) (out more : List (List Value))
    → i < length rows → length values ≡ length rows → v ≡ get_or values i v → row ≡ row_at rows i → ps ≡ parts_of v
    → expanded at t rows values ≡ out ++ expanded at t (drop i rows) (drop i values) → more ≡ out ++ map (λ (p : Value). with_cell row at (part_as t p)) ps
    → expanded at t rows values ≡ more ++ expanded at t (drop (i + 1) rows) (drop (i + 1) values)
expanded-more at t rows values i v row ps out more within beside item is parts so_far made =
    let first : drop i rows ≡ row_at rows i ∷ drop (suc i) rows = drop-cons rows i [] within in
    let second : drop i values ≡ v ∷ drop (suc i) values = drop-cons values i v (omega arith) ∙ (λ j. sym item j ∷ drop (suc i) values) in
    let pushed : more ≡ out ++ with_parts at t (row_at rows i) v = made ∙ (λ j. out ++ map (λ (p : Value). with_cell (is j) at (part_as t p)) (parts j)) in
    subst (λ (n : ℕ). expanded at t rows values ≡ more ++ expanded at t (drop n rows) (drop n values)) (sym (add-one i))
    (so_far ∙ (λ j. out ++ expanded at t (first j) (second j))
    ∙ sym (append_assoc out (with_parts at t (row_at rows i) v) (expanded at t (drop (suc i) rows) (drop (suc i) values)))
    ∙ (λ j. sym pushed j ++ expanded at t (drop (suc i) rows) (drop (suc i) values)))
