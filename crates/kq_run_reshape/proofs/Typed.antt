-- The rows that come of typed rows are typed.
use Rattle.std.proofs.Common.{◌≡◌, ◌<◌, inl, inr, ℕ, zero, suc, ℤ, List, [], ◌∷◌, Option, Some, None, refl, length, get_or, map, sym, ap, ◌∙◌, subst, arith, zero-add}
use Rattle.std.specs.List.{All, range_with_len}
use Rattle.std.proofs.lemmas.Int.{ints}
use Rattle.std.proofs.lemmas.List.{get_or-map, get_or_default, length-map}
use Rattle.std.proofs.lemmas.List.Elements.{All-append, All-map, All-nil}
use Rattle.std.proofs.lemmas.List.FromFn.{get_or-range_with_len, length-range_with_len}
use Rattle.kq_plan.specs.Fits.{AreFilled, HaveTypes, IsFilled, type_at}
use Rattle.kq_value.specs.declared.schema.Field.{Field}
use Rattle.kq_value.specs.declared.ty.Ty.{Ty}
use Rattle.kq_value.specs.declared.ty.Ty.TheVariants as ty
use Rattle.kq_value.specs.declared.value.Value.{Value}
use Rattle.kq_value.specs.declared.value.Value.TheVariants.{Long, Moment, Span}
use Rattle.kq_value.specs.Same.{times}
use Rattle.kq_value.specs.Typed.{HasType, HasTypes, IsMoment, missing_of}
use Rattle.kq_value.proofs.SameLemmas.{place_of}
use Rattle.kq_run_reshape.specs.Cells.{cell_at}
use Rattle.kq_run_reshape.specs.Distinct.{Apart, chosen}
use Rattle.kq_run_reshape.specs.Range.{how_many, number_at, number_as, numbers_as, range_of, row_at_place}
use Rattle.kq_run_reshape.specs.Union.{Filled, filled, filled_from, filling, united}
use Rattle.kq_run_reshape.proofs.Filed.{stands_at}
use Rattle.kq_run_reshape.proofs.Ranging.{LiesBetween, lies_between}

-- a cell has the type of its column
pub cell_typed : (from : List Field) (row : List Value) (i : ℕ) (t : Ty) → HasTypes from row → type_at from i ≡ Some t → HasType t (cell_at row i)
cell_typed [] row i t h e = absurd (cc)
cell_typed (f ∷ from) [] i t h e = absurd h
cell_typed (f ∷ from) (v ∷ row) zero t h e = let same : f.ty ≡ t = cc in subst (λ (u : Ty). HasType u v) same h.0
cell_typed (f ∷ from) (v ∷ row) (suc i) t h e = cell_typed from row i t h.1 e

pub chosen_typed : (from : List Field) (row : List Value) (columns : List ℕ) (cs : List Field) → HasTypes from row → HaveTypes from columns cs → HasTypes cs (chosen columns row)
chosen_typed from row [] [] h fit = tt
chosen_typed from row [] (c ∷ cs) h fit = absurd fit
chosen_typed from row (i ∷ columns) [] h fit = absurd fit
chosen_typed from row (i ∷ columns) (c ∷ cs) h fit = (cell_typed from row i c.ty h fit.0, chosen_typed from row columns cs h fit.1)

-- ---- distinct

is_chosen : (columns : List ℕ) (rows out : List (List Value)) (r : List Value) → Apart columns rows out → 0 < times r out → (i : ℕ) × ((i < length rows) × (r ≡ chosen columns (get_or rows i [])))
is_chosen columns rows out r a h =
    let p = place_of r (map (chosen columns) rows) (omega (arith, a.each r)) in
    let within : p.0 < length rows = omega (arith, p.1.0, length-map rows (chosen columns)) in
    (p.0, (within, p.1.1 ∙ get_or-map (chosen columns) rows p.0 [] r within))

pub distinct_typed : (from cs : List Field) (columns : List ℕ) (rows out : List (List Value)) → HaveTypes from columns cs → All (HasTypes from) rows → Apart columns rows out → All (HasTypes cs) out
distinct_typed from cs columns rows out fit typed a k d within =
    let r = get_or out k d in
    let p = is_chosen columns rows out r a (stands_at out r k within (get_or_default out k [] d within)) in
    subst (HasTypes cs) (sym p.1.1) (chosen_typed from (get_or rows p.0 []) columns cs (typed p.0 [] p.1.0) fit)

-- ---- range

-- the ticks of a datetime are within its range where they lie between two datetimes
moment_between : (a z b : ℤ) → LiesBetween a z b → IsMoment a → IsMoment b → IsMoment z
moment_between a z b (inl h) m n = (omega (arith, ints), omega (arith, ints))
moment_between a z b (inr h) m n = (omega (arith, ints), omega (arith, ints))

numbers_typed : (f : Field) (t : Ty) (a b s : ℤ) → ((z : ℤ) → LiesBetween a z b → HasType f.ty (number_as t z)) → All (HasTypes (f ∷ [])) (numbers_as t a b s)
numbers_typed f t a b s each = All-map (HasTypes (f ∷ [])) (row_at_place t a s) (range_with_len 0 (how_many a b s))
    (λ k d h.
    let within : k < how_many a b s = omega (arith, length-range_with_len 0 (how_many a b s)) in
    let at : get_or (range_with_len 0 (how_many a b s)) k d ≡ k = get_or-range_with_len 0 (how_many a b s) k d within ∙ zero-add k in
    subst (λ (i : ℕ). HasTypes (f ∷ []) (row_at_place t a s i)) (sym at) (each (number_at a s k) (lies_between a b s k within), tt))

pub range_typed : (f : Field) (from to step : Value) → HasType f.ty from → HasType f.ty to → All (HasTypes (f ∷ [])) (range_of from to step)
range_typed f (Long a) (Long b) (Long s) p q = numbers_typed f ty.Long a b s (λ z h. (p.0, tt))
range_typed f (Moment a) (Moment b) (Span s) p q = numbers_typed f ty.Moment a b s (λ z h. (p.0, moment_between a z b h p.1 q.1))
range_typed f (Span a) (Span b) (Span s) p q = numbers_typed f ty.Span a b s (λ z h. (p.0, tt))
range_typed f from to step p q = All-nil (HasTypes (f ∷ []))

-- ---- union

missing_typed : (t : Ty) → HasType t (missing_of t)
missing_typed ty.Long = (refl, ((λ e. cc), (λ e. cc)))
missing_typed ty.Int = (refl, ((λ e. cc), (λ e. cc)))
missing_typed ty.Text = (refl, tt)
missing_typed ty.Bool = (refl, ((λ e. cc), (λ e. cc)))
missing_typed ty.Moment = (refl, ((λ e. cc), (λ e. cc)))
missing_typed ty.Span = (refl, ((λ e. cc), (λ e. cc)))
missing_typed ty.Dynamic = (refl, tt)

filling_typed : (from : List Field) (row : List Value) (o : Option ℕ) (f : Field) → HasTypes from row → IsFilled from o f → HasType f.ty (filling o f.ty row)
filling_typed from row None f h fit = missing_typed f.ty
filling_typed from row (Some i) f h fit = cell_typed from row i f.ty h fit

-- the cells from a place on, where the first is left out
filled_shift : (o : Option ℕ) (cells : List (Option ℕ)) (i : ℕ) (cs : List Field) (row : List Value) → filled_from (suc i) cs (o ∷ cells) row ≡ filled_from i cs cells row
filled_shift o cells i [] row = refl
filled_shift o cells i (c ∷ cs) row = ap (λ (vs : List Value). filling (get_or cells i None) c.ty row ∷ vs) (filled_shift o cells (suc i) cs row)

filled_typed : (from cs : List Field) (cells : List (Option ℕ)) (row : List Value) → HasTypes from row → AreFilled from cells cs → HasTypes cs (filled cs cells row)
filled_typed from [] [] row h fit = tt
filled_typed from (c ∷ cs) [] row h fit = absurd fit
filled_typed from [] (o ∷ cells) row h fit = absurd fit
filled_typed from (c ∷ cs) (o ∷ cells) row h fit =
    (filling_typed from row o c h fit.0, subst (HasTypes cs) (sym (filled_shift o cells 0 cs row)) (filled_typed from cs cells row h fit.1))

-- typed rows, whose columns fill those of the union
abbrev pub ArmFits : List Field → Filled → Type 0
ArmFits cs a = (from : List Field) × All (HasTypes from) a.0 × AreFilled from a.1 cs

arm_typed : (cs : List Field) (a : Filled) → ArmFits cs a → All (HasTypes cs) (map (filled cs a.1) a.0)
arm_typed cs a fit = All-map (HasTypes cs) (filled cs a.1) a.0 (λ k d within. filled_typed fit.0 cs a.1 (get_or a.0 k d) (fit.1 k d within) fit.2)

pub union_typed : (cs : List Field) (arms : List Filled) → All (ArmFits cs) arms → All (HasTypes cs) (united cs arms)
union_typed cs [] fit = All-nil (HasTypes cs)
union_typed cs (a ∷ arms) fit = All-append (HasTypes cs) (map (filled cs a.1) a.0) (united cs arms) (arm_typed cs a (fit 0 a (omega arith))) (union_typed cs arms (λ k d within. fit (suc k) d (omega arith)))
