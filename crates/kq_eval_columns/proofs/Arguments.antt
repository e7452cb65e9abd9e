-- The rows that columns of arguments make.
use Rattle.std.proofs.Common.{◌≡◌, ◌<◌, ◌≤◌, ℕ, zero, suc, min, List, [], ◌∷◌, ◌++◌, length, get_or, drop, Result, Ok, Err, refl, sym, ap, subst, ◌∙◌, arith}
use Rattle.kq_value.specs.declared.value.Value.{Value}
use Rattle.kq_value.specs.Computed.{AnswersAs, Computed, Is, and_then, each}
use Rattle.kq_value.specs.declared.fault.EvalFault.{EvalFault}
use Rattle.kq_value.specs.declared.fault.EvalFault.TheVariants as fault
use Rattle.kq_eval_kernels.specs.Pairs.{each_two}
use Rattle.kq_eval_row.specs.Val.{cell_of}
use Rattle.kq_store_column_view.specs.declared.vector.Vector.{Vector}
use Rattle.kq_store_column_view.specs.Vectors.{cells_of}
use Rattle.kq_eval_columns.specs.Vectors.{row_at}
use Rattle.kq_eval_columns.specs.Seen.{beside, fronted, rows_of, shortest}
use Rattle.kq_eval_columns.proofs.Loops.{drop_at, drop_all}

length-beside : (xs : List Value) (rs : List (List Value)) → length (beside xs rs) ≡ min (length xs) (length rs)
length-beside [] rs = omega arith
length-beside (x ∷ xs) [] = omega arith
length-beside (x ∷ xs) (r ∷ rs) = omega (arith, length-beside xs rs)

get-beside : (xs : List Value) (rs : List (List Value)) (i : ℕ) (d : List Value) → i < length (beside xs rs) → get_or (beside xs rs) i d ≡ cell_of xs i ∷ get_or rs i d
get-beside [] rs i d h = absurd (omega arith)
get-beside (x ∷ xs) [] i d h = absurd (omega arith)
get-beside (x ∷ xs) (r ∷ rs) zero d h = refl
get-beside (x ∷ xs) (r ∷ rs) (suc i) d h = get-beside xs rs i d (omega arith)

get-bare : (n i : ℕ) (d : List Value) → i < length (rows_of [] n) → get_or (rows_of [] n) i d ≡ []
get-bare zero i d h = absurd (omega arith)
get-bare (suc n) zero d h = refl
get-bare (suc n) (suc i) d h = get-bare n i d (omega arith)

get-rows : (vs : List Vector) (n i : ℕ) (d : List Value) → i < length (rows_of vs n) → get_or (rows_of vs n) i d ≡ row_at vs i
get-rows [] n i d h = get-bare n i d h
get-rows (v ∷ vs) n i d h =
    let k : i < length (rows_of vs n) = omega (arith, length-beside (cells_of v) (rows_of vs n)) in
    get-beside (cells_of v) (rows_of vs n) i d h ∙ ap (λ (r : List Value). cell_of (cells_of v) i ∷ r) (get-rows vs n i d k)

shortest-min : (vs : List Vector) (n a : ℕ) → shortest vs (min n a) ≡ min a (shortest vs n)
shortest-min [] n a = omega arith
shortest-min (v ∷ vs) n a =
    let b = length (cells_of v) in
    let e : min (min n a) b ≡ min (min n b) a = omega arith in
    ap (shortest vs) e ∙ shortest-min vs (min n b) a

length-bare : (n : ℕ) → length (rows_of [] n) ≡ n
length-bare zero = refl
length-bare (suc n) = omega (arith, length-bare n)

pub length-rows : (vs : List Vector) (n : ℕ) → length (rows_of vs n) ≡ shortest vs n
length-rows [] n = length-bare n
length-rows (v ∷ vs) n = length-beside (cells_of v) (rows_of vs n) ∙ ap (min (length (cells_of v))) (length-rows vs n) ∙ sym (shortest-min vs n (length (cells_of v)))

each_next : {B : Type 0} (f : List Value → Computed B) (rows : List (List Value)) (x : List Value) (rest : List (List Value)) → rows ≡ x ∷ rest → each f rows ≡ and_then (f x) (λ z. and_then (each f rest) (λ zs. Is (z ∷ zs)))
each_next f rows x rest e = ap (each f) e

-- the next row of arguments
pub next_row : {B : Type 0} (f : List Value → Computed B) (vs : List Vector) (n i : ℕ) → i < shortest vs n
    → each f (drop i (rows_of vs n)) ≡ and_then (f (row_at vs i)) (λ z. and_then (each f (drop (suc i) (rows_of vs n))) (λ zs. Is (z ∷ zs)))
next_row f vs n i h =
    let k : i < length (rows_of vs n) = omega (arith, length-rows vs n) in
    each_next f (drop i (rows_of vs n)) (row_at vs i) (drop (suc i) (rows_of vs n)) (drop_at (rows_of vs n) i [] k ∙ ap (λ (r : List Value). r ∷ drop (suc i) (rows_of vs n)) (get-rows vs n i [] k))

pub no_row : {B : Type 0} (f : List Value → Computed B) (vs : List Vector) (n i : ℕ) → shortest vs n ≤ i → each f (drop i (rows_of vs n)) ≡ Is []
no_row f vs n i h = ap (each f) (drop_all (rows_of vs n) i (omega (arith, length-rows vs n)))

-- side by side is a cell in front of each row
pub two-beside : (xs : List Value) (rs : List (List Value)) → each_two (λ x r. Is (x ∷ r)) xs rs ≡ Is (beside xs rs)
two-beside [] rs = refl
two-beside (x ∷ xs) [] = refl
two-beside (x ∷ xs) (r ∷ rs) = rw (two-beside xs rs) refl

-- one column more behind others is one in front of what stands behind them
pub fronted-push : (vs : List Vector) (v : Vector) (rs : List (List Value)) → fronted (vs ++ v ∷ []) rs ≡ fronted vs (beside (cells_of v) rs)
fronted-push [] v rs = refl
fronted-push (w ∷ vs) v rs = ap (beside (cells_of w)) (fronted-push vs v rs)

-- what is answered of two columns, is answered of the values of both
pub answers_both : (f : List Value → Computed Value) (v w : Vector) (rows : List (List Value)) (seconds r : Result Vector EvalFault) → seconds ≡ Ok w
    → AnswersAs cells_of (each f (beside (cells_of v) (beside (cells_of w) rows))) r → (c : Computed (List Value)) → AnswersAs cells_of c seconds
    → AnswersAs cells_of (and_then c (λ ys. each f (beside (cells_of v) (beside ys rows)))) r
answers_both f v w rows (Err e) r is answers c told = absurd (cc)
answers_both f v w rows (Ok x) r is answers c told =
    let same : x ≡ w = cc in
    subst (λ o. AnswersAs cells_of o r)
    (ap (λ (u : Vector). each f (beside (cells_of v) (beside (cells_of u) rows))) (sym same) ∙ ap (λ d. and_then d (λ ys. each f (beside (cells_of v) (beside ys rows)))) (sym told)) answers

-- without values of the second there are none
pub answers_no_second : (k : List Value → Computed (List Value)) (e : EvalFault) (seconds : Result Vector EvalFault) → seconds ≡ Err e → (c : Computed (List Value)) → AnswersAs cells_of c seconds
    → AnswersAs cells_of (and_then c k) (Err e)
answers_no_second k e (Ok x) is c told = absurd (cc)
answers_no_second k e (Err d) is c told =
    let same : d ≡ e = cc in
    subst (λ z. AnswersAs cells_of (and_then c k) (Err z)) same (stops d told)
  where
    stops : (z : EvalFault) → AnswersAs cells_of c (Err z) → AnswersAs cells_of (and_then c k) (Err z)
    stops fault.Overflow o = ap (λ d. and_then d k) o
    stops fault.Memory o = tt
