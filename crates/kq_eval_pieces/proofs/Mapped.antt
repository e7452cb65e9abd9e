-- Rows made source by source are those made row by row.
use Rattle.std.proofs.Common.{◌≡◌, ◌<◌, ◌≤◌, ◌+◌, ◌-◌, ℕ, zero, suc, Bool, false, cond, List, [], ◌∷◌, ◌++◌, map, length, get_or, set, take, drop, Ok, Err, refl, sym, ap, ◌∙◌, subst, arith}
use Rattle.std.proofs.lemmas.List.{map-append, length-map, drop-drop, drop-set-lt, take_all}
use Rattle.std.specs.List.{concat, range_with_len}
use Rattle.std.specs.Prelude.{Result}
use Rattle.kq_value.specs.declared.value.Value.{Value}
use Rattle.kq_value.specs.Computed.{Computed, Is, Overflow, and_then, each, AnswersAs}
use Rattle.kq_value.specs.declared.fault.EvalFault.{EvalFault}
use Rattle.kq_value.specs.declared.fault.EvalFault.TheVariants as faults
use Rattle.kq_store_column_view.specs.declared.vector.Vector.{Vector}
use Rattle.kq_eval_columns.specs.Vectors.{rows_at}
use Rattle.kq_store_column_view.specs.Vectors.{cells_of}
use Rattle.kq_plan_expressions.specs.declared.expr.Expr.{Expr}
use Rattle.kq_plan_expressions.specs.Terms.{Term, column, term_of}
use Rattle.kq_store_rows.specs.Chunks.{row_at as row_of}
use Rattle.kq_eval_columns.specs.kq_eval_row.Val.{Meaning, Surroundings, meaning, val, values, cell_of}
use Rattle.kq_eval_pieces.specs.declared.sources.Source.{Source}
use Rattle.kq_eval_pieces.specs.declared.sources.Source.TheVariants.{Column, Made}
use Rattle.kq_eval_pieces.specs.Operators.{values_at}
use Rattle.kq_eval_pieces.specs.Pieces.{Hold, column_of, columns_copied, columns_read, is_column, piece_of}
use Rattle.kq_eval_pieces.specs.Sources.{GiveBehind, Sourced, cell_from, cells_from, row_from, rows_from}
use Rattle.kq_eval_pieces.proofs.Laws.{each_long}
use Rattle.kq_eval_pieces.proofs.Reading.{first_all, other_all}
use Rattle.kq_eval_pieces.proofs.Standing.{stands_for}

-- the columns that are copied for one of the expressions
hold_copied : (columns : List Vector) (rows : List (List Value)) (es : List Expr) (i : ℕ) (e : Expr) → i < length es → e ≡ get_or es i e → Hold columns rows (concat (map columns_copied es)) → Hold columns rows (columns_copied e)
hold_copied columns rows [] i e l is h = absurd (omega arith)
hold_copied columns rows (x ∷ es) zero e l is h =
    subst (λ (z : Expr). Hold columns rows (columns_copied z)) (sym is) (first_all (λ j. get_or (map cells_of columns) j [] ≡ column_of j rows) (columns_copied x) (concat (map columns_copied es)) h)
hold_copied columns rows (x ∷ es) (suc i) e l is h =
    hold_copied columns rows es i e (omega arith) is (other_all (λ j. get_or (map cells_of columns) j [] ≡ column_of j rows) (columns_copied x) (concat (map columns_copied es)) h)

module _ (s : Surroundings) where
  snoc_step : (o : Computed Value) (os : Computed (List Value)) (p : Computed Value)
      → and_then o (λ v. and_then (and_then os (λ vs. and_then p (λ w. Is (vs ++ w ∷ [])))) (λ vs. Is (v ∷ vs))) ≡ and_then (and_then o (λ v. and_then os (λ vs. Is (v ∷ vs)))) (λ vs. and_then p (λ w. Is (vs ++ w ∷ [])))
  snoc_step Overflow os p = refl
  snoc_step (Is v) Overflow p = refl
  snoc_step (Is v) (Is vs) Overflow = refl
  snoc_step (Is v) (Is vs) (Is w) = refl

  end_step : (p : Computed Value) → and_then p (λ v. Is (v ∷ [])) ≡ and_then p (λ w. Is ([] ++ w ∷ []))
  end_step Overflow = refl
  end_step (Is w) = refl

  -- one value more at the end
  values_snoc : (ms : List Meaning) (m : Meaning) (r : List Value) → values (ms ++ m ∷ []) s r ≡ and_then (values ms s r) (λ vs. and_then (m s r) (λ w. Is (vs ++ w ∷ [])))
  values_snoc [] m r = end_step (m s r)
  values_snoc (x ∷ ms) m r = ap (λ os. and_then (x s r) (λ v. and_then os (λ vs. Is (v ∷ vs)))) (values_snoc ms m r) ∙ snoc_step (x s r) (values ms s r) (m s r)

  first_is : {A : Type 0} (o : Computed A) (os : Computed (List A)) (y : A) (ys : List A) → and_then o (λ y. and_then os (λ ys. Is (y ∷ ys))) ≡ Is (y ∷ ys) → o ≡ Is y
  first_is Overflow os y ys h = absurd cc
  first_is (Is z) Overflow y ys h = absurd cc
  first_is (Is z) (Is zs) y ys h = cc

  later : {A : Type 0} (o : Computed A) (os : Computed (List A)) (y : A) (ys : List A) → and_then o (λ y. and_then os (λ ys. Is (y ∷ ys))) ≡ Is (y ∷ ys) → os ≡ Is ys
  later Overflow os y ys h = absurd cc
  later (Is z) Overflow y ys h = absurd cc
  later (Is z) (Is zs) y ys h = cc

  -- one source more
  each_snoc : (ms : List Meaning) (m : Meaning) (xs : List Source) (x : Source) (rows : List (List Value)) (i : ℕ)
      → each (values ms s) rows ≡ Is (rows_from xs i rows) → each (m s) rows ≡ Is (cells_from x i rows)
      → each (values (ms ++ m ∷ []) s) rows ≡ Is (rows_from (xs ++ x ∷ []) i rows)
  each_snoc ms m xs x [] i h g = refl
  each_snoc ms m xs x (r ∷ rows) i h g =
      let first = first_is (values ms s r) (each (values ms s) rows) (row_from xs i r) (rows_from xs (i + 1) rows) h in
      let here = first_is (m s r) (each (m s) rows) (cell_from x i r) (cells_from x (i + 1) rows) g in
      let below = later (values ms s r) (each (values ms s) rows) (row_from xs i r) (rows_from xs (i + 1) rows) h in
      let beside = later (m s r) (each (m s) rows) (cell_from x i r) (cells_from x (i + 1) rows) g in
      let next = each_snoc ms m xs x rows (i + 1) below beside in
      ap (λ o. and_then o (λ y. and_then (each (values (ms ++ m ∷ []) s) rows) (λ ys. Is (y ∷ ys))))
      (values_snoc ms m r ∙ (λ j. and_then (first j) (λ vs. and_then (here j) (λ w. Is (vs ++ w ∷ [])))))
      ∙ ap (λ os. and_then os (λ ys. Is ((row_from xs i r ++ cell_from x i r ∷ []) ∷ ys))) next
      ∙ ap (λ row. Is (row ∷ rows_from (xs ++ x ∷ []) (i + 1) rows)) (sym (map-append (λ x. cell_from x i r) xs (x ∷ [])))

  stops : {D E : Type 0} (q : Computed D) → and_then {B = E} q (λ z. Overflow) ≡ Overflow
  stops (Is z) = refl
  stops Overflow = refl

  -- one that overflows makes all overflow
  one_overflows : (es : List Expr) (i : ℕ) (e : Expr) (r : List Value) → i < length es → e ≡ get_or es i e → meaning (term_of e) s r ≡ Overflow → values_at (map term_of es) s r ≡ Overflow
  one_overflows [] i e r l is h = absurd (omega arith)
  one_overflows (x ∷ es) zero e r l is h = ap (λ o. and_then o (λ v. and_then (values_at (map term_of es) s r) (λ vs. Is (v ∷ vs)))) (ap (λ (z : Expr). meaning (term_of z) s r) (sym is) ∙ h)
  one_overflows (x ∷ es) (suc i) e r l is h = ap (λ os. and_then (meaning (term_of x) s r) (λ v. and_then os (λ vs. Is (v ∷ vs)))) (one_overflows es i e r (omega arith) is h) ∙ stops (meaning (term_of x) s r)

  pub column_overflows : (es : List Expr) (i : ℕ) (e : Expr) (rows : List (List Value)) → i < length es → e ≡ get_or es i e → each (meaning (term_of e) s) rows ≡ Overflow → each (values_at (map term_of es) s) rows ≡ Overflow
  column_overflows es i e [] l is h = absurd cc
  column_overflows es i e (r ∷ rows) l is h = go (meaning (term_of e) s r) (each (meaning (term_of e) s) rows) refl refl h (column_overflows es i e rows l is)
    where
      all : Computed (List (List Value))
      all = each (values_at (map term_of es) s) rows

      go : (o : Computed Value) (os : Computed (List Value)) → meaning (term_of e) s r ≡ o → each (meaning (term_of e) s) rows ≡ os → and_then o (λ y. and_then os (λ ys. Is (y ∷ ys))) ≡ Overflow
          → (each (meaning (term_of e) s) rows ≡ Overflow → all ≡ Overflow) → each (values_at (map term_of es) s) (r ∷ rows) ≡ Overflow
      go Overflow os p q h later = ap (λ o. and_then o (λ y. and_then (each (values_at (map term_of es) s) rows) (λ ys. Is (y ∷ ys)))) (one_overflows es i e r l is p)
      go (Is v) Overflow p q h later = ap (λ os. and_then (values_at (map term_of es) s r) (λ y. and_then os (λ ys. Is (y ∷ ys)))) (later q) ∙ stops (values_at (map term_of es) s r)
      go (Is v) (Is vs) p q h later = absurd cc

  taken : (es : List Expr) (i : ℕ) (e : Expr) → i < length es → e ≡ get_or es i e → map meaning (map term_of (take (suc i) es)) ≡ map meaning (map term_of (take i es)) ++ meaning (term_of e) ∷ []
  taken [] i e l is = absurd (omega arith)
  taken (x ∷ es) zero e l is = ap (λ (z : Expr). meaning (term_of z) ∷ []) (sym is)
  taken (x ∷ es) (suc i) e l is = ap (λ ms. meaning (term_of x) ∷ ms) (taken es i e (omega arith) is)

  pub source_pushed : (es : List Expr) (i : ℕ) (e : Expr) (xs : List Source) (x : Source) (rows : List (List Value)) → i < length es → e ≡ get_or es i e
      → each (values_at (map term_of (take i es)) s) rows ≡ Is (rows_from xs 0 rows) → each (meaning (term_of e) s) rows ≡ Is (cells_from x 0 rows)
      → each (values_at (map term_of (take (suc i) es)) s) rows ≡ Is (rows_from (xs ++ x ∷ []) 0 rows)
  source_pushed es i e xs x rows l is h g =
      ap (λ ms. each (values ms s) rows) (taken es i e l is) ∙ each_snoc (map meaning (map term_of (take i es))) (meaning (term_of e)) xs x rows 0 h g

  pub no_sources : (rows : List (List Value)) (i : ℕ) → each (values_at [] s) rows ≡ Is (rows_from [] i rows)
  no_sources [] i = refl
  no_sources (r ∷ rows) i = ap (λ os. and_then os (λ ys. Is ([] ∷ ys))) (no_sources rows (i + 1))

  -- a column is what the term of a column gives
  pub column_gives : (j : ℕ) (rows : List (List Value)) (i : ℕ) → each (meaning (column j) s) rows ≡ Is (cells_from (Column j) i rows)
  column_gives j [] i = refl
  column_gives j (r ∷ rows) i = ap (λ os. and_then os (λ vs. Is (cell_of r j ∷ vs))) (column_gives j rows (i + 1))

made_cells : (v : Vector) (rows : List (List Value)) (cs : List Value) (k : ℕ) → length cs ≡ length rows → ((i n : ℕ) → n ≡ k + i → cell_of (cells_of v) n ≡ cell_of cs i) → cells_from (Made v) k rows ≡ cs
made_cells v [] [] k h at = refl
made_cells v [] (c ∷ cs) k h at = absurd (omega arith)
made_cells v (r ∷ rows) [] k h at = absurd (omega arith)
made_cells v (r ∷ rows) (c ∷ cs) k h at = λ t. at 0 k (omega arith) t ∷ made_cells v rows cs (k + 1) (omega arith) (λ i n is. at (suc i) n (omega arith)) t

-- values that were made of all rows
pub made_gives : (f : List Value → Computed Value) (v : Vector) (rows : List (List Value)) → each f rows ≡ Is (cells_of v) → each f rows ≡ Is (cells_from (Made v) 0 rows)
made_gives f v rows h =
    h ∙ ap Is (sym (made_cells v rows (cells_of v) 0 (each_long f rows (cells_of v) h) (λ i n is. let back : n ≡ i = omega arith in ap (cell_of (cells_of v)) back)))

column_cells : (j : ℕ) (rows : List (List Value)) (k : ℕ) → cells_from (Column j) k rows ≡ column_of j rows
column_cells j [] k = refl
column_cells j (r ∷ rows) k = ap (λ (cs : List Value). cell_of r j ∷ cs) (column_cells j rows (k + 1))

-- a column that is lent gives the cells that stand in it
pub lent_gives : (v : Vector) (j : ℕ) (rows : List (List Value)) → cells_of v ≡ column_of j rows → cells_from (Made v) 0 rows ≡ cells_from (Column j) 0 rows
lent_gives v j rows is =
    made_cells v rows (column_of j rows) 0 (length-map rows (λ (r : List Value). cell_of r j)) (λ i n at. let back : n ≡ i = omega arith in λ t. cell_of (is t) (back t)) ∙ sym (column_cells j rows 0)

-- the source of one of the expressions, over columns that were copied for all
pub source_stands : (es : List Expr) (i : ℕ) (e : Expr) (s : Surroundings) (columns given : List Vector) (reads places : List ℕ) (rows : List (List Value)) (n : ℕ) → length rows ≡ n
    → i < length es → e ≡ get_or es i e → Hold columns rows reads → reads ≡ concat (map columns_copied es) → given ≡ columns → places ≡ range_with_len 0 n
    → (r : Result Source EvalFault) → Sourced (term_of e) (each (val e s) (rows_at given places)) r → AnswersAs (λ x. cells_from x 0 rows) (each (meaning (term_of e) s) rows) r
source_stands es i e s columns given reads places rows n long l is held read same at r = go r
  where
    stands : is_column (term_of e) ≡ false → each (val e s) (rows_at given places) ≡ each (meaning (term_of e) s) rows
    stands other =
        let copied = hold_copied columns rows es i e l is (subst (λ (js : List ℕ). Hold columns rows js) read held) in
        let all : columns_copied e ≡ columns_read e = ap (λ (b : Bool). cond b [] (columns_read e)) other in
        (λ j. each (val e s) (rows_at (same j) (at j))) ∙ stands_for e s columns rows n long (subst (λ (js : List ℕ). Hold columns rows js) all copied)

    go : (r : Result Source EvalFault) → Sourced (term_of e) (each (val e s) (rows_at given places)) r → AnswersAs (λ x. cells_from x 0 rows) (each (meaning (term_of e) s) rows) r
    go (Ok (Column j)) h = ap (λ (t : Term). each (meaning t s) rows) h ∙ column_gives s j rows 0
    go (Ok (Made v)) h = made_gives (meaning (term_of e) s) v rows (sym (stands h.0) ∙ h.1)
    go (Err faults.Overflow) h = sym (stands h.0) ∙ h.1
    go (Err faults.Memory) h = tt

rows_more : (xs : List Source) (k : ℕ) (rows : List (List Value)) (from i n m : ℕ) → n ≡ from + i → m ≡ k + i → n < length rows
    → rows_from xs k (take (suc i) (drop from rows)) ≡ rows_from xs k (take i (drop from rows)) ++ row_from xs m (row_of rows n) ∷ []
rows_more xs k [] from i n m is at h = absurd (omega arith)
rows_more xs k (r ∷ rows) zero zero zero m is at h = let same : k ≡ m = omega arith in ap (λ (q : ℕ). row_from xs q r ∷ []) same
rows_more xs k (r ∷ rows) zero zero (suc n) m is at h = absurd (omega arith)
rows_more xs k (r ∷ rows) zero (suc i) zero m is at h = absurd (omega arith)
rows_more xs k (r ∷ rows) zero (suc i) (suc n) m is at h = ap (λ rs. row_from xs k r ∷ rs) (rows_more xs (k + 1) rows zero i n m (omega arith) (omega arith) (omega arith))
rows_more xs k (r ∷ rows) (suc from) i zero m is at h = absurd (omega arith)
rows_more xs k (r ∷ rows) (suc from) i (suc n) m is at h = rows_more xs k rows from i n m (omega arith) at (omega arith)

-- one row more of a piece
pub rows_next : (xs : List Source) (rows : List (List Value)) (from i : ℕ) → from ≤ i → i < length rows
    → rows_from xs 0 (piece_of rows from (suc i)) ≡ rows_from xs 0 (piece_of rows from i) ++ row_from xs (i - from) (row_of rows i) ∷ []
rows_next xs rows from i low h =
    let one : suc i - from ≡ suc (i - from) = omega arith in
    ap (λ (k : ℕ). rows_from xs 0 (take k (drop from rows))) one ∙ rows_more xs 0 rows from (i - from) i (i - from) (omega arith) (omega arith) h

-- ---- sources that gave a row up to one of them

pub cell_put : (old now : List Source) (n i : ℕ) (x : Source) (r : List Value) → length now ≡ length old → drop n now ≡ drop n old → n < length now → x ≡ get_or now n x
    → row_from (take (suc n) old) i r ≡ row_from (take n old) i r ++ cell_from x i r ∷ []
cell_put old [] n i x r long same l is = absurd (omega arith)
cell_put [] (y ∷ now) n i x r long same l is = absurd (omega arith)
cell_put (o ∷ old) (y ∷ now) zero i x r long same l is = let e : o ≡ x = cc in ap (λ (z : Source). cell_from z i r ∷ []) e
cell_put (o ∷ old) (y ∷ now) (suc n) i x r long same l is = ap (λ cs. cell_from o i r ∷ cs) (cell_put old now n i x r (omega arith) same (omega arith) is)

pub still_there : (old now : List Source) (n : ℕ) (y : Source) → drop n now ≡ drop n old → drop (suc n) (set now n y) ≡ drop (suc n) old
still_there old now n y same =
    let one : suc n ≡ n + 1 = omega arith in
    drop-set-lt (suc n) now n y (omega arith) ∙ ap (λ (k : ℕ). drop k now) one ∙ sym (drop-drop 1 n now) ∙ ap (drop 1) same ∙ drop-drop 1 n old ∙ ap (λ (k : ℕ). drop k old) (sym one)

same_row : (now : List Source) (n : ℕ) (x y : Source) (k : ℕ) (r : List Value) → n < length now → x ≡ get_or now n x → cell_from y k r ≡ cell_from x k r → row_from (set now n y) k r ≡ row_from now k r
same_row [] n x y k r l is h = absurd (omega arith)
same_row (z ∷ now) zero x y k r l is h = ap (λ c. c ∷ row_from now k r) (h ∙ ap (λ (w : Source). cell_from w k r) is)
same_row (z ∷ now) (suc n) x y k r l is h = ap (λ cs. cell_from z k r ∷ cs) (same_row now n x y k r (omega arith) is h)

pub give_same : (old now : List Source) (n i : ℕ) (x y : Source) → n < length now → x ≡ get_or now n x → GiveBehind i old now
    → ((k : ℕ) (r : List Value) → i < k → cell_from y k r ≡ cell_from x k r) → GiveBehind i old (set now n y)
give_same old now n i x y l is before h = λ k r behind. same_row now n x y k r l is (h k r behind) ∙ before k r behind

pub source_fault : {V W : Type 0} (see : V → List (List Value)) (saw : W → List Value) (s : Surroundings) (es : List Expr) (i : ℕ) (e : Expr) (rows : List (List Value)) (fault : EvalFault)
    → i < length es → e ≡ get_or es i e → AnswersAs saw (each (meaning (term_of e) s) rows) (Err fault) → AnswersAs see (each (values_at (map term_of es) s) rows) (Err fault)
source_fault see saw s es i e rows faults.Memory l is h = tt
source_fault see saw s es i e rows faults.Overflow l is h = column_overflows s es i e rows l is h

-- the cells of a column are what the term of a column gives
pub column_whole : (s : Surroundings) (j : ℕ) (rows : List (List Value)) (n : ℕ) → n ≡ length rows → each (meaning (column j) s) rows ≡ Is (column_of j (piece_of rows 0 n))
column_whole s j rows n is = gives rows ∙ ap (λ rs. Is (column_of j rs)) (sym (take_all (n - 0) rows (omega arith)))
  where
    gives : (rows : List (List Value)) → each (meaning (column j) s) rows ≡ Is (column_of j rows)
    gives [] = refl
    gives (r ∷ rows) = ap (λ os. and_then os (λ vs. Is (cell_of r j ∷ vs))) (gives rows)
