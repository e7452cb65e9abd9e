-- A datatable has its cells, row by row.
use Rattle.std.proofs.Common.{◌≡◌, ℕ, zero, suc, ◌+◌, ◌*◌, List, [], ◌∷◌, ◌++◌, length, length-append, All, Some, Ok, refl, sym, ap, ◌∙◌, subst, arith, append_assoc, append-nil}
use Rattle.std.specs.Prelude.{slice_get}
use Rattle.std.proofs.Math.Nat.{suc-mul, zero-mul}
use Rattle.std.proofs.lemmas.List.Elements.{All-nil, All-cons}
use Rattle.kq_bind_clauses.specs.Tables.{cell_made, none_left, rows_made, Tabled, table_columns, tabled}
use Rattle.kq_bind_expressions.specs.Verdicts.{and_then}
use Rattle.kq_read_grammar.specs.declared.clause.Cell.{Cell}
use Rattle.kq_read_grammar.specs.declared.clause.Column.{Column}
use Rattle.kq_value.specs.declared.schema.Field.{Field}
use Rattle.kq_value.specs.declared.value.Value.{Value}
use Rattle.kq_bind_query.specs.Written.{IsRowOf, IsCell, HoldsCells}
use Rattle.kq_bind_query.proofs.Progress.{then_ok, done, done_is}

-- ---- a row

-- each value is that of the cell, as one of the column
abbrev AreMade : List ℕ → List Field → List Cell → List Value → Type 0
AreMade text [] [] [] = Unit {0}
AreMade text (f ∷ fs) (x ∷ xs) (v ∷ vs) = (cell_made text f.ty x ≡ Ok v) × AreMade text fs xs vs
AreMade text _ _ _ = ⊥

made_behind : (text : List ℕ) (fs : List Field) (xs : List Cell) (vs : List Value) (f : Field) (x : Cell) (v : Value) → AreMade text fs xs vs
    → cell_made text f.ty x ≡ Ok v → AreMade text (fs ++ f ∷ []) (xs ++ x ∷ []) (vs ++ v ∷ [])
made_behind text [] [] [] f x v h e = (e, tt)
made_behind text (g ∷ fs) (y ∷ xs) (w ∷ vs) f x v h e = (h.0, made_behind text fs xs vs f x v h.1 e)
made_behind text [] [] (w ∷ vs) f x v h e = absurd h
made_behind text [] (y ∷ xs) vs f x v h e = absurd h
made_behind text (g ∷ fs) [] vs f x v h e = absurd h
made_behind text (g ∷ fs) (y ∷ xs) [] f x v h e = absurd h

lengths : (text : List ℕ) (fs : List Field) (xs : List Cell) (vs : List Value) → AreMade text fs xs vs → (length xs ≡ length fs) × (length vs ≡ length fs)
lengths text [] [] [] h = (refl, refl)
lengths text (g ∷ fs) (y ∷ xs) (w ∷ vs) h = let r = lengths text fs xs vs h.1 in (omega (arith, r.0), omega (arith, r.1))
lengths text [] [] (w ∷ vs) h = absurd h
lengths text [] (y ∷ xs) vs h = absurd h
lengths text (g ∷ fs) [] vs h = absurd h
lengths text (g ∷ fs) (y ∷ xs) [] h = absurd h

none_made : (text : List ℕ) (fs : List Field) (xs : List Cell) → AreMade text fs xs [] → xs ≡ []
none_made text [] [] h = refl
none_made text [] (y ∷ xs) h = absurd h
none_made text (g ∷ fs) [] h = absurd h
none_made text (g ∷ fs) (y ∷ xs) h = absurd h

made_at : (text : List ℕ) (fs : List Field) (xs more : List Cell) (vs : List Value) (k : ℕ) (f : Field) (v : Value) → AreMade text fs xs vs
    → slice_get fs k ≡ Some f → slice_get vs k ≡ Some v → IsCell text (xs ++ more) k f v
made_at text [] xs more vs k f v h e g = absurd (cc)
made_at text (c ∷ fs) (x ∷ xs) more (w ∷ vs) zero f v h e g =
    let one : c ≡ f = cc in
    let two : w ≡ v = cc in
    record {
      cell = x;
      there = refl;
      made = subst (λ (z : Field). cell_made text z.ty x ≡ Ok v) one (subst (λ (z : Value). cell_made text c.ty x ≡ Ok z) two h.0);
    }
made_at text (c ∷ fs) (x ∷ xs) more (w ∷ vs) (suc k) f v h e g =
    let r = made_at text fs xs more vs k f v h.1 e g in
    record { cell = r.cell; there = r.there; made = r.made }
made_at text (c ∷ fs) [] more vs k f v h e g = absurd h
made_at text (c ∷ fs) (x ∷ xs) more [] k f v h e g = absurd h

-- ---- the rows

-- all cells stand in these rows, one row after another
abbrev HaveCells : List ℕ → List Field → List Cell → List (List Value) → Type 0
HaveCells text cs xs [] = xs ≡ []
HaveCells text cs xs (row ∷ rows) = (front : List Cell) × (back : List Cell) × (xs ≡ front ++ back) × AreMade text cs front row × HaveCells text cs back rows

none_have : (text : List ℕ) (at : ℕ) (cs front : List Field) (ys : List Cell) (row : List Value) (rows : List (List Value)) → AreMade text front ys row
    → none_left at row ≡ Ok rows → HaveCells text cs ys rows
none_have text at cs front ys [] rows h e = subst (HaveCells text cs ys) (done_is [] rows e) (none_made text front ys h)
none_have text at cs front ys (v ∷ row) rows h e = absurd (cc)

same_cells : (text : List ℕ) (cs : List Field) (xs ys : List Cell) (rows : List (List Value)) → xs ≡ ys → HaveCells text cs xs rows → HaveCells text cs ys rows
same_cells text cs xs ys rows e h = subst (λ zs. HaveCells text cs zs rows) e h

rows_have : (text : List ℕ) (at : ℕ) (cs front : List Field) (ys : List Cell) (row : List Value) (left : List Field) (xs : List Cell) (rows : List (List Value))
    → front ++ left ≡ cs → AreMade text front ys row → rows_made text at cs row left xs ≡ Ok rows → HaveCells text cs (ys ++ xs) rows
rows_have text at cs front ys row left [] rows is h e =
    same_cells text cs ys (ys ++ []) rows (sym (append-nil ys)) (none_have text at cs front ys row rows h e)
rows_have text at cs front ys row [] (x ∷ xs) rows is h e = absurd (cc)
rows_have text at cs front ys row (c ∷ []) (x ∷ xs) rows is h e =
    let v = then_ok (cell_made text c.ty x) (λ v. and_then (rows_made text at cs [] cs xs) (λ more. done ((row ++ v ∷ []) ∷ more))) rows e in
    let more = then_ok (rows_made text at cs [] cs xs) (λ more. done ((row ++ v.0 ∷ []) ∷ more)) rows v.2 in
    let first : AreMade text cs (ys ++ x ∷ []) (row ++ v.0 ∷ []) =
    subst (λ (fs : List Field). AreMade text fs (ys ++ x ∷ []) (row ++ v.0 ∷ [])) is (made_behind text front ys row c x v.0 h v.1) in
    subst (HaveCells text cs (ys ++ x ∷ xs)) (done_is ((row ++ v.0 ∷ []) ∷ more.0) rows more.2)
    (ys ++ x ∷ [], xs, sym (append_assoc ys (x ∷ []) xs), first, rows_have text at cs [] [] [] cs xs more.0 refl tt more.1)
rows_have text at cs front ys row (c ∷ d ∷ left) (x ∷ xs) rows is h e =
    let v = then_ok (cell_made text c.ty x) (λ v. rows_made text at cs (row ++ v ∷ []) (d ∷ left) xs) rows e in
    same_cells text cs ((ys ++ x ∷ []) ++ xs) (ys ++ x ∷ xs) rows (append_assoc ys (x ∷ []) xs)
    (rows_have text at cs (front ++ c ∷ []) (ys ++ x ∷ []) (row ++ v.0 ∷ []) (d ∷ left) xs rows (append_assoc front (c ∷ []) (d ∷ left) ∙ is)
    (made_behind text front ys row c x v.0 h v.1) v.2)

-- ---- what the rows hold

all_rows : (text : List ℕ) (cs : List Field) (xs : List Cell) (rows : List (List Value)) → HaveCells text cs xs rows → All (IsRowOf (length cs)) rows
all_rows text cs xs [] h = All-nil (IsRowOf (length cs))
all_rows text cs xs (row ∷ rows) h =
    All-cons (IsRowOf (length cs)) row rows (lengths text cs h.0 row h.3).1 (all_rows text cs h.1 rows h.4)

all_cells : (text : List ℕ) (cs : List Field) (xs : List Cell) (rows : List (List Value)) → HaveCells text cs xs rows → length rows * length cs ≡ length xs
all_cells text cs xs [] h = let none : length xs ≡ 0 = ap length h in omega (arith, none, zero-mul (length cs))
all_cells text cs xs (row ∷ rows) h =
    let one = (lengths text cs h.0 row h.3).0 in
    let more = all_cells text cs h.1 rows h.4 in
    let both = ap length h.2 ∙ length-append h.0 h.1 in
    omega (arith, one, more, both, suc-mul (length rows) (length cs))

behind_front : (front back : List Cell) (n : ℕ) → slice_get (front ++ back) (length front + n) ≡ slice_get back n
behind_front [] back n = let e : 0 + n ≡ n = omega arith in ap (slice_get back) e
behind_front (x ∷ front) back n =
    let e : suc (length front) + n ≡ suc (length front + n) = omega arith in
    ap (slice_get (x ∷ front ++ back)) e ∙ behind_front front back n

cell_in : (text : List ℕ) (cs : List Field) (xs : List Cell) (rows : List (List Value)) → HaveCells text cs xs rows → (r k : ℕ) (row : List Value) (f : Field) (v : Value)
    → slice_get rows r ≡ Some row → slice_get cs k ≡ Some f → slice_get row k ≡ Some v → IsCell text xs (r * length cs + k) f v
cell_in text cs xs [] h r k row f v e at is = absurd (cc)
cell_in text cs xs (first ∷ rows) h zero k row f v e at is =
    let same : first ≡ row = cc in
    let n : k ≡ 0 * length cs + k = omega (arith, zero-mul (length cs)) in
    let here : slice_get first k ≡ Some v = ap (λ (z : List Value). slice_get z k) same ∙ is in
    subst (λ m. IsCell text xs m f v) n (subst (λ zs. IsCell text zs k f v) (sym h.2) (made_at text cs h.0 h.1 first k f v h.3 at here))
cell_in text cs xs (first ∷ rows) h (suc r) k row f v e at is =
    let c = cell_in text cs h.1 rows h.4 r k row f v e at is in
    let n : suc r * length cs + k ≡ length h.0 + (r * length cs + k) = omega (arith, suc-mul r (length cs), (lengths text cs h.0 first h.3).0) in
    let there = ap (λ zs. slice_get zs (suc r * length cs + k)) h.2 ∙ ap (slice_get (h.0 ++ h.1)) n ∙ behind_front h.0 h.1 (r * length cs + k) ∙ c.there in
    record { cell = c.cell; there = there; made = c.made }

-- a datatable has its cells, row by row
pub table_holds : (text : List ℕ) (at : ℕ) (columns : List Column) (cells : List Cell) (t : Tabled) → tabled text at columns cells ≡ Ok t → HoldsCells text cells t
table_holds text at columns cells t e =
    let fs = then_ok (table_columns text [] columns) (λ fs. and_then (rows_made text at fs [] fs cells) (λ rows. done (fs, rows))) t e in
    let rows = then_ok (rows_made text at fs.0 [] fs.0 cells) (λ rows. done (fs.0, rows)) t fs.2 in
    let have = rows_have text at fs.0 [] [] [] fs.0 cells rows.0 refl tt rows.1 in
    let pair : Tabled = (fs.0, rows.0) in
    let holds : HoldsCells text cells pair = record {
      rows = all_rows text fs.0 cells rows.0 have;
      all = all_cells text fs.0 cells rows.0 have;
      each = cell_in text fs.0 cells rows.0 have;
    } in
    subst (HoldsCells text cells) (done_is pair t rows.2) holds
