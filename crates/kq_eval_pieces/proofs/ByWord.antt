-- What an expression gives of each word, it gives of each row with the word.
use Rattle.std.proofs.Common.{◌≡◌, ◌<◌, ◌+◌, ℕ, zero, suc, List, [], ◌∷◌, map, length, get_or, Option, None, Some, refl, sym, ap, ◌∙◌, subst, arith}
use Rattle.std.specs.List.{All, range_with_len, slice_get}
use Rattle.std.specs.Prelude.{IfSome}
use Rattle.std.proofs.lemmas.List.Elements.{All-nil, All-cons, All-head, All-tail}
use Rattle.kq_value.specs.declared.value.Value.{Value}
use Rattle.kq_value.specs.Computed.{Computed, Is, Overflow, and_then, each}
use Rattle.kq_store_column_view.specs.declared.vector.Vector.{Vector}
use Rattle.kq_store_column_view.specs.Vectors.{cells_of}
use Rattle.kq_eval_columns.specs.Vectors.{row_at, rows_at}
use Rattle.kq_eval_columns.specs.kq_eval_row.Val.{Surroundings, val, cell_of}
use Rattle.kq_plan_expressions.specs.declared.expr.Expr.{Expr}
use Rattle.kq_eval_pieces.specs.Pieces.{columns_read}
use Rattle.kq_eval_pieces.specs.Words.{AreByCodes, AreByWord, AreCodesAt, ReadsWords}
use Rattle.kq_eval_pieces.specs.declared.worded.Worded.{Worded}
use Rattle.kq_eval_pieces.proofs.Reading.{Same, reads_alone}
use Rattle.kq_eval_pieces.proofs.Standing.{cell_at_columns}

-- ---- one value for each word

one_and_rest : (c : Computed Value) (rest : Computed (List Value)) (vs : List Value) → and_then c (λ y. and_then rest (λ ys. Is (y ∷ ys))) ≡ Is vs
    → (y : Value) × (ys : List Value) × (c ≡ Is y) × (rest ≡ Is ys) × (vs ≡ y ∷ ys)
one_and_rest Overflow rest vs e = absurd cc
one_and_rest (Is y) Overflow vs e = absurd cc
one_and_rest (Is y) (Is ys) vs e = (y, ys, refl, refl, cc)

each_at : (f : List Value → Computed Value) (columns : List Vector) (k n i m : ℕ) (vs : List Value) → m ≡ k + i → i < n → each f (rows_at columns (range_with_len k n)) ≡ Is vs → f (row_at columns m) ≡ Is (cell_of vs i)
each_at f columns k zero i m vs at within e = absurd (omega arith)
each_at f columns k (suc n) zero m vs at within e =
    let (y, ys, one, rest, is) = one_and_rest (f (row_at columns k)) (each f (rows_at columns (range_with_len (k + 1) n))) vs e in
    let here : m ≡ k = omega arith in
    ap (λ (p : ℕ). f (row_at columns p)) here ∙ one ∙ ap (λ (us : List Value). Is (cell_of us 0)) (sym is)
each_at f columns k (suc n) (suc i) m vs at within e =
    let (y, ys, one, rest, is) = one_and_rest (f (row_at columns k)) (each f (rows_at columns (range_with_len (k + 1) n))) vs e in
    each_at f columns (k + 1) n i m ys (omega arith) (omega arith) rest ∙ ap (λ (us : List Value). Is (cell_of us (suc i))) (sym is)

same_alone : (row other : List Value) (j : ℕ) (js : List ℕ) → cell_of row j ≡ cell_of other j → All (λ n. n ≡ j) js → Same row other js
same_alone row other j [] e alone = All-nil (λ n. cell_of row n ≡ cell_of other n)
same_alone row other j (k ∷ js) e alone =
    All-cons (λ n. cell_of row n ≡ cell_of other n) k js (subst (λ (n : ℕ). cell_of row n ≡ cell_of other n) (sym (All-head (λ n. n ≡ j) k js alone)) e) (same_alone row other j js e (All-tail (λ n. n ≡ j) k js alone))

-- what came of the words as a column, comes of any row with the word
pub by_word : (e : Expr) (s : Surroundings) (j : ℕ) (words vs : List Value) (columns : List Vector) (n : ℕ) → n ≡ length words → All (λ m. m ≡ j) (columns_read e) → get_or (map cells_of columns) j [] ≡ words
    → each (val e s) (rows_at columns (range_with_len 0 n)) ≡ Is vs → AreByWord e s j words vs
by_word e s j words vs columns n long alone is came = record {
  each = λ row i within at.
      let there : cell_of row j ≡ cell_of (row_at columns i) j = at ∙ sym (cell_at_columns columns i j ∙ ap (λ (cs : List Value). cell_of cs i) is) in
      reads_alone e s row (row_at columns i) (same_alone row (row_at columns i) j (columns_read e) there alone) ∙ each_at (val e s) columns 0 n i i vs (omega arith) (omega arith) came;
}

-- ---- by the codes of rows

word_at : (words : List Value) (codes : List ℕ) (p c : ℕ) → slice_get codes p ≡ Some c → cell_of (map (cell_of words) codes) p ≡ cell_of words c
word_at words [] zero c e = absurd cc
word_at words [] (suc p) c e = absurd cc
word_at words (d ∷ codes) zero c e = let same : d ≡ c = cc in ap (cell_of words) same
word_at words (d ∷ codes) (suc p) c e = word_at words codes p c e

all_by_codes : (e : Expr) (s : Surroundings) (columns : List Vector) (w : Worded) (vs : List Value) (places found : List ℕ) → ReadsWords e columns w → AreByWord e s w.column w.words.now vs
    → map Some found ≡ map (slice_get w.codes.now) places → All (λ c. c < length w.words.now) found → each (val e s) (rows_at columns places) ≡ Is (map (cell_of vs) found)
all_by_codes e s columns w vs [] [] reads by are below = refl
all_by_codes e s columns w vs [] (c ∷ found) reads by are below = absurd cc
all_by_codes e s columns w vs (p ∷ places) [] reads by are below = absurd cc
all_by_codes e s columns w vs (p ∷ places) (c ∷ found) reads by are below =
    let at : slice_get w.codes.now p ≡ Some c = cc in
    let rest : map Some found ≡ map (slice_get w.codes.now) places = cc in
    let cell = cell_at_columns columns p w.column ∙ ap (λ (cs : List Value). cell_of cs p) reads.cells ∙ word_at w.words.now w.codes.now p c at in
    let one = by.each (row_at columns p) c (All-head (λ n. n < length w.words.now) c found below) cell in
    let others = all_by_codes e s columns w vs places found reads by rest (All-tail (λ n. n < length w.words.now) c found below) in
    λ j. and_then (one j) (λ y. and_then (others j) (λ ys. Is (y ∷ ys)))

pub by_codes : (e : Expr) (s : Surroundings) (columns : List Vector) (w : Worded) (vs made : List Value) (places found : List ℕ) (count : ℕ) → count ≡ length w.words.now → ReadsWords e columns w → AreByWord e s w.column w.words.now vs
    → AreCodesAt w.codes.now places count found → made ≡ map (cell_of vs) found → each (val e s) (rows_at columns places) ≡ Is made
by_codes e s columns w vs made places found count long reads by codes is =
    all_by_codes e s columns w vs places found reads by codes.are (subst (λ (n : ℕ). All (λ c. c < n) found) long codes.below) ∙ ap (λ (us : List Value). Is us) (sym is)

pub by_codes_if : (e : Expr) (s : Surroundings) (columns : List Vector) (w : Worded) (o : Option Vector) (places found : List ℕ) (count : ℕ) → count ≡ length w.words.now → ReadsWords e columns w → AreCodesAt w.codes.now places count found
    → IfSome o (λ (v : Vector). AreByCodes e s w.column w.words.now found (cells_of v)) → IfSome o (λ (v : Vector). each (val e s) (rows_at columns places) ≡ Is (cells_of v))
by_codes_if e s columns w None places found count long reads codes by = tt
by_codes_if e s columns w (Some v) places found count long reads codes by = by_codes e s columns w by.values (cells_of v) places found count long reads by.by codes by.are
