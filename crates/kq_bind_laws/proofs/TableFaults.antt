-- Binding a datatable tells the first fault of its text.
use Rattle.std.proofs.Common.{◌≡◌, ℕ, ◌+◌, ◌<◌, Bool, true, false, cond, not, nat_eq, List, [], ◌∷◌, ◌++◌, length, length-append, Ok, Err, refl, sym, ap, ◌∙◌, subst, arith}
use Rattle.std.specs.Prelude.{◌%◌}
use Rattle.std.proofs.lemmas.Bool.{ne_eqb}
use Rattle.std.proofs.Math.Nat.{add-mod_left, mod-eq_of_lt, zero-mod}
use Rattle.kq_bind_clauses.specs.Tables.{put_column, table_columns, word_type, cell_made, none_left, rows_made, Tabled, tabled}
use Rattle.kq_bind_columns.specs.Items.{field}
use Rattle.kq_bind_columns.specs.Naming.{is_taken}
use Rattle.kq_bind_expressions.specs.Verdicts.{Fault, Verdict, mistyped, and_then}
use Rattle.kq_read_grammar.specs.declared.clause.Cell.{Cell}
use Rattle.kq_read_grammar.specs.declared.clause.Column.{Column}
use Rattle.kq_read_meanings.specs.Names.{name_said, name_place}
use Rattle.kq_value.specs.declared.schema.Field.{Field}
use Rattle.kq_value.specs.declared.value.Value.{Value}
use Rattle.kq_bind_query.proofs.Progress.{then_ok, done, done_is}
use Rattle.kq_bind_laws.specs.ClauseFaults.{columns_faults, cell_faults, cells_faults, unfilled, table_faults}
use Rattle.kq_bind_laws.specs.Told.{TellsFirst, if_so, where_bound, where_none}
use Rattle.kq_bind_laws.proofs.ClauseFaults.{columns_tell, cell_tells}
use Rattle.kq_bind_laws.proofs.Told.{failed, then_done}

abbrev Rows : Type 0
Rows = List (List Value)

-- ---- a fault that stands before others, where there are none of these

abbrev led : List Fault → List Fault → List Fault
led own fs = where_none fs own ++ fs

step_tells : {A B : Type 0} (v : Verdict A) (k : A → Verdict B) (fs gs own : List Fault) → TellsFirst v fs → ((x : A) → TellsFirst (k x) (led own gs)) → TellsFirst (and_then v k) (led own (fs ++ gs))
step_tells (Ok x) k fs gs own none more = subst (λ (z : List Fault). TellsFirst (k x) (led own (z ++ gs))) (sym none) (more x)
step_tells (Err e) k fs gs own (rest, is) more = (rest ++ gs, ap (λ (z : List Fault). led own (z ++ gs)) is)

-- ---- the number of cells

abbrev wrong_number : ℕ → ℕ → ℕ → List Fault
wrong_number at width n = if_so (not (nat_eq (n % width) 0)) (mistyped at)

none_over : (at width n : ℕ) → n % width ≡ 0 → wrong_number at width n ≡ []
none_over at width n e = ap (λ (k : ℕ). if_so (not (nat_eq k 0)) (mistyped at)) e

some_over : (at width n : ℕ) → 0 < n → n < width → wrong_number at width n ≡ mistyped at ∷ []
some_over at width n some below =
    let same : n % width ≡ n = mod-eq_of_lt below in
    let other : nat_eq n 0 ≡ false = ne_eqb n 0 (λ e. absurd (omega (arith, e, some))) in
    ap (λ (k : ℕ). if_so (not (nat_eq k 0)) (mistyped at)) same ∙ ap (λ (b : Bool). if_so (not b) (mistyped at)) other

end_tells : (at width : ℕ) (row : List Value) → length row < width → TellsFirst (none_left at row) (led (wrong_number at width (length row + 0)) [])
end_tells at width [] below =
    let zeros : (length {A = Value} [] + 0) % width ≡ 0 = zero-mod width in
    ap (λ (z : List Fault). z ++ []) (none_over at width (length {A = Value} [] + 0) zeros)
end_tells at width (v ∷ row) below =
    let some : 0 < length (v ∷ row) + 0 = omega arith in
    let less : length (v ∷ row) + 0 < width = omega (arith, below) in
    ([], ap (λ (z : List Fault). z ++ []) (some_over at width (length (v ∷ row) + 0) some less))

-- ---- cells

module _ (text : List ℕ) (at : ℕ) (cs : List Field) where
  rows_tell : (row : List Value) (left : List Field) (cells : List Cell) → 0 < length left → length row + length left ≡ length cs
      → TellsFirst (rows_made text at cs row left cells) (led (wrong_number at (length cs) (length row + length cells)) (cells_faults text cs left cells))
  rows_tell row [] cells some whole = absurd (omega (arith, some))
  rows_tell row (c ∷ []) [] some whole = end_tells at (length cs) row (omega (arith, whole))
  rows_tell row (c ∷ d ∷ left) [] some whole = end_tells at (length cs) row (omega (arith, whole))
  rows_tell row (c ∷ []) (x ∷ xs) some whole =
      let next : length {A = Value} [] + length cs ≡ length cs = omega arith in
      let wide : 0 < length cs = omega (arith, whole) in
      let around : length row + length (x ∷ xs) ≡ length cs + length xs = omega (arith, whole) in
      let same : (length {A = Value} [] + length xs) % length cs ≡ (length row + length (x ∷ xs)) % length cs =
      ap (λ (k : ℕ). k % length cs) (nothing_before (length xs)) ∙ sym (add-mod_left (length cs) (length xs)) ∙ ap (λ (k : ℕ). k % length cs) (sym around) in
      step_tells (cell_made text c.ty x) (λ v. and_then (rows_made text at cs [] cs xs) (λ rows. done ((row ++ v ∷ []) ∷ rows))) (cell_faults text c.ty x) (cells_faults text cs cs xs)
      (wrong_number at (length cs) (length row + length (x ∷ xs))) (cell_tells text c.ty x)
      (λ v. then_done (rows_made text at cs [] cs xs) (λ rows. (row ++ v ∷ []) ∷ rows) (led (wrong_number at (length cs) (length row + length (x ∷ xs))) (cells_faults text cs cs xs))
      (subst (λ (k : ℕ). TellsFirst (rows_made text at cs [] cs xs) (led (if_so (not (nat_eq k 0)) (mistyped at)) (cells_faults text cs cs xs))) same (rows_tell [] cs xs wide next)))
    where
      nothing_before : (n : ℕ) → length {A = Value} [] + n ≡ n
      nothing_before n = omega arith
  rows_tell row (c ∷ d ∷ left) (x ∷ xs) some whole =
      step_tells (cell_made text c.ty x) (λ v. rows_made text at cs (row ++ v ∷ []) (d ∷ left) xs) (cell_faults text c.ty x) (cells_faults text cs (d ∷ left) xs)
      (wrong_number at (length cs) (length row + length (x ∷ xs))) (cell_tells text c.ty x)
      (λ v.
      let longer : length (row ++ v ∷ []) ≡ length row + length (v ∷ []) = length-append row (v ∷ []) in
      let same : length (row ++ v ∷ []) + length xs ≡ length row + length (x ∷ xs) = omega (arith, longer) in
      let goes_on : length (row ++ v ∷ []) + length (d ∷ left) ≡ length cs = omega (arith, longer, whole) in
      subst (λ (k : ℕ). TellsFirst (rows_made text at cs (row ++ v ∷ []) (d ∷ left) xs) (led (wrong_number at (length cs) k) (cells_faults text cs (d ∷ left) xs))) same
      (rows_tell (row ++ v ∷ []) (d ∷ left) xs (omega arith) goes_on))

-- ---- columns

one_column : (text : List ℕ) (before : List Field) (c : Column) (fields : List Field) → put_column text before c ≡ Ok fields → length fields ≡ length before + 1
one_column text before c fields e = by (is_taken before (name_said text c.name)) e where
  by : (b : Bool) → cond {A = Verdict (List Field)} b (failed (mistyped (name_place c.name))) (and_then (word_type text c.ty) (λ t. done (before ++ field (name_said text c.name) t ∷ []))) ≡ Ok fields
      → length fields ≡ length before + 1
  by true f = absurd (cc)
  by false f =
      let t = then_ok (word_type text c.ty) (λ t. done (before ++ field (name_said text c.name) t ∷ [])) fields f in
      let is = done_is (before ++ field (name_said text c.name) t.0 ∷ []) fields t.2 in
      ap length (sym is) ∙ length-append before (field (name_said text c.name) t.0 ∷ [])

as_many : (text : List ℕ) (before : List Field) (columns : List Column) (fields : List Field) → table_columns text before columns ≡ Ok fields → length fields ≡ length before + length columns
as_many text before [] fields e = let is = ap length (done_is before fields e) in omega (arith, is)
as_many text before (c ∷ columns) fields e =
    let more = then_ok (put_column text before c) (λ more. table_columns text more columns) fields e in
    let one = one_column text before c more.0 more.1 in
    let rest = as_many text more.0 columns fields more.2 in
    omega (arith, one, rest)

-- ---- all of it

pub table_tells : (text : List ℕ) (at : ℕ) (c : Column) (columns : List Column) (cells : List Cell) → TellsFirst (tabled text at (c ∷ columns) cells) (table_faults text at (c ∷ columns) cells)
table_tells text at c columns cells = by (table_columns text [] (c ∷ columns)) refl (columns_tell text [] (c ∷ columns)) where
  filled : (cs : List Field) → length cs ≡ length (c ∷ columns) → TellsFirst (rows_made text at cs [] cs cells) (led (unfilled at (c ∷ columns) cells) (cells_faults text cs cs cells))
  filled cs many =
      let wide : 0 < length cs = omega (arith, many) in
      let whole : length {A = Value} [] + length cs ≡ length cs = omega arith in
      let all : length {A = Value} [] + length cells ≡ length cells = omega arith in
      let same : wrong_number at (length cs) (length {A = Value} [] + length cells) ≡ (unfilled at (c ∷ columns) cells) =
      ap (λ (n : ℕ). wrong_number at n (length {A = Value} [] + length cells)) many ∙ ap (wrong_number at (length (c ∷ columns))) all in
      subst (λ (z : List Fault). TellsFirst (rows_made text at cs [] cs cells) (led z (cells_faults text cs cs cells))) same (rows_tell text at cs [] cs cells wide whole)

  by : (v : Verdict (List Field)) → table_columns text [] (c ∷ columns) ≡ v → TellsFirst v (columns_faults text [] (c ∷ columns))
      → TellsFirst {A = Tabled} (and_then v (λ cs. and_then (rows_made text at cs [] cs cells) (λ rows. done (cs, rows)))) (led (unfilled at (c ∷ columns) cells) (columns_faults text [] (c ∷ columns) ++ where_bound v (λ cs. cells_faults text cs cs cells)))
  by (Err e) is (more, are) = (more ++ [], ap (λ (z : List Fault). led (unfilled at (c ∷ columns) cells) (z ++ [])) are)
  by (Ok cs) is none =
      let many = as_many text [] (c ∷ columns) cs is in
      let same : length cs ≡ length (c ∷ columns) = omega (arith, many) in
      then_done (rows_made text at cs [] cs cells) (λ rows. (cs, rows)) (led (unfilled at (c ∷ columns) cells) (columns_faults text [] (c ∷ columns) ++ cells_faults text cs cs cells))
      (subst (λ (z : List Fault). TellsFirst (rows_made text at cs [] cs cells) (led (unfilled at (c ∷ columns) cells) (z ++ cells_faults text cs cs cells))) (sym none) (filled cs same))
