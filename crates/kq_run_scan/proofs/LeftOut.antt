-- What the least and the greatest cell of an extent tell of all its rows.
use Rattle.std.proofs.Common.{◌≡◌, ◌&&◌, ◌||◌, ℕ, Bool, true, false, not, cond, Option, Some, None, List, [], ◌∷◌, map, get_or, drop, refl, sym, ap, ◌∙◌, subst, arith}
use Rattle.std.specs.List.{All, slice_get, cons_option}
use Rattle.std.specs.Option.{option_map, option_or}
use Rattle.std.specs.Ordering.{is_ge, is_gt, is_le, is_lt}
use Rattle.std.specs.Prelude.{IfSome, Vec, unwrap_or, option_and_then, ◌-◌}
use Rattle.std.specs.declared.cmp.Ordering.{Ordering}
use Rattle.std.proofs.lemmas.List.Elements.{All-cons, All-drop, All-head, All-nil, All-tail, All-take}
use Rattle.kq_value.specs.declared.schema.Field.{Field}
use Rattle.kq_value.specs.declared.ty.Ty.{Ty}
use Rattle.kq_value.specs.declared.ty.Ty.TheVariants as ty
use Rattle.kq_value.specs.declared.value.Value.{Value}
use Rattle.kq_value.specs.declared.value.Value.TheVariants as value
use Rattle.kq_value.specs.declared.zone.ZoneOp.{ZoneOp}
use Rattle.kq_value.specs.declared.zone.ZoneOp.TheVariants as op
use Rattle.kq_value.specs.Typed.{is_null, missing_of}
use Rattle.kq_value.specs.Values.{is_same, value_cmp}
use Rattle.kq_value_arithmetic.specs.Comparing.{are_same, compared, equal, held}
use Rattle.kq_value_arithmetic.specs.Logic.{is_yes}
use Rattle.kq_store_column.specs.Bounds.{AreBounds}
use Rattle.kq_store_column.specs.Cells.{IsAtMost}
use Rattle.kq_value.specs.Computed.{Computed, Is, and_then}
use Rattle.std.specs.declared.alloc.Global.{Global}
use Rattle.kq_plan_expressions.specs.declared.expr.Expr.{Expr}
use Rattle.kq_plan_expressions.specs.declared.expr.Expr.TheOpen.{Expr-F}
use Rattle.kq_plan_expressions.specs.declared.expr.Expr.TheFolds.{fold-roll-Expr}
use Rattle.kq_plan_expressions.specs.declared.expr.Expr.TheVariants.{Call, rolls-Call}
use Rattle.kq_plan_expressions.specs.Terms.{Term, call, column, literal, one_term, term_of, terms_of}
use Rattle.kq_plan_functions.specs.declared.function.Function.{Function}
use Rattle.kq_store_extent.specs.Cells.{cell_of as present_cell, cells_of as present_cells, cells_at}
use Rattle.kq_store_extent.specs.Seen.{ExtentView, row_of}
use Rattle.kq_store_extent.specs.Wide.{wide}
use Rattle.kq_store_rows.specs.Widened.{missing_at, widened}
use Rattle.kq_store_rows.proofs.WidenedLemmas.{widened-cell, widened_records-rows}
use Rattle.kq_run_row_operators.specs.kq_eval_pieces.Operators.{Row, filtered}
use Rattle.kq_run_row_operators.specs.kq_eval_pieces.Pieces.{piece_of}
use Rattle.kq_run_row_operators.specs.kq_eval_row.Val.{Surroundings, cell_of, meaning}
use Rattle.kq_run_row_operators.specs.Operators.{Rowwise, keeping, making, mv_expanding}
use Rattle.kq_run_row_operators.specs.Ran.{later, ran, staged}
use Rattle.kq_run_row_operators.proofs.Laws.{ran_none}
use Rattle.kq_run_scan.specs.Lent.{rows_of}
use Rattle.kq_run_scan.specs.Ruled.{Answers, Compares, Drops, FirstKeeps, IsNotMet, IsPlain, KeepsNone, LeavesNothing, LiesOutside, MeetNone, MeetsNoneBetween, MissingIsNull, answered}
use Rattle.kq_run_scan.specs.Settled.{MeansAs}
use Rattle.kq_run_scan.specs.declared.ruled.Comparison.{Comparison}
use Rattle.kq_run_scan.proofs.Bounded.{before_all, behind_all, kinds_up, none_above, none_at_least, none_at_most, none_below}

-- ---- answers that aren't true

is_no_yes : (b : Bool) → b ≡ false → is_yes (value.Bool b) ≡ false
is_no_yes true h = cc
is_no_yes false h = refl

both_false : (a b : Bool) → b ≡ false → (a && b) ≡ false
both_false true b h = h
both_false false b h = refl

first_false : (a b : Bool) → a ≡ false → (a && b) ≡ false
first_false true b h = cc
first_false false b h = refl

not_compared : (test : Ordering → Bool) (v w : Value) → test (value_cmp v w) ≡ false → is_yes (compared test v w) ≡ false
not_compared test v w h = is_no_yes (not (is_null v || is_null w) && test (value_cmp v w)) (both_false (not (is_null v || is_null w)) (test (value_cmp v w)) h)

null_or : (b : Bool) (truth : Value) → is_yes truth ≡ false → is_yes (cond b (value.Null ty.Bool) truth) ≡ false
null_or true truth h = refl
null_or false truth h = h

not_equal : (v w : Value) → are_same v w ≡ false → is_yes (equal v w) ≡ false
not_equal v w h =
    let there = not (is_null v || is_null w) in
    null_or (is_null v && is_null w) (value.Bool (there && are_same v w)) (is_no_yes (there && are_same v w) (both_false there (are_same v w) h))

-- ---- nulls

not_there : (a b : Bool) → a ≡ true → not (a || b) ≡ false
not_there true b h = refl
not_there false b h = cc

null_compared : (test : Ordering → Bool) (v w : Value) → is_null v ≡ true → is_yes (compared test v w) ≡ false
null_compared test v w h =
    let there = not (is_null v || is_null w) in
    is_no_yes (there && test (value_cmp v w)) (first_false there (test (value_cmp v w)) (not_there (is_null v) (is_null w) h))

null_equal : (v w : Value) → is_null v ≡ true → is_yes (equal v w) ≡ false
null_equal v w h =
    let there = not (is_null v || is_null w) in
    null_or (is_null v && is_null w) (value.Bool (there && are_same v w)) (is_no_yes (there && are_same v w) (first_false there (are_same v w) (not_there (is_null v) (is_null w) h)))

null_not_met : (o : ZoneOp) (v w : Value) → is_null v ≡ true → is_yes (answered o v w) ≡ false
null_not_met op.Equal v w h = null_equal v w h
null_not_met op.Below v w h = null_compared is_lt v w h
null_not_met op.AtMost v w h = null_compared is_le v w h
null_not_met op.Above v w h = null_compared is_gt v w h
null_not_met op.AtLeast v w h = null_compared is_ge v w h

-- ---- values between the least and the greatest

pub below_between : (value least v : Value) → IsAtMost least v → is_lt (value_cmp least value) ≡ false → is_yes (compared is_lt v value) ≡ false
below_between value least v low h = not_compared is_lt v value (none_below least v value low h)

pub at_most_between : (value least v : Value) → IsAtMost least v → is_le (value_cmp least value) ≡ false → is_yes (compared is_le v value) ≡ false
at_most_between value least v low h = not_compared is_le v value (none_at_most least v value low h)

pub above_between : (value greatest v : Value) → IsAtMost v greatest → is_gt (value_cmp greatest value) ≡ false → is_yes (compared is_gt v value) ≡ false
above_between value greatest v high h = not_compared is_gt v value (none_above greatest v value high h)

pub at_least_between : (value greatest v : Value) → IsAtMost v greatest → is_ge (value_cmp greatest value) ≡ false → is_yes (compared is_ge v value) ≡ false
at_least_between value greatest v high h = not_compared is_ge v value (none_at_least greatest v value high h)

pub equal_between : (value least greatest : Value) → LiesOutside value least greatest → (v : Value) → IsAtMost least v → IsAtMost v greatest → is_yes (equal v value) ≡ false
equal_between value least greatest outside v low high = not_equal v value (outside v low high)

held_plain : (v : Value) → IsPlain v → held v ≡ v
held_plain (value.Null t) plain = refl
held_plain (value.Long z) plain = refl
held_plain (value.Int z) plain = refl
held_plain (value.Text bs) plain = refl
held_plain (value.Bool b) plain = refl
held_plain (value.Moment z) plain = refl
held_plain (value.Span z) plain = refl
held_plain (value.Dynamic d) plain = absurd (omega (arith, plain))

same_plain : (v w : Value) → IsPlain v → IsPlain w → are_same v w ≡ is_same v w
same_plain v w p q = λ i. is_same (held_plain v p i) (held_plain w q i)

plain_between : (greatest v : Value) → IsPlain greatest → IsAtMost v greatest → IsPlain v
plain_between greatest v plain high = let up = kinds_up v greatest high in omega (arith, up, plain)

pub outside_before : (value least greatest : Value) → IsPlain value → IsPlain greatest → is_lt (value_cmp value least) ≡ true → LiesOutside value least greatest
outside_before value least greatest p q h v low high = same_plain v value (plain_between greatest v q high) p ∙ before_all least v value low h

pub outside_behind : (value least greatest : Value) → IsPlain value → IsPlain greatest → is_lt (value_cmp greatest value) ≡ true → LiesOutside value least greatest
outside_behind value least greatest p q h v low high = same_plain v value (plain_between greatest v q high) p ∙ behind_all greatest v value high h

-- what a test that came out false says
pub refused : (r b : Bool) → r ≡ b → not r ≡ true → b ≡ false
refused true b is h = cc
refused false b is h = sym is

-- ---- comparisons as terms

term_of_call : (function : Function) (args : Vec Expr Global) → term_of (Call function args) ≡ call function (terms_of (map term_of args.items))
term_of_call function args = ap term_of (sym (rolls-Call function args)) ∙ fold-roll-Expr Term one_term (Expr-F.Call function args)

pub compares : (e : Expr) (function : Function) (o : ZoneOp) (args : Vec Expr Global) (c : Comparison) → e ≡ Call function args → Answers function o → c.op ≡ o → map term_of args.items ≡ column c.column ∷ literal c.value.now ∷ [] → Compares (term_of e) c
compares e function o args c is answers same two = record {
  is = λ s row. ap (λ (t : Term). meaning t s row) (ap term_of is ∙ term_of_call function args ∙ ap (λ (ts : List Term). call function (terms_of ts)) two)
      ∙ answers.is s row (column c.column) (literal c.value.now) (cell_of row c.column) c.value.now refl refl
      ∙ ap (λ (p : ZoneOp). Is (answered p (cell_of row c.column) c.value.now)) (sym same);
}

pub IfSome-then : {A : Type 0} (P Q : A → Type 0) (o : Option A) → ((x : A) → P x → Q x) → IfSome o P → IfSome o Q
IfSome-then P Q (Some x) h some = h x some
IfSome-then P Q None h some = some

-- ---- what stands where a row has no cell

missing_null : (t : Ty) → (t ≡ ty.Text → ⊥) → is_null (missing_of t) ≡ true
missing_null ty.Long h = refl
missing_null ty.Int h = refl
missing_null ty.Text h = absurd (h refl)
missing_null ty.Bool h = refl
missing_null ty.Moment h = refl
missing_null ty.Span h = refl
missing_null ty.Dynamic h = refl

same_cell : (v w : Value) → Some v ≡ Some w → v ≡ w
same_cell v w is = cc

pub field_null : (fields : List Field) (j : ℕ) (f : Field) → slice_get fields j ≡ Some f → (f.ty ≡ ty.Text → ⊥) → MissingIsNull fields j
field_null fields j f at no_text v is =
    subst (λ (w : Value). is_null w ≡ true) (same_cell (missing_of f.ty) v (sym (ap (option_map (λ (g : Field). missing_of g.ty)) at) ∙ is)) (missing_null f.ty no_text)

pub past_null : (fields : List Field) (j : ℕ) → slice_get fields j ≡ None → MissingIsNull fields j
past_null fields j none v is = let both : None ≡ Some v = sym (ap (option_map (λ (g : Field). missing_of g.ty)) none) ∙ is in absurd (cc)

-- ---- the cells of a row under columns

-- the row's own cell, where it has one that isn't null
abbrev OwnIs : (Value → Type 0) → ℕ → Row → Type 0
OwnIs P j row = (v : Value) → slice_get row j ≡ Some v → is_null v ≡ false → P v

row_not_met : (c : Comparison) (fields : List Field) (row : Row) → MissingIsNull fields c.column → OwnIs (IsNotMet c) c.column row → IsNotMet c (cell_of (widened fields row) c.column)
row_not_met c fields row missing own =
    subst (λ (o : Option Value). IsNotMet c (unwrap_or o (value.Null ty.Long))) (sym (widened-cell fields row c.column)) (by (slice_get row c.column) (missing_at fields c.column) refl refl)
  where
    by_null : (v : Value) (b : Bool) → is_null v ≡ b → slice_get row c.column ≡ Some v → IsNotMet c v
    by_null v true null is = null_not_met c.op v c.value.now null
    by_null v false there is = own v is there

    by : (o p : Option Value) → slice_get row c.column ≡ o → missing_at fields c.column ≡ p → IsNotMet c (unwrap_or (option_or o p) (value.Null ty.Long))
    by (Some v) p is m = by_null v (is_null v) refl is
    by None (Some v) is m = null_not_met c.op v c.value.now (missing v m)
    by None None is m = null_not_met c.op (value.Null ty.Long) c.value.now refl

all_behind : (P : Value → Type 0) (o : Option Value) (vs : List Value) → All P (cons_option o vs) → All P vs
all_behind P (Some v) vs all = All-tail P v vs all
all_behind P None vs all = all

-- what all cells are that are there, each row's own is
each_own : (P : Value → Type 0) (j : ℕ) (rows : List Row) → All P (present_cells j rows) → All (OwnIs P j) rows
each_own P j [] all = All-nil (OwnIs P j)
each_own P j (row ∷ rows) all = All-cons (OwnIs P j) row rows here (each_own P j rows (all_behind P (present_cell j row) (present_cells j rows) all))
  where
    found : (v : Value) → slice_get row j ≡ Some v → is_null v ≡ false → present_cell j row ≡ Some v
    found v is there = (λ i. option_and_then (λ w. cond (is_null w) None (Some w)) (is i)) ∙ ap (λ (b : Bool). cond b None (Some v)) there

    here : OwnIs P j row
    here v is there = All-head P v (present_cells j rows) (subst (λ (o : Option Value). All P (cons_option o (present_cells j rows))) (found v is there) all)

wide_rows : (fields : List Field) (e : ExtentView) → rows_of (wide fields e) ≡ map (widened fields) (map row_of e.records)
wide_rows fields e = widened_records-rows fields e.records

rows_not_met : (c : Comparison) (fields : List Field) (rows : List Row) → MissingIsNull fields c.column → All (OwnIs (IsNotMet c) c.column) rows → MeetNone c (map (widened fields) rows)
rows_not_met c fields [] missing own = All-nil (λ (r : Row). IsNotMet c (cell_of r c.column))
rows_not_met c fields (row ∷ rows) missing own =
    All-cons (λ (r : Row). IsNotMet c (cell_of r c.column)) (widened fields row) (map (widened fields) rows) (row_not_met c fields row missing (All-head (OwnIs (IsNotMet c) c.column) row rows own))
    (rows_not_met c fields rows missing (All-tail (OwnIs (IsNotMet c) c.column) row rows own))

extent_not_met : (c : Comparison) (fields : List Field) (e : ExtentView) → MissingIsNull fields c.column → All (IsNotMet c) (cells_at c.column e.records) → MeetNone c (rows_of (wide fields e))
extent_not_met c fields e missing all =
    subst (MeetNone c) (sym (wide_rows fields e)) (rows_not_met c fields (map row_of e.records) missing (each_own (IsNotMet c) c.column (map row_of e.records) all))

-- no record has a cell there
pub none_there : (c : Comparison) (fields : List Field) (e : ExtentView) → MissingIsNull fields c.column → cells_at c.column e.records ≡ [] → MeetNone c (rows_of (wide fields e))
none_there c fields e missing none = extent_not_met c fields e missing (subst (All (IsNotMet c)) (sym none) (All-nil (IsNotMet c)))

-- none between the least and the greatest stands so
pub none_between : (c : Comparison) (fields : List Field) (e : ExtentView) (least greatest : Value) → MissingIsNull fields c.column → AreBounds IsAtMost (cells_at c.column e.records) least greatest → MeetsNoneBetween c least greatest
    → MeetNone c (rows_of (wide fields e))
none_between c fields e least greatest missing bounds none =
    let cells = cells_at c.column e.records in
    extent_not_met c fields e missing (λ k d within. none (get_or cells k d) (bounds.none_below k d within) (bounds.none_above k d within))

-- ---- what comes of such rows

pub compares_none : (e : Term) (c : Comparison) (rows : List Row) → Compares e c → MeetNone c rows → KeepsNone e rows
compares_none e c rows compares none s k d within = let row = get_or rows k d in (answered c.op (cell_of row c.column) c.value.now, compares.is s row, none k d within)

filtered_none : (e : Term) (s : Surroundings) (rows : List Row) → All (Drops e s) rows → filtered e s rows ≡ Is []
filtered_none e s [] all = refl
filtered_none e s (r ∷ rows) all =
    let here = All-head (Drops e s) r rows all in
    let rest = filtered_none e s rows (All-tail (Drops e s) r rows all) in
    (λ i. and_then (here.1 i) (λ v. and_then (rest i) (λ others. Is (cond (is_yes v) (r ∷ others) others))))
    ∙ (λ i. Is (cond (here.2 i) (r ∷ []) []))

-- the first condition means the same as a term that is true for none of the rows
pub left_out : (os : List Rowwise) (s : Surroundings) (rows : List Row) (e : Term) → FirstKeeps os (MeansAs s e) → KeepsNone e rows → LeavesNothing os s rows
left_out [] s rows e same none = absurd same
left_out (keeping t ∷ os) s rows e same none =
    let drops : All (Drops t s) rows = λ k d within. let p = none s k d within in (p.0, same (get_or rows k d) ∙ p.1, p.2) in
    ap (λ (o : Computed (List Row)). staged o (ran os s)) (filtered_none t s rows drops) ∙ ap later (ran_none os s)
left_out (making es ∷ os) s rows e same none = absurd same
left_out (mv_expanding t at ty ∷ os) s rows e same none = absurd same

-- what all rows are, those of a piece are
pub piece_out : (e : Term) (rows : List Row) (from to : ℕ) → KeepsNone e rows → KeepsNone e (piece_of rows from to)
piece_out e rows from to none = λ s. All-take (Drops e s) (to - from) (drop from rows) (All-drop (Drops e s) from rows (none s))

-- of the condition that stands first
pub first_so : (os : List Rowwise) (e : Term) (So : Term → Type 0) → FirstKeeps os (λ t. t ≡ e) → So e → FirstKeeps os So
first_so [] e So first so = absurd first
first_so (keeping t ∷ os) e So first so = subst So (sym first) so
first_so (making es ∷ os) e So first so = absurd first
first_so (mv_expanding t at ty ∷ os) e So first so = absurd first
