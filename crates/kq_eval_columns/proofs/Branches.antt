-- The steps of walks over the parts of a call.
use Rattle.std.proofs.Common.{◌≡◌, ◌<◌, ◌≤◌, ℕ, zero, suc, ◌+◌, Bool, List, [], ◌∷◌, ◌++◌, map, length, get_or, drop, Result, Err, refl, sym, ap, subst, ◌∙◌, arith}
use Rattle.std.specs.Prelude.{not, ◌≢◌}
use Rattle.kq_value.specs.declared.value.Value.{Value}
use Rattle.kq_value.specs.Computed.{AnswersAs, Computed, Is, Overflow, and_then, each}
use Rattle.kq_value.specs.declared.fault.EvalFault.{EvalFault}
use Rattle.kq_value.specs.declared.fault.EvalFault.TheVariants as fault
use Rattle.kq_eval_kernels.specs.Pairs.{each_two}
use Rattle.kq_plan_functions.specs.declared.function.Function.{Function}
use Rattle.kq_plan_functions.specs.declared.function.Function.TheVariants as f
use Rattle.kq_eval_row.specs.Applied.{applied}
use Rattle.kq_plan_expressions.specs.declared.expr.Expr.{Expr}
use Rattle.kq_value_arithmetic.specs.Logic.{is_yes}
use Rattle.kq_eval_row.specs.Val.{Surroundings}
use Rattle.kq_eval_columns.specs.Choices.{picked, merged, is_present}
use Rattle.kq_eval_columns.specs.Over.{Over, over, bare, choosing, keeping, chosen_over, present_over, values_over, called_over}
use Rattle.kq_store_column_view.specs.Vectors.{cells_of}
use Rattle.kq_eval_columns.specs.Seen.{merged_by, fronted}
use Rattle.kq_store_column_view.specs.declared.vector.Vector.{Vector}
use Rattle.kq_eval_columns.specs.declared.choices.Branch.{Branch}
use Rattle.kq_eval_columns.proofs.Arguments.{two-beside, fronted-push}

-- ---- all arguments

-- a function that doesn't choose looks at all its arguments
pub called_all : (function : Function) (os : List Over) (s : Surroundings) (rows : List (List Value)) → function ≢ f.Iff → function ≢ f.Case → function ≢ f.Coalesce
    → called_over function os s rows ≡ and_then (values_over os s rows) (each (applied function s.now))
called_all f.Iff os s rows i c n = absurd (i refl)
called_all f.Case os s rows i c n = absurd (c refl)
called_all f.Coalesce os s rows i c n = absurd (n refl)
called_all function os s rows i c n = refl

values-next : (es : List Expr) (i : ℕ) (e : Expr) (s : Surroundings) (rows : List (List Value)) → i < length es → e ≡ get_or es i e
    → values_over (map over (drop i es)) s rows ≡ and_then (over e s rows) (λ xs. and_then (values_over (map over (drop (suc i) es)) s rows) (λ rs. each_two (λ x r. Is (x ∷ r)) xs rs))
values-next [] i e s rows h is = absurd (omega arith)
values-next (x ∷ es) zero e s rows h is = ap (λ (d : Expr). and_then (over d s rows) (λ xs. and_then (values_over (map over es) s rows) (λ rs. each_two (λ x r. Is (x ∷ r)) xs rs))) (sym is)
values-next (x ∷ es) (suc i) e s rows h is = values-next es i e s rows (omega arith) is

values-front : (vs : List Vector) (v : Vector) (rest : Computed (List (List Value)))
    → and_then (and_then rest (λ rs. each_two (λ x r. Is (x ∷ r)) (cells_of v) rs)) (λ rs. Is (fronted vs rs)) ≡ and_then rest (λ rs. Is (fronted (vs ++ v ∷ []) rs))
values-front vs v Overflow = refl
values-front vs v (Is rs) = rw (two-beside (cells_of v) rs) (ap Is (sym (fronted-push vs v rs)))

-- the values of one argument more
pub values_more : (whole : Computed (List (List Value))) (es : List Expr) (i : ℕ) (e : Expr) (s : Surroundings) (rows : List (List Value)) (vs : List Vector) (v : Vector)
    → whole ≡ and_then (values_over (map over (drop i es)) s rows) (λ rs. Is (fronted vs rs)) → i < length es → e ≡ get_or es i e → over e s rows ≡ Is (cells_of v)
    → whole ≡ and_then (values_over (map over (drop (suc i) es)) s rows) (λ rs. Is (fronted (vs ++ v ∷ []) rs))
values_more whole es i e s rows vs v inv h is gives =
    inv ∙ rw (values-next es i e s rows h is, gives) (values-front vs v (values_over (map over (drop (suc i) es)) s rows))

-- an overflow of one is that of all
pub values_stop : (whole : Computed (List (List Value))) (es : List Expr) (i : ℕ) (e : Expr) (s : Surroundings) (rows : List (List Value)) (vs : List Vector)
    → whole ≡ and_then (values_over (map over (drop i es)) s rows) (λ rs. Is (fronted vs rs)) → i < length es → e ≡ get_or es i e → over e s rows ≡ Overflow → whole ≡ Overflow
values_stop whole es i e s rows vs inv h is stops = inv ∙ rw (values-next es i e s rows h is, stops) refl

-- what a function gives of their columns, it gives of their values
pub applied_at : (f : List Value → Computed Value) (c : Computed (List (List Value))) (vs ws : List Vector) (rows : List (List Value)) (r : Result Vector EvalFault)
    → c ≡ Is (fronted vs (bare rows)) → ws ≡ vs → AnswersAs cells_of (each f (fronted ws (bare rows))) r → AnswersAs cells_of (and_then c (each f)) r
applied_at f c vs ws rows r e same answers = subst (λ o. AnswersAs cells_of o r) (ap (λ xs. each f (fronted xs (bare rows))) same ∙ sym (ap (λ d. and_then d (each f)) e)) answers

-- a fault of a part is one of the whole
pub fails : {A B C D : Type 0} (see : A → B) (view : C → D) (c : Computed B) (d : Computed D) (e : EvalFault) → (c ≡ Overflow → d ≡ Overflow) → AnswersAs see c (Err e) → AnswersAs view d (Err e)
fails see view c d fault.Overflow stops told = stops told
fails see view c d fault.Memory stops told = tt

-- ---- branches

-- what is left where all tests are past
pub last_one : (es : List Expr) (i : ℕ) (e : Expr) → i < length es → length es ≤ i + 1 → e ≡ get_or es i e → drop i es ≡ e ∷ []
last_one [] i e h k is = absurd (omega arith)
last_one (x ∷ []) zero e h k is = ap (λ y. y ∷ []) (sym is)
last_one (x ∷ y ∷ es) zero e h k is = absurd (omega arith)
last_one (x ∷ es) (suc i) e h k is = last_one es i e (omega arith) (omega arith) is

pub merged_push : (bs : List Branch) (b : Branch) (zs : List Value) → merged_by (bs ++ b ∷ []) zs ≡ merged_by bs (merged b.tests.items (cells_of b.values) zs)
merged_push [] b zs = refl
merged_push (c ∷ bs) b zs = ap (merged c.tests.items (cells_of c.values)) (merged_push bs b zs)

-- what is known of each, is known of all
through : {A B C : Type 0} (c : Computed A) (g : A → B) (b : B) (k : B → Computed C) → and_then c (λ v. Is (g v)) ≡ Is b → and_then c (λ v. k (g v)) ≡ k b
through Overflow g b k e = absurd (cc)
through (Is v) g b k e = let same : g v ≡ b = cc in ap k same

stacked : (bs : List Branch) (b : Branch) (rest : Computed (List Value))
    → and_then (and_then rest (λ zs. Is (merged b.tests.items (cells_of b.values) zs))) (λ zs. Is (merged_by bs zs)) ≡ and_then rest (λ zs. Is (merged_by (bs ++ b ∷ []) zs))
stacked bs b Overflow = refl
stacked bs b (Is zs) = ap Is (sym (merged_push bs b zs))

item : (es : List Expr) (i : ℕ) → i < length es → (q : Expr) × (q ≡ get_or es i q)
item [] i h = absurd (omega arith)
item (x ∷ es) zero h = (x, refl)
item (x ∷ es) (suc i) h = item es i (omega arith)

chosen-next : (es : List Expr) (i : ℕ) (p q : Expr) (s : Surroundings) (rows : List (List Value)) → i + 1 < length es → p ≡ get_or es i p → q ≡ get_or es (suc i) q
    → chosen_over (map over (drop i es)) s rows ≡ and_then (over p s rows) (λ vs. choosing (over q s) (chosen_over (map over (drop (suc (suc i)) es)) s) (map is_yes vs) rows)
chosen-next [] i p q s rows h is at = absurd (omega arith)
chosen-next (x ∷ []) i p q s rows h is at = absurd (omega arith)
chosen-next (x ∷ y ∷ es) zero p q s rows h is at = λ j. and_then (over (sym is j) s rows) (λ vs. choosing (over (sym at j) s) (chosen_over (map over es) s) (map is_yes vs) rows)
chosen-next (x ∷ y ∷ es) (suc i) p q s rows h is at = chosen-next (y ∷ es) i p q s rows (omega arith) is at

-- what is left after a test and its value
pub chosen_more : (whole : Computed (List Value)) (es : List Expr) (i : ℕ) (p q : Expr) (s : Surroundings) (rows chosen left : List (List Value)) (bs : List Branch) (b : Branch)
    → whole ≡ and_then (chosen_over (map over (drop i es)) s rows) (λ zs. Is (merged_by bs zs)) → i + 1 < length es → p ≡ get_or es i p → q ≡ get_or es (suc i) q
    → and_then (over p s rows) (λ vs. Is (map is_yes vs)) ≡ Is b.tests.items → chosen ≡ picked b.tests.items rows → over q s chosen ≡ Is (cells_of b.values) → left ≡ picked (map not b.tests.items) rows
    → whole ≡ and_then (chosen_over (map over (drop (suc (suc i)) es)) s left) (λ zs. Is (merged_by (bs ++ b ∷ []) zs))
chosen_more whole es i p q s rows chosen left bs b inv h is at tests those gives others =
    let rest = chosen_over (map over (drop (suc (suc i)) es)) s in
    let ts = b.tests.items in
    let values : over q s (picked ts rows) ≡ Is (cells_of b.values) = ap (over q s) (sym those) ∙ gives in
    let next : chosen_over (map over (drop i es)) s rows ≡ and_then (rest left) (λ zs. Is (merged ts (cells_of b.values) zs)) =
    chosen-next es i p q s rows h is at ∙ through (over p s rows) (map is_yes) ts (λ us. choosing (over q s) rest us rows) tests
    ∙ ap (λ c. and_then c (λ ys. and_then (rest (picked (map not ts) rows)) (λ zs. Is (merged ts ys zs)))) values ∙ ap (λ rs. and_then (rest rs) (λ zs. Is (merged ts (cells_of b.values) zs))) (sym others) in
    inv ∙ ap (λ c. and_then c (λ zs. Is (merged_by bs zs))) next ∙ stacked bs b (rest left)

-- an overflow of a test, or of its value, is that of the whole
through_stops : {A B C : Type 0} (c : Computed A) (g : A → B) (k : B → Computed C) → and_then c (λ v. Is (g v)) ≡ Overflow → and_then c (λ v. k (g v)) ≡ Overflow
through_stops Overflow g k e = refl
through_stops (Is v) g k e = absurd (cc)

pub test_stops : (whole : Computed (List Value)) (es : List Expr) (i : ℕ) (p : Expr) (s : Surroundings) (rows : List (List Value)) (bs : List Branch)
    → whole ≡ and_then (chosen_over (map over (drop i es)) s rows) (λ zs. Is (merged_by bs zs)) → i + 1 < length es → p ≡ get_or es i p
    → and_then (over p s rows) (λ vs. Is (map is_yes vs)) ≡ Overflow → whole ≡ Overflow
test_stops whole es i p s rows bs inv h is stops =
    let q = item es (suc i) (omega arith) in
    let rest = chosen_over (map over (drop (suc (suc i)) es)) s in
    inv ∙ ap (λ c. and_then c (λ zs. Is (merged_by bs zs)))
    (chosen-next es i p q.0 s rows h is q.1 ∙ through_stops (over p s rows) (map is_yes) (λ us. choosing (over q.0 s) rest us rows) stops)

pub value_stops : (whole : Computed (List Value)) (es : List Expr) (i : ℕ) (p q : Expr) (s : Surroundings) (rows : List (List Value)) (ts : List Bool) (bs : List Branch)
    → whole ≡ and_then (chosen_over (map over (drop i es)) s rows) (λ zs. Is (merged_by bs zs)) → i + 1 < length es → p ≡ get_or es i p → q ≡ get_or es (suc i) q
    → and_then (over p s rows) (λ vs. Is (map is_yes vs)) ≡ Is ts → over q s (picked ts rows) ≡ Overflow → whole ≡ Overflow
value_stops whole es i p q s rows ts bs inv h is at tests stops =
    let rest = chosen_over (map over (drop (suc (suc i)) es)) s in
    inv ∙ ap (λ c. and_then c (λ zs. Is (merged_by bs zs)))
    (chosen-next es i p q s rows h is at ∙ through (over p s rows) (map is_yes) ts (λ us. choosing (over q s) rest us rows) tests
    ∙ ap (λ c. and_then c (λ ys. and_then (rest (picked (map not ts) rows)) (λ zs. Is (merged ts ys zs)))) stops)

-- ---- the first that is there

present-next : (es : List Expr) (i : ℕ) (p : Expr) (s : Surroundings) (rows : List (List Value)) → i + 1 < length es → p ≡ get_or es i p
    → present_over (map over (drop i es)) s rows ≡ and_then (over p s rows) (λ vs. keeping (present_over (map over (drop (suc i) es)) s) (map is_present vs) vs rows)
present-next [] i p s rows h is = absurd (omega arith)
present-next (x ∷ []) i p s rows h is = absurd (omega arith)
present-next (x ∷ y ∷ es) zero p s rows h is = λ j. and_then (over (sym is j) s rows) (λ vs. keeping (present_over (map over (y ∷ es)) s) (map is_present vs) vs rows)
present-next (x ∷ y ∷ es) (suc i) p s rows h is = present-next (y ∷ es) i p s rows (omega arith) is

-- what is left after the values that are there
pub present_more : (whole : Computed (List Value)) (es : List Expr) (i : ℕ) (p : Expr) (s : Surroundings) (rows left : List (List Value)) (bs : List Branch) (b : Branch) (vs : List Value)
    → whole ≡ and_then (present_over (map over (drop i es)) s rows) (λ zs. Is (merged_by bs zs)) → i + 1 < length es → p ≡ get_or es i p
    → over p s rows ≡ Is vs → b.tests.items ≡ map is_present vs → cells_of b.values ≡ picked b.tests.items vs → left ≡ picked (map not b.tests.items) rows
    → whole ≡ and_then (present_over (map over (drop (suc i) es)) s left) (λ zs. Is (merged_by (bs ++ b ∷ []) zs))
present_more whole es i p s rows left bs b vs inv h is gives tests kept others =
    let rest = present_over (map over (drop (suc i) es)) s in
    let ts = b.tests.items in
    let next : present_over (map over (drop i es)) s rows ≡ and_then (rest left) (λ zs. Is (merged ts (cells_of b.values) zs)) =
    present-next es i p s rows h is ∙ ap (λ c. and_then c (λ us. keeping rest (map is_present us) us rows)) gives ∙ ap (λ us. keeping rest us vs rows) (sym tests)
    ∙ (λ j. and_then (rest (sym others j)) (λ zs. Is (merged ts (sym kept j) zs))) in
    inv ∙ ap (λ c. and_then c (λ zs. Is (merged_by bs zs))) next ∙ stacked bs b (rest left)

pub present_stops : (whole : Computed (List Value)) (es : List Expr) (i : ℕ) (p : Expr) (s : Surroundings) (rows : List (List Value)) (bs : List Branch)
    → whole ≡ and_then (present_over (map over (drop i es)) s rows) (λ zs. Is (merged_by bs zs)) → i + 1 < length es → p ≡ get_or es i p → over p s rows ≡ Overflow → whole ≡ Overflow
present_stops whole es i p s rows bs inv h is stops =
    inv ∙ ap (λ c. and_then c (λ zs. Is (merged_by bs zs)))
    (present-next es i p s rows h is ∙ ap (λ c. and_then c (λ us. keeping (present_over (map over (drop (suc i) es)) s) (map is_present us) us rows)) stops)

-- the last values behind the branches
pub behind : (c : Computed (List Value)) (bs : List Branch) (last all : List Value) → c ≡ Is last → all ≡ merged_by bs last → and_then c (λ zs. Is (merged_by bs zs)) ≡ Is all
behind c bs last all e m = ap (λ d. and_then d (λ zs. Is (merged_by bs zs))) e ∙ ap Is (sym m)
