-- Part by part over all rows is row by row.
use Rattle.std.proofs.Common.{◌≡◌, Bool, List, [], ◌∷◌, map, sym, ap, ◌∙◌, subst}
use Rattle.std.specs.Prelude.{not}
use Rattle.kq_value.specs.declared.ty.Ty.TheVariants as ty
use Rattle.kq_value.specs.declared.value.Value.{Value}
use Rattle.kq_value.specs.declared.value.Value.TheVariants.{Null}
use Rattle.kq_value.specs.Computed.{Is, and_then, each}
use Rattle.kq_plan_functions.specs.declared.function.Function.{Function}
use Rattle.kq_plan_functions.specs.declared.function.Function.TheVariants as f
use Rattle.kq_plan_expressions.specs.declared.expr.Expr.{Expr}
use Rattle.kq_plan_expressions.specs.declared.expr.Expr.TheOpen.{Expr-F}
use Rattle.kq_plan_expressions.specs.declared.expr.Expr.TheViews.{roll-Expr}
use Rattle.kq_plan_expressions.specs.declared.expr.Expr.TheShapes.{former-Expr-Chain-1-at-2}
use Rattle.kq_plan_expressions.specs.declared.expr.Link.{Link}
use Rattle.kq_plan_expressions.specs.declared.expr.Link.TheVariants as link
use Rattle.kq_plan_expressions.specs.declared.expr.Expr.TheFolds.{ind-Expr, fold-roll-Expr, map-Expr}
use Rattle.kq_value_arithmetic.specs.Logic.{is_yes}
use Rattle.kq_eval_row.specs.kq_value_conversions.Converted.{empty_test}
use Rattle.kq_eval_row.specs.Applied.{applied}
use Rattle.kq_eval_row.specs.Val.{Surroundings, Meaning, val, val_step, values, first_chosen, first_present, called, cell_of}
use Rattle.kq_eval_columns.specs.Choices.{picked, merged, is_present}
use Rattle.kq_eval_columns.specs.Over.{Values, Over, over, over_step, choosing, keeping, chosen_over, present_over, values_over, called_over, linked_over, chained_over}
use Rattle.kq_eval_columns.proofs.Chains.{IsEachOf, linked, chained, chained_is, long_each, with_each}
use Rattle.kq_eval_columns.proofs.Laws.{each_map, each_then, each_both, each_chosen, each_kept}

abbrev pub IsEach : Expr → Type 0
IsEach e = (s : Surroundings) (rows : List (List Value)) → over e s rows ≡ each (val e s) rows

choosing_same : (a b c d : Values) → ((rows : List (List Value)) → a rows ≡ c rows) → ((rows : List (List Value)) → b rows ≡ d rows) → (ts : List Bool) (rows : List (List Value)) → choosing a b ts rows ≡ choosing c d ts rows
choosing_same a b c d p q ts rows = λ j. and_then (p (picked ts rows) j) (λ ys. and_then (q (picked (map not ts) rows) j) (λ zs. Is (merged ts ys zs)))

keeping_same : (a b : Values) → ((rows : List (List Value)) → a rows ≡ b rows) → (ts : List Bool) (vs : List Value) (rows : List (List Value)) → keeping a ts vs rows ≡ keeping b ts vs rows
keeping_same a b p ts vs rows = λ j. and_then (p (picked (map not ts) rows) j) (λ zs. Is (merged ts (picked ts vs) zs))

abbrev Parts : Type 0
Parts = List ((e : Expr) × IsEach e)

abbrev over_all : Parts → List Over
over_all es = map over (map (λ e. e.0) es)

abbrev val_all : Parts → List Meaning
val_all es = map val (map (λ e. e.0) es)

all_values : (es : Parts) (s : Surroundings) (rows : List (List Value)) → values_over (over_all es) s rows ≡ each (values (val_all es) s) rows
all_values [] s rows = sym (each_map (λ (r : List Value). []) rows)
all_values (e ∷ es) s rows = rw (e.1 s rows, all_values es s rows) (sym (each_both (val e.0 s) (values (val_all es) s) (λ x r. Is (x ∷ r)) rows))

all_chosen : (es : Parts) (s : Surroundings) (rows : List (List Value)) → chosen_over (over_all es) s rows ≡ each (first_chosen (val_all es) s) rows
all_chosen [] s rows = sym (each_map (λ (r : List Value). Null ty.Long) rows)
all_chosen (e ∷ []) s rows = e.1 s rows
all_chosen (p ∷ e ∷ es) s rows =
    ap (λ c. and_then c (λ vs. choosing (over e.0 s) (chosen_over (over_all es) s) (map is_yes vs) rows)) (p.1 s rows)
    ∙ (λ j. and_then (each (val p.0 s) rows) (λ vs. choosing_same (over e.0 s) (chosen_over (over_all es) s) (each (val e.0 s)) (each (first_chosen (val_all es) s)) (e.1 s) (all_chosen es s) (map is_yes vs) rows j))
    ∙ sym (each_chosen is_yes (val p.0 s) (val e.0 s) (first_chosen (val_all es) s) rows)

all_present : (es : Parts) (s : Surroundings) (rows : List (List Value)) → present_over (over_all es) s rows ≡ each (first_present (val_all es) s) rows
all_present [] s rows = sym (each_map (λ (r : List Value). Null ty.Long) rows)
all_present (e ∷ []) s rows = e.1 s rows
all_present (p ∷ e ∷ es) s rows =
    ap (λ c. and_then c (λ vs. keeping (present_over (over_all (e ∷ es)) s) (map is_present vs) vs rows)) (p.1 s rows)
    ∙ (λ j. and_then (each (val p.0 s) rows) (λ vs. keeping_same (present_over (over_all (e ∷ es)) s) (each (first_present (val_all (e ∷ es)) s)) (all_present (e ∷ es) s) (map is_present vs) vs rows j))
    ∙ sym (each_kept (λ v. is_yes (empty_test v)) (val p.0 s) (first_present (val_all (e ∷ es)) s) rows)

all_called : (function : Function) (es : Parts) (s : Surroundings) (rows : List (List Value)) → called_over function (over_all es) s rows ≡ each (called function (val_all es) s) rows
all_called f.Iff es s rows = all_chosen es s rows
all_called f.Case es s rows = all_chosen es s rows
all_called f.Coalesce es s rows = all_present es s rows
all_called function es s rows = ap (λ c. and_then c (each (applied function s.now))) (all_values es s rows) ∙ sym (each_then (values (val_all es) s) (applied function s.now) rows)

chain_each : (o : Over) (m : Meaning) → IsEachOf o m → (ls : List (Link ((e : Expr) × IsEach e)))
    → IsEachOf (chained_over o (map (former-Expr-Chain-1-at-2.map Expr Over over) (map (former-Expr-Chain-1-at-2.map ((e : Expr) × IsEach e) Expr (λ e. e.0)) ls)))
    (chained m (map (former-Expr-Chain-1-at-2.map Expr Meaning val) (map (former-Expr-Chain-1-at-2.map ((e : Expr) × IsEach e) Expr (λ e. e.0)) ls)))
chain_each o m is [] = is
chain_each o m is (link.ToLong ∷ ls) = chain_each (linked_over o link.ToLong) (linked m link.ToLong) (long_each o m is) ls
chain_each o m is (link.With q e ∷ ls) = chain_each (linked_over o (link.With q (over e.0))) (linked m (link.With q (val e.0))) (with_each q o (over e.0) m (val e.0) is e.1) ls

level : (y : Expr-F ((e : Expr) × IsEach e)) (s : Surroundings) (rows : List (List Value))
    → over_step (map-Expr Expr Over over (map-Expr ((e : Expr) × IsEach e) Expr (λ e. e.0) y)) s rows
    ≡ each (val_step (map-Expr Expr Meaning val (map-Expr ((e : Expr) × IsEach e) Expr (λ e. e.0) y)) s) rows
level (Expr-F.Literal v) s rows = sym (each_map (λ (r : List Value). v) rows)
level (Expr-F.Column i) s rows = sym (each_map (λ (r : List Value). cell_of r i) rows)
level (Expr-F.Cell i) s rows = sym (each_map (λ (r : List Value). cell_of s.lets i) rows)
level (Expr-F.Call function args) s rows = all_called function args.items s rows
level (Expr-F.Chain e ls) s rows =
    let links = map (former-Expr-Chain-1-at-2.map Expr Meaning val) (map (former-Expr-Chain-1-at-2.map ((e : Expr) × IsEach e) Expr (λ e. e.0)) ls.items) in
    chain_each (over e.value.0) (val e.value.0) e.value.1 ls.items s rows ∙ (λ j. each (λ r. sym (chained_is (val e.value.0) links s r) j) rows)

here : (y : Expr-F ((e : Expr) × IsEach e)) → IsEach (roll-Expr (map-Expr ((e : Expr) × IsEach e) Expr (λ e. e.0) y))
here y s rows =
    let x = map-Expr ((e : Expr) × IsEach e) Expr (λ e. e.0) y in
    ap (λ (o : Over). o s rows) (fold-roll-Expr Over over_step x) ∙ level y s rows ∙ ap (λ (m : Meaning). each (m s) rows) (sym (fold-roll-Expr Meaning val_step x))

pub over_is_each : (e : Expr) → IsEach e
over_is_each = ind-Expr IsEach (λ x y is. subst (λ (z : Expr-F Expr). IsEach (roll-Expr z)) is (here y))
