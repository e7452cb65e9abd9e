-- Chains over rows.
use Rattle.std.proofs.Common.{◌≡◌, ◌<◌, ℕ, zero, suc, List, [], ◌∷◌, map, length, get_or, drop, Vec, Result, refl, sym, ap, subst, ◌∙◌, arith}
use Rattle.std.specs.declared.alloc.Global.{Global}
use Rattle.std.specs.Prelude.{Box}
use Rattle.kq_value.specs.declared.value.Value.{Value}
use Rattle.kq_value.specs.Computed.{AnswersAs, Computed, Is, Overflow, and_then, each}
use Rattle.kq_value.specs.declared.fault.EvalFault.{EvalFault}
use Rattle.kq_eval_kernels.specs.Pairs.{each_two}
use Rattle.kq_plan_functions.specs.declared.function.Function.{Function}
use Rattle.kq_plan_functions.specs.declared.function.Function.TheVariants as f
use Rattle.kq_plan_expressions.specs.declared.expr.Expr.{Expr}
use Rattle.kq_plan_expressions.specs.declared.expr.Expr.TheOpen.{Expr-F}
use Rattle.kq_plan_expressions.specs.declared.expr.Expr.TheFolds.{fold-roll-Expr}
use Rattle.kq_plan_expressions.specs.declared.expr.Expr.TheVariants.{Chain, rolls-Chain}
use Rattle.kq_plan_expressions.specs.declared.expr.Link.{Link}
use Rattle.kq_plan_expressions.specs.declared.expr.Link.TheVariants as link
use Rattle.kq_plan_expressions.specs.declared.operation.Operation.{Operation}
use Rattle.kq_plan_expressions.specs.declared.operation.Operation.TheVariants as operation
use Rattle.kq_plan_expressions.specs.Operations.{function_of}
use Rattle.kq_plan_expressions.specs.Terms.{mapped}
use Rattle.kq_plan_expressions.proofs.Chains.{all_mapped}
use Rattle.kq_eval_row.specs.Applied.{applied}
use Rattle.kq_eval_row.specs.Val.{Surroundings, Meaning, called, values, links_at}
use Rattle.kq_store_column_view.specs.declared.vector.Vector.{Vector}
use Rattle.kq_store_column_view.specs.Vectors.{cells_of}
use Rattle.kq_eval_columns.specs.Over.{Over, over, over_step, given, linked_over, chained_over, called_over, values_over, bare}
use Rattle.kq_eval_columns.specs.Seen.{beside, fronted}
use Rattle.kq_eval_columns.proofs.Arguments.{two-beside}
use Rattle.kq_eval_columns.proofs.Laws.{each_map, each_then, each_both}

-- an operation looks at all its arguments
pub looks_over : (q : Operation) (os : List Over) (s : Surroundings) (rows : List (List Value)) → called_over (function_of q) os s rows ≡ and_then (values_over os s rows) (each (applied (function_of q) s.now))
looks_over operation.Or os s rows = refl
looks_over operation.And os s rows = refl
looks_over operation.Add os s rows = refl
looks_over operation.Subtract os s rows = refl
looks_over operation.Multiply os s rows = refl
looks_over operation.Divide os s rows = refl
looks_over operation.Remainder os s rows = refl
looks_over operation.Member os s rows = refl

looks : (q : Operation) (ms : List Meaning) (s : Surroundings) (row : List Value) → called (function_of q) ms s row ≡ and_then (values ms s row) (applied (function_of q) s.now)
looks operation.Or ms s row = refl
looks operation.And ms s row = refl
looks operation.Add ms s row = refl
looks operation.Subtract ms s row = refl
looks operation.Multiply ms s row = refl
looks operation.Divide ms s row = refl
looks operation.Remainder ms s row = refl
looks operation.Member ms s row = refl

-- ---- row by row, a chain is the calls that its links are

abbrev pub linked : Meaning → Link Meaning → Meaning
linked m link.ToLong = called f.ToLong (m ∷ [])
linked m (link.With q n) = called (function_of q) (m ∷ n ∷ [])

abbrev pub chained : Meaning → List (Link Meaning) → Meaning
chained m [] = m
chained m (l ∷ ls) = chained (linked m l) ls

last : (c : Computed Value) → and_then c (λ v. Is v) ≡ c
last Overflow = refl
last (Is v) = refl

alone : (c : Computed Value) (k : List Value → Computed Value) (rest : Value → Computed Value)
    → and_then c (λ v. and_then (k (v ∷ [])) rest) ≡ and_then (and_then (and_then c (λ v. Is (v ∷ []))) k) rest
alone Overflow k rest = refl
alone (Is v) k rest = refl

both : (c d : Computed Value) (k : List Value → Computed Value) (rest : Value → Computed Value)
    → and_then c (λ v. and_then (and_then d (λ w. k (v ∷ w ∷ []))) rest) ≡ and_then (and_then (and_then c (λ v. and_then (and_then d (λ w. Is (w ∷ []))) (λ vs. Is (v ∷ vs)))) k) rest
both Overflow d k rest = refl
both (Is v) Overflow k rest = refl
both (Is v) (Is w) k rest = refl

pub chained_is : (m : Meaning) (ls : List (Link Meaning)) (s : Surroundings) (row : List Value) → and_then (m s row) (links_at ls s row) ≡ chained m ls s row
chained_is m [] s row = last (m s row)
chained_is m (link.ToLong ∷ ls) s row = alone (m s row) (applied f.ToLong s.now) (links_at ls s row) ∙ chained_is (linked m link.ToLong) ls s row
chained_is m (link.With q n ∷ ls) s row =
    let rest = links_at ls s row in
    both (m s row) (n s row) (applied (function_of q) s.now) rest
    ∙ ap (λ c. and_then c rest) (sym (looks q (m ∷ n ∷ []) s row))
    ∙ chained_is (linked m (link.With q n)) ls s row

-- ---- over all rows is row by row

abbrev pub IsEachOf : Over → Meaning → Type 0
IsEachOf o m = (s : Surroundings) (rows : List (List Value)) → o s rows ≡ each (m s) rows

values_of_one : (o : Over) (m : Meaning) → IsEachOf o m → (s : Surroundings) (rows : List (List Value)) → values_over (o ∷ []) s rows ≡ each (values (m ∷ []) s) rows
values_of_one o m is s rows =
    (λ j. and_then (is s rows j) (λ xs. and_then (sym (each_map (λ (r : List Value). []) rows) j) (λ rs. each_two (λ x r. Is (x ∷ r)) xs rs)))
    ∙ sym (each_both (m s) (values [] s) (λ x r. Is (x ∷ r)) rows)

values_of_two : (o p : Over) (m n : Meaning) → IsEachOf o m → IsEachOf p n → (s : Surroundings) (rows : List (List Value)) → values_over (o ∷ p ∷ []) s rows ≡ each (values (m ∷ n ∷ []) s) rows
values_of_two o p m n is same s rows =
    (λ j. and_then (is s rows j) (λ xs. and_then (values_of_one p n same s rows j) (λ rs. each_two (λ x r. Is (x ∷ r)) xs rs)))
    ∙ sym (each_both (m s) (values (n ∷ []) s) (λ x r. Is (x ∷ r)) rows)

pub long_each : (o : Over) (m : Meaning) → IsEachOf o m → IsEachOf (linked_over o link.ToLong) (linked m link.ToLong)
long_each o m is s rows =
    ap (λ c. and_then c (each (applied f.ToLong s.now))) (values_of_one o m is s rows) ∙ sym (each_then (values (m ∷ []) s) (applied f.ToLong s.now) rows)

pub with_each : (q : Operation) (o p : Over) (m n : Meaning) → IsEachOf o m → IsEachOf p n → IsEachOf (linked_over o (link.With q p)) (linked m (link.With q n))
with_each q o p m n is same s rows =
    looks_over q (o ∷ p ∷ []) s rows
    ∙ ap (λ c. and_then c (each (applied (function_of q) s.now))) (values_of_two o p m n is same s rows)
    ∙ sym (each_then (values (m ∷ n ∷ []) s) (applied (function_of q) s.now) rows)
    ∙ (λ j. each (λ r. sym (looks q (m ∷ n ∷ []) s r) j) rows)

-- ---- what a chain is at the values that stand so far

pub over_of_chain : (b : Box Expr Global) (ls : Vec (Link Expr) Global) (s : Surroundings) (rows : List (List Value)) → over (Chain b ls) s rows ≡ chained_over (over b.value) (map (mapped over) ls.items) s rows
over_of_chain b ls s rows =
    ap (λ (e : Expr). over e s rows) (sym (rolls-Chain b ls)) ∙ ap (λ (o : Over). o s rows) (fold-roll-Expr Over over_step (Expr-F.Chain b ls))
    ∙ ap (λ ks. chained_over (over b.value) ks s rows) (all_mapped over ls.items)

linked_same : (o p : Over) (l : Link Over) (s : Surroundings) (rows : List (List Value)) → o s rows ≡ p s rows → linked_over o l s rows ≡ linked_over p l s rows
linked_same o p link.ToLong s rows e = ap (λ c. and_then (and_then c (λ xs. and_then (Is (bare rows)) (λ rs. each_two (λ x r. Is (x ∷ r)) xs rs))) (each (applied f.ToLong s.now))) e
linked_same o p (link.With q n) s rows e =
    looks_over q (o ∷ n ∷ []) s rows
    ∙ ap (λ c. and_then (and_then c (λ xs. and_then (values_over (n ∷ []) s rows) (λ rs. each_two (λ x r. Is (x ∷ r)) xs rs))) (each (applied (function_of q) s.now))) e
    ∙ sym (looks_over q (p ∷ n ∷ []) s rows)

pub chained_same : (o p : Over) (ls : List (Link Over)) (s : Surroundings) (rows : List (List Value)) → o s rows ≡ p s rows → chained_over o ls s rows ≡ chained_over p ls s rows
chained_same o p [] s rows e = e
chained_same o p (l ∷ ls) s rows e = chained_same (linked_over o l) (linked_over p l) ls s rows (linked_same o p l s rows e)

abbrev none : Over
none s rows = Overflow

linked_none : (l : Link Over) (s : Surroundings) (rows : List (List Value)) → linked_over none l s rows ≡ Overflow
linked_none link.ToLong s rows = refl
linked_none (link.With q n) s rows = looks_over q (none ∷ n ∷ []) s rows

chained_none : (ls : List (Link Over)) (s : Surroundings) (rows : List (List Value)) → chained_over none ls s rows ≡ Overflow
chained_none [] s rows = refl
chained_none (l ∷ ls) s rows = chained_same (linked_over none l) none ls s rows (linked_none l s rows) ∙ chained_none ls s rows

-- an overflow is that of the whole chain
pub chained_stops : (o : Over) (ls : List (Link Over)) (s : Surroundings) (rows : List (List Value)) → o s rows ≡ Overflow → chained_over o ls s rows ≡ Overflow
chained_stops o ls s rows e = chained_same o none ls s rows e ∙ chained_none ls s rows

links-drop : (ls : List (Link Expr)) (i : ℕ) (l : Link Expr) → i < length ls → l ≡ get_or ls i l → drop i ls ≡ l ∷ drop (suc i) ls
links-drop [] i l h e = absurd (omega arith)
links-drop (k ∷ ls) zero l h e = ap (λ z. z ∷ ls) (sym e)
links-drop (k ∷ ls) (suc i) l h e = links-drop ls i l (omega arith) e

-- one link more
pub link_next : (whole : Computed (List Value)) (xs ys : List Value) (ls : List (Link Expr)) (i : ℕ) (l : Link Expr) (s : Surroundings) (rows : List (List Value))
    → whole ≡ chained_over (given xs) (map (mapped over) (drop i ls)) s rows → i < length ls → l ≡ get_or ls i l → linked_over (given xs) (mapped over l) s rows ≡ Is ys
    → whole ≡ chained_over (given ys) (map (mapped over) (drop (suc i) ls)) s rows
link_next whole xs ys ls i l s rows inv h is gives =
    inv ∙ ap (λ ks. chained_over (given xs) (map (mapped over) ks) s rows) (links-drop ls i l h is)
    ∙ chained_same (linked_over (given xs) (mapped over l)) (given ys) (map (mapped over) (drop (suc i) ls)) s rows gives

pub link_stops : (whole : Computed (List Value)) (xs : List Value) (ls : List (Link Expr)) (i : ℕ) (l : Link Expr) (s : Surroundings) (rows : List (List Value))
    → whole ≡ chained_over (given xs) (map (mapped over) (drop i ls)) s rows → i < length ls → l ≡ get_or ls i l → linked_over (given xs) (mapped over l) s rows ≡ Overflow
    → whole ≡ Overflow
link_stops whole xs ls i l s rows inv h is gives =
    inv ∙ ap (λ ks. chained_over (given xs) (map (mapped over) ks) s rows) (links-drop ls i l h is)
    ∙ chained_stops (linked_over (given xs) (mapped over l)) (map (mapped over) (drop (suc i) ls)) s rows gives

-- a link is a function at the columns of its arguments
pub linked_long : (v : Vector) (s : Surroundings) (rows : List (List Value)) → linked_over (given (cells_of v)) link.ToLong s rows ≡ each (applied f.ToLong s.now) (fronted (v ∷ []) (bare rows))
linked_long v s rows = ap (λ c. and_then c (each (applied f.ToLong s.now))) (two-beside (cells_of v) (bare rows))

linked_with : (q : Operation) (xs : List Value) (c : Computed (List Value)) (s : Surroundings) (rows : List (List Value))
    → and_then (and_then (and_then c (λ ys. and_then (Is (bare rows)) (λ rs. each_two (λ y r. Is (y ∷ r)) ys rs))) (λ rs. each_two (λ x r. Is (x ∷ r)) xs rs)) (each (applied (function_of q) s.now))
    ≡ and_then c (λ ys. each (applied (function_of q) s.now) (beside xs (beside ys (bare rows))))
linked_with q xs Overflow s rows = refl
linked_with q xs (Is ys) s rows =
    ap (λ c. and_then (and_then c (λ rs. each_two (λ x r. Is (x ∷ r)) xs rs)) (each (applied (function_of q) s.now))) (two-beside ys (bare rows))
    ∙ ap (λ c. and_then c (each (applied (function_of q) s.now))) (two-beside xs (beside ys (bare rows)))

-- what is answered of the values of both, is answered of the link
pub answers_with : (q : Operation) (e : Expr) (l : Link Expr) (g : Function) (xs : List Value) (s : Surroundings) (rows : List (List Value)) (r : Result Vector EvalFault)
    → l ≡ link.With q e → g ≡ function_of q → AnswersAs cells_of (and_then (over e s rows) (λ ys. each (applied g s.now) (beside xs (beside ys (bare rows))))) r
    → AnswersAs cells_of (linked_over (given xs) (mapped over l) s rows) r
answers_with q e l g xs s rows r is named answers =
    subst (λ o. AnswersAs cells_of o r)
    (ap (λ (h : Function). and_then (over e s rows) (λ ys. each (applied h s.now) (beside xs (beside ys (bare rows))))) named
    ∙ sym (ap (λ (k : Link Expr). linked_over (given xs) (mapped over k) s rows) is ∙ looks_over q (given xs ∷ over e ∷ []) s rows ∙ linked_with q xs (over e s rows) s rows)) answers
