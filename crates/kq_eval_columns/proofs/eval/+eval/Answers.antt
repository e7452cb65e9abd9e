use Rattle.std.proofs.Common.{◌≡◌, ◌+◌, suc, Bool, List, [], ◌∷◌, Vec, Global, map, drop, rules, arith, add-one, refl, ap, sym, subst, ◌∙◌}
use Rattle.std.specs.Prelude.{not}
use Rattle.std.proofs.lemmas.Result.{err_from_is_err_and}
use Rattle.kq_value.specs.declared.value.Value.{Value}
use Rattle.kq_value.specs.Computed.{Is, and_then, AnswersAs, each}
use Rattle.kq_value_arithmetic.specs.Logic.{is_yes}
use Rattle.kq_eval_columns.specs.Choices.{picked}
use Rattle.kq_plan_expressions.specs.declared.expr.Expr.{Expr}
use Rattle.kq_plan_expressions.specs.declared.expr.Expr.TheVariants.{Call}
use Rattle.kq_plan_expressions.specs.declared.expr.Link.{Link}
use Rattle.kq_plan_expressions.specs.Terms.{mapped}
use Rattle.kq_plan_functions.specs.declared.function.Function.{Function}
use Rattle.kq_plan_functions.specs.declared.function.Function.TheVariants.{Coalesce, Member, Split}
use Rattle.kq_eval_row.specs.Applied.{applied}
use Rattle.kq_store_column_view.specs.Vectors.{cells_of}
use Rattle.kq_store_column_view.specs.declared.vector.Vector.{Vector}
use Rattle.kq_eval_columns.specs.declared.choices.Branch.{Branch}
use Rattle.kq_eval_columns.specs.Over.{Over, over, bare, given, called_over, chosen_over, present_over, chained_over, linked_over, values_over}
use Rattle.kq_eval_columns.specs.Seen.{all_over, fronted, members_at, merged_by, seen, rows_in}
use Rattle.kq_eval_columns.proofs.Branches.{applied_at, behind, called_all, chosen_more, fails, last_one, present_more, present_stops, test_stops, value_stops, values_more, values_stop}
use Rattle.kq_eval_columns.proofs.Chains.{answers_with, chained_same, chained_stops, linked_long, link_next, link_stops, over_of_chain}
use Rattle.kq_eval_columns.proofs.Loops.{drop_all}
use Rattle.kq_eval_columns.proofs.SplitMembers.{answers_member, answers_split, members_stop, over_of_call, over_of_cell, over_of_column, over_of_literal}
use Rattle.kq_eval_columns.proofs.eval.+eval.Goals as goal

-- ---- each kind of expression

pub eval_over-returns-in-Literal : goal.eval_over-returns-in-Literal
eval_over-returns-in-Literal t c =
    let s = seen c.args.piece in
    let rows = rows_in c.args.piece c.args.places.now in
    subst (λ o. AnswersAs cells_of o c.literal_over.result) (sym (ap (λ (e : Expr). over e s rows) c.in-Literal.is ∙ over_of_literal c.in-Literal.value s rows)) c.literal_over.ensures

pub eval_over-returns-in-Column : goal.eval_over-returns-in-Column
eval_over-returns-in-Column t c =
    let s = seen c.args.piece in
    let rows = rows_in c.args.piece c.args.places.now in
    subst (λ o. AnswersAs cells_of o c.cells_over.result) (sym (ap (λ (e : Expr). over e s rows) c.in-Column.is ∙ over_of_column c.in-Column.j s rows)) c.cells_over.ensures

pub eval_over-returns-in-Cell : goal.eval_over-returns-in-Cell
eval_over-returns-in-Cell t c =
    let s = seen c.args.piece in
    let rows = rows_in c.args.piece c.args.places.now in
    subst (λ o. AnswersAs cells_of o c.let_over.result) (sym (ap (λ (e : Expr). over e s rows) c.in-Cell.is ∙ over_of_cell c.in-Cell.i s rows)) c.let_over.ensures

pub eval_over-returns-in-Call : goal.eval_over-returns-in-Call
eval_over-returns-in-Call t c =
    let s = seen c.args.piece in
    let rows = rows_in c.args.piece c.args.places.now in
    subst (λ o. AnswersAs cells_of o c.eval_call.result) (sym (ap (λ (e : Expr). over e s rows) c.in-Call.is ∙ over_of_call c.in-Call.function c.in-Call.args s rows)) c.eval_call.ensures

pub eval_over-returns-in_ok-values-in-Chain : goal.eval_over-returns-in_ok-values-in-Chain
eval_over-returns-in_ok-values-in-Chain t c =
    let s = seen c.args.piece in
    let rows = rows_in c.args.piece c.args.places.now in
    let links = map (mapped over) c.in-Chain.links.items in
    let first = ap (λ (e : Expr). over e s rows) (sym c.deref.ensures) in
    subst (λ o. AnswersAs cells_of o c.eval_links.result)
    (sym (ap (λ (e : Expr). over e s rows) c.in-Chain.is ∙ over_of_chain c.in-Chain.first c.in-Chain.links s rows
    ∙ chained_same (over c.in-Chain.first.value) (given (cells_of c.in_ok-values-in-Chain.values)) links s rows (first ∙ c.in_ok-values-in-Chain.ensures))) c.eval_links.ensures

pub eval_over-returns-in_err-values-in-Chain : goal.eval_over-returns-in_err-values-in-Chain
eval_over-returns-in_err-values-in-Chain t c =
    let s = seen c.args.piece in
    let rows = rows_in c.args.piece c.args.places.now in
    let first = c.in-Chain.first in
    let same = ap (λ (e : Expr). over e s rows) (sym c.deref.ensures) in
    let whole = ap (λ (e : Expr). over e s rows) c.in-Chain.is ∙ over_of_chain first c.in-Chain.links s rows in
    let p = err_from_is_err_and c.from_residual.result c.from_residual.ensures.1 in
    rw (p.1, p.2)
    (fails cells_of cells_of (over c.deref.result.now s rows) (over c.args.expr.now s rows) c.in_err-values-in-Chain.field-0.0
    (λ stops. whole ∙ chained_stops (over first.value) (map (mapped over) c.in-Chain.links.items) s rows (same ∙ stops)) c.in_err-values-in-Chain.ensures)

-- ---- calls

pub eval_call-returns-in-Coalesce : goal.eval_call-returns-in-Coalesce
eval_call-returns-in-Coalesce t c =
    subst (λ (f : Function). AnswersAs cells_of (called_over f (map over c.args.args.now.items) (seen c.args.piece) (rows_in c.args.piece c.args.places.now)) c.eval_present.result) (sym c.in-Coalesce.is) c.eval_present.ensures

pub eval_call-returns-in-Member : goal.eval_call-returns-in-Member
eval_call-returns-in-Member t c =
    subst (λ (f : Function). AnswersAs cells_of (called_over f (map over c.args.args.now.items) (seen c.args.piece) (rows_in c.args.piece c.args.places.now)) c.eval_member.result) (sym c.in-Member.is) c.eval_member.ensures

pub eval_call-returns-in_default : goal.eval_call-returns-in_default
eval_call-returns-in_default t c =
    let d = c.in_default in
    subst (λ o. AnswersAs cells_of o c.eval_applied.result)
    (sym (called_all c.args.function (map over c.args.args.now.items) (seen c.args.piece) (rows_in c.args.piece c.args.places.now) d.not-Iff d.not-Case d.not-Coalesce)) c.eval_applied.ensures

pub eval_applied-returns : goal.eval_applied-returns
eval_applied-returns t c =
    applied_at (applied c.args.function c.args.piece.now) (all_over c.args.args.now.items c.args.piece c.args.places.now) c.in_ok-vectors.vectors.items c.deref.result.now
    (rows_in c.args.piece c.args.places.now) c.apply_over.result c.in_ok-vectors.ensures c.deref.ensures.value c.apply_over.ensures

pub eval_applied-returns-in_err-vectors : goal.eval_applied-returns-in_err-vectors
eval_applied-returns-in_err-vectors t c =
    let all = all_over c.args.args.now.items c.args.piece c.args.places.now in
    let f = applied c.args.function c.args.piece.now in
    let p = err_from_is_err_and c.from_residual.result c.from_residual.ensures.1 in
    rw (p.1, p.2)
    (fails (λ (vs : Vec Vector Global). fronted vs.items (bare (rows_in c.args.piece c.args.places.now))) cells_of all (and_then all (each f)) c.in_err-vectors.field-0.0
    (λ stops. ap (λ d. and_then d (each f)) stops) c.in_err-vectors.ensures)

pub eval_all-loop-expr-preserved : goal.eval_all-loop-expr-preserved
eval_all-loop-expr-preserved t c =
    rw (c.in_ok-push.ensures.items, add-one)
    (values_more _ c.deref-expr-items.result.now c.loop-expr.expr-index c.expr-item.result (seen c.args.piece) (rows_in c.args.piece c.args.places.now) c.loop-expr.vectors.items c.in_ok-eval_over.field-0
    c.loop-expr.invariant (omega arith) c.expr-item.is c.in_ok-eval_over.ensures)

pub eval_all-returns-in_err-eval_over : goal.eval_all-returns-in_err-eval_over
eval_all-returns-in_err-eval_over t c =
    let s = seen c.args.piece in
    let rows = rows_in c.args.piece c.args.places.now in
    let whole = all_over c.args.exprs.now.items c.args.piece c.args.places.now in
    let e = c.expr-item.result in
    let p = err_from_is_err_and c.from_residual.result c.from_residual.ensures.1 in
    rw (p.1, p.2)
    (fails cells_of (λ (vs : Vec Vector Global). fronted vs.items (bare rows)) (over e s rows) whole c.in_err-eval_over.field-0.0
    (λ stops. values_stop whole c.deref-expr-items.result.now c.loop-expr.expr-index e s rows c.loop-expr.vectors.items c.loop-expr.invariant c.loop-expr-test.true c.expr-item.is stops) c.in_err-eval_over.ensures)

pub eval_all-returns : goal.eval_all-returns
eval_all-returns t c =
    let s = seen c.args.piece in
    let rows = rows_in c.args.piece c.args.places.now in
    c.loop-expr.invariant ∙ ap (λ (es : List Expr). and_then (values_over (map over es) s rows) (λ rs. Is (fronted c.loop-expr.vectors.items rs))) (drop_all c.deref-expr-items.result.now c.loop-expr.expr-index c.loop-expr-test.false)

-- ---- chains

pub eval_link-returns-in-ToLong : goal.eval_link-returns-in-ToLong
eval_link-returns-in-ToLong t c =
    let s = seen c.args.piece in
    let rows = rows_in c.args.piece c.args.places.now in
    let v = c.args.values in
    let gives = subst (λ o. AnswersAs cells_of o c.apply_over.result) (sym (linked_long v s rows)) c.apply_over.ensures in
    subst (λ l. AnswersAs cells_of (linked_over (given (cells_of v)) (mapped over l) s rows) c.apply_over.result) (sym c.in-ToLong.is) gives

pub eval_link-returns-in-With : goal.eval_link-returns-in-With
eval_link-returns-in-With t c =
    let s = seen c.args.piece in
    let rows = rows_in c.args.piece c.args.places.now in
    answers_with c.in-With.operation c.in-With.operand c.args.link.now c.function.result (cells_of c.args.values) s rows c.apply_pair.result c.in-With.is c.function.ensures
    (c.apply_pair.ensures (over c.in-With.operand s rows) c.eval_over-others.ensures)

pub eval_links-loop-link-preserved : goal.eval_links-loop-link-preserved
eval_links-loop-link-preserved t c =
    rw add-one
    (link_next _ (cells_of c.loop-link.values) (cells_of c.in_ok-values.values) c.deref-link-items.result.now c.loop-link.link-index c.link-item.result (seen c.args.piece) (rows_in c.args.piece c.args.places.now)
    c.loop-link.invariant (omega arith) c.link-item.is c.in_ok-values.ensures)

pub eval_links-returns-in_err-values : goal.eval_links-returns-in_err-values
eval_links-returns-in_err-values t c =
    let s = seen c.args.piece in
    let rows = rows_in c.args.piece c.args.places.now in
    let whole = chained_over (given (cells_of c.args.first)) (map (mapped over) c.args.links.now.items) s rows in
    let xs = cells_of c.loop-link.values in
    let l = c.link-item.result in
    let p = err_from_is_err_and c.from_residual.result c.from_residual.ensures.1 in
    rw (p.1, p.2)
    (fails cells_of cells_of (linked_over (given xs) (mapped over l) s rows) whole c.in_err-values.field-0.0
    (λ stops. link_stops whole xs c.deref-link-items.result.now c.loop-link.link-index l s rows c.loop-link.invariant c.loop-link-test.true c.link-item.is stops) c.in_err-values.ensures)

pub eval_links-returns : goal.eval_links-returns
eval_links-returns t c =
    let s = seen c.args.piece in
    let rows = rows_in c.args.piece c.args.places.now in
    c.loop-link.invariant ∙ ap (λ (ls : List (Link Expr)). chained_over (given (cells_of c.loop-link.values)) (map (mapped over) ls) s rows) (drop_all c.deref-link-items.result.now c.loop-link.link-index c.loop-link-test.false)

-- ---- members

pub eval_member-returns-in-Split : goal.eval_member-returns-in-Split
eval_member-returns-in-Split t c =
    let two = ap (λ es. drop 1 es) (sym c.as_slice.ensures.value) ∙ c.in-Some.ensures in
    let texts = c.in-Call.texts in
    let split : c.index.result.now ≡ Call Split texts = first_of (cc (c.in-Call.is, c.in-Split.is), search (rules, c.in-Call.is, c.in-Split.is)) in
    answers_member c.args.exprs.now.items c.index.result.now texts c.in-Some.place.now (seen c.args.piece) (rows_in c.args.piece c.args.places.now) c.eval_split.result two c.index.ensures split c.eval_split.ensures

pub eval_member-returns : goal.eval_member-returns
eval_member-returns t c = c.eval_applied.ensures

pub eval_split-returns : goal.eval_split-returns
eval_split-returns t c =
    answers_split c.args.texts.now.items c.args.place.now c.in_ok-vectors.vectors.items c.deref.result.now (seen c.args.piece) (rows_in c.args.piece c.args.places.now) c.split_members.result
    c.in_ok-vectors.ensures c.deref.ensures.value c.split_members.ensures

pub eval_split-returns-in_err-vectors : goal.eval_split-returns-in_err-vectors
eval_split-returns-in_err-vectors t c =
    let s = seen c.args.piece in
    let rows = rows_in c.args.piece c.args.places.now in
    let split = called_over Split (map over c.args.texts.now.items) in
    let p = err_from_is_err_and c.from_residual.result c.from_residual.ensures.1 in
    rw (p.1, p.2)
    (fails (λ (vs : Vec Vector Global). fronted vs.items (bare rows)) cells_of (all_over c.args.texts.now.items c.args.piece c.args.places.now) (members_at c.args.place.now split s rows) c.in_err-vectors.field-0.0
    (λ stops. members_stop c.args.place.now split s rows (ap (λ d. and_then d (each (applied Split s.now))) stops)) c.in_err-vectors.ensures)

-- ---- branches

pub eval_present-loop-i-preserved : goal.eval_present-loop-i-preserved
eval_present-loop-i-preserved t c =
    let s = seen c.args.piece in
    let rows = rows_in c.args.piece in
    let p = c.index.result.now in
    let gives = ap (λ ps. over p s (rows ps)) (sym c.deref.ensures.value) ∙ c.in_ok-values.ensures in
    let others = c.in_ok-left-2.ensures.left ∙ ap (λ ps. picked (map not c.in_ok-branch.branch.tests.items) (rows ps)) c.deref-in-loop-i.ensures.value in (
      omega arith,
      rw (c.in_ok-left-2.ensures.branches, add-one)
          (present_more _ c.args.exprs.now.items c.loop-i.i p s (rows c.loop-i.left.items) (rows c.in_ok-left-2.left.items) c.loop-i.branches.items c.in_ok-branch.branch _
          c.loop-i.invariant.1 (omega arith) c.index.ensures gives c.in_ok-branch.ensures.tests c.in_ok-branch.ensures.values others),
    )

pub eval_present-returns-in_err-values : goal.eval_present-returns-in_err-values
eval_present-returns-in_err-values t c =
    let s = seen c.args.piece in
    let rows = rows_in c.args.piece in
    let p = c.index.result.now in
    let whole = present_over (map over c.args.exprs.now.items) s (rows c.args.places.now) in
    let r = err_from_is_err_and c.from_residual-in_err-values.result c.from_residual-in_err-values.ensures.1 in
    rw (r.1, r.2)
    (fails cells_of cells_of (over p s (rows c.deref.result.now)) whole c.in_err-values.field-0.0
    (λ stops. present_stops whole c.args.exprs.now.items c.loop-i.i p s (rows c.loop-i.left.items) c.loop-i.branches.items c.loop-i.invariant.1 (omega arith) c.index.ensures
    (ap (λ ps. over p s (rows ps)) (sym c.deref.ensures.value) ∙ stops)) c.in_err-values.ensures)

pub eval_present-returns : goal.eval_present-returns
eval_present-returns t c =
    let s = seen c.args.piece in
    let rows = rows_in c.args.piece in
    let bs = c.loop-i.branches.items in
    subst (λ o. AnswersAs cells_of o c.eval_rest.result)
    (ap (λ ps. and_then (present_over (map over (drop c.loop-i.i c.args.exprs.now.items)) s (rows ps)) (λ zs. Is (merged_by bs zs))) c.deref-2.ensures.value ∙ sym c.loop-i.invariant.1) c.eval_rest.ensures.present

pub eval_chosen-loop-i-preserved : goal.eval_chosen-loop-i-preserved
eval_chosen-loop-i-preserved t c =
    let s = seen c.args.piece in
    let rows = rows_in c.args.piece in
    let p = c.index.result.now in
    let q = c.index-in-loop-i.result.now in
    let b = c.in_ok-branch.branch in
    let two : c.loop-i.i + 2 ≡ suc (suc c.loop-i.i) = omega arith in
    let at = rw add-one at c.index-in-loop-i.ensures in
    let same = ap (λ (ts : Vec Bool Global). ts.items) c.in_ok-branch.ensures.tests in
    let tests = ap (λ ps. and_then (over p s (rows ps)) (λ vs. Is (map is_yes vs))) (sym c.deref.ensures.value) ∙ c.in_ok-tests.ensures ∙ ap Is (sym same) in
    let gives = (λ j. over q s (picked (same j) (rows (sym c.deref-in-loop-i.ensures.value j)))) ∙ c.in_ok-branch.ensures.values in
    let others = c.in_ok-left-2.ensures.left ∙ ap (λ ps. picked (map not b.tests.items) (rows ps)) c.deref-in-loop-i-2.ensures.value in (
      omega arith,
      rw (c.in_ok-left-2.ensures.branches, two)
          (chosen_more _ c.args.exprs.now.items c.loop-i.i p q s (rows c.loop-i.left.items) (picked b.tests.items (rows c.loop-i.left.items)) (rows c.in_ok-left-2.left.items) c.loop-i.branches.items b
          c.loop-i.invariant.1 (omega arith) c.index.ensures at tests refl gives others),
    )

pub eval_chosen-returns : goal.eval_chosen-returns
eval_chosen-returns t c =
    let s = seen c.args.piece in
    let rows = rows_in c.args.piece in
    let bs = c.loop-i.branches.items in
    subst (λ o. AnswersAs cells_of o c.eval_rest.result)
    (ap (λ ps. and_then (chosen_over (map over (drop c.loop-i.i c.args.exprs.now.items)) s (rows ps)) (λ zs. Is (merged_by bs zs))) c.deref-2.ensures.value ∙ sym c.loop-i.invariant.1) c.eval_rest.ensures.chosen

pub eval_chosen-returns-in_err-tests : goal.eval_chosen-returns-in_err-tests
eval_chosen-returns-in_err-tests t c =
    let s = seen c.args.piece in
    let rows = rows_in c.args.piece in
    let p = c.index.result.now in
    let whole = chosen_over (map over c.args.exprs.now.items) s (rows c.args.places.now) in
    let r = err_from_is_err_and c.from_residual-in_err-tests.result c.from_residual-in_err-tests.ensures.1 in
    rw (r.1, r.2)
    (fails (λ (ts : Vec Bool Global). ts.items) cells_of (and_then (over p s (rows c.deref.result.now)) (λ vs. Is (map is_yes vs))) whole c.in_err-tests.field-0.0
    (λ stops. test_stops whole c.args.exprs.now.items c.loop-i.i p s (rows c.loop-i.left.items) c.loop-i.branches.items c.loop-i.invariant.1 (omega arith) c.index.ensures
    (ap (λ ps. and_then (over p s (rows ps)) (λ vs. Is (map is_yes vs))) (sym c.deref.ensures.value) ∙ stops)) c.in_err-tests.ensures)

pub eval_chosen-returns-in_err-branch : goal.eval_chosen-returns-in_err-branch
eval_chosen-returns-in_err-branch t c =
    let s = seen c.args.piece in
    let rows = rows_in c.args.piece in
    let p = c.index.result.now in
    let q = c.index-in-loop-i.result.now in
    let ts = c.in_ok-tests.tests.items in
    let at = rw add-one at c.index-in-loop-i.ensures in
    let whole = chosen_over (map over c.args.exprs.now.items) s (rows c.args.places.now) in
    let tests = ap (λ ps. and_then (over p s (rows ps)) (λ vs. Is (map is_yes vs))) (sym c.deref.ensures.value) ∙ c.in_ok-tests.ensures in
    let r = err_from_is_err_and c.from_residual-in_err-branch.result c.from_residual-in_err-branch.ensures.1 in
    rw (r.1, r.2)
    (fails (λ (b : Branch). cells_of b.values) cells_of (over q s (picked ts (rows c.deref-in-loop-i.result.now))) whole c.in_err-branch.field-0.0
    (λ stops. value_stops whole c.args.exprs.now.items c.loop-i.i p q s (rows c.loop-i.left.items) ts c.loop-i.branches.items c.loop-i.invariant.1 (omega arith) c.index.ensures at tests
    (ap (λ ps. over q s (picked ts (rows ps))) (sym c.deref-in-loop-i.ensures.value) ∙ stops)) c.in_err-branch.ensures.values)

-- ---- the last values

pub eval_rest-returns-clause-chosen : goal.eval_rest-returns-clause-chosen
eval_rest-returns-clause-chosen t c =
    behind (chosen_over (map over (drop c.args.i c.args.exprs.now.items)) (seen c.args.piece) (rows_in c.args.piece c.args.places.now)) c.args.branches.items (cells_of c.in_ok-last.last) (cells_of c.in_ok-merged_all.field-0)
    c.in_ok-last.ensures.chosen c.in_ok-merged_all.ensures

pub eval_rest-returns-in_err-last-clause-chosen : goal.eval_rest-returns-in_err-last-clause-chosen
eval_rest-returns-in_err-last-clause-chosen t c =
    let rest = chosen_over (map over (drop c.args.i c.args.exprs.now.items)) (seen c.args.piece) (rows_in c.args.piece c.args.places.now) in
    let behind_all = λ (zs : List Value). Is (merged_by c.args.branches.items zs) in
    let p = err_from_is_err_and c.from_residual.result c.from_residual.ensures.1 in
    rw (p.1, p.2) (fails cells_of cells_of rest (and_then rest behind_all) c.in_err-last.field-0.0 (λ stops. ap (λ d. and_then d behind_all) stops) c.in_err-last.ensures.chosen)

pub eval_last-returns-then-i-len-clause-chosen : goal.eval_last-returns-then-i-len-clause-chosen
eval_last-returns-then-i-len-clause-chosen t c =
    let s = seen c.args.piece in
    let rows = rows_in c.args.piece c.args.places.now in
    let one = last_one c.args.exprs.now.items c.args.i c.index.result.now (omega arith) (omega arith) c.index.ensures in
    subst (λ (es : List Expr). AnswersAs cells_of (chosen_over (map over es) s rows) c.eval_over.result) (sym one) c.eval_over.ensures

pub eval_last-returns-else-i-len-clause-chosen : goal.eval_last-returns-else-i-len-clause-chosen
eval_last-returns-else-i-len-clause-chosen t c =
    let s = seen c.args.piece in
    let rows = rows_in c.args.piece c.args.places.now in
    subst (λ (es : List Expr). AnswersAs cells_of (chosen_over (map over es) s rows) c.literal_over.result) (sym (drop_all c.args.exprs.now.items c.args.i (omega arith))) c.literal_over.ensures

pub eval_rest-returns-clause-present : goal.eval_rest-returns-clause-present
eval_rest-returns-clause-present t c =
    behind (present_over (map over (drop c.args.i c.args.exprs.now.items)) (seen c.args.piece) (rows_in c.args.piece c.args.places.now)) c.args.branches.items (cells_of c.in_ok-last.last) (cells_of c.in_ok-merged_all.field-0)
    c.in_ok-last.ensures.present c.in_ok-merged_all.ensures

pub eval_rest-returns-in_err-last-clause-present : goal.eval_rest-returns-in_err-last-clause-present
eval_rest-returns-in_err-last-clause-present t c =
    let rest = present_over (map over (drop c.args.i c.args.exprs.now.items)) (seen c.args.piece) (rows_in c.args.piece c.args.places.now) in
    let behind_all = λ (zs : List Value). Is (merged_by c.args.branches.items zs) in
    let p = err_from_is_err_and c.from_residual.result c.from_residual.ensures.1 in
    rw (p.1, p.2) (fails cells_of cells_of rest (and_then rest behind_all) c.in_err-last.field-0.0 (λ stops. ap (λ d. and_then d behind_all) stops) c.in_err-last.ensures.present)

pub eval_last-returns-then-i-len-clause-present : goal.eval_last-returns-then-i-len-clause-present
eval_last-returns-then-i-len-clause-present t c =
    let s = seen c.args.piece in
    let rows = rows_in c.args.piece c.args.places.now in
    let one = last_one c.args.exprs.now.items c.args.i c.index.result.now (omega arith) (omega arith) c.index.ensures in
    subst (λ (es : List Expr). AnswersAs cells_of (present_over (map over es) s rows) c.eval_over.result) (sym one) c.eval_over.ensures

pub eval_last-returns-else-i-len-clause-present : goal.eval_last-returns-else-i-len-clause-present
eval_last-returns-else-i-len-clause-present t c =
    let s = seen c.args.piece in
    let rows = rows_in c.args.piece c.args.places.now in
    subst (λ (es : List Expr). AnswersAs cells_of (present_over (map over es) s rows) c.literal_over.result) (sym (drop_all c.args.exprs.now.items c.args.i (omega arith))) c.literal_over.ensures
