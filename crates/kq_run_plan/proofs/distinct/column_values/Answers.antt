use Rattle.std.proofs.Common.{◌≡◌, ◌+◌, ◌++◌, ◌∙◌, ◌∷◌, [], ℕ, List, ap, get_or, map, sym, take}
use Rattle.std.proofs.lemmas.List.{map-append, take_more}
use Rattle.kq_plan_expressions.specs.Terms.{Term, column, term_of}
use Rattle.kq_plan_expressions.specs.declared.expr.Expr.TheVariants.{Column}
use Rattle.kq_run_gather.proofs.ArgumentColumns.{term_of_column}
use Rattle.kq_run_plan.proofs.distinct.column_values.Goals as goal

pub loop-number-preserved : goal.loop-number-preserved
loop-number-preserved c =
    let all = c.args.columns.now in
    let i = c.loop-number.number-index in
    let one : ℕ = get_or all i 0 in
    let had = c.loop-number.exprs.items in
    let pushed : map term_of c.push.new.self.items ≡ map term_of had ++ column one ∷ [] =
    ap (map term_of) c.in_ok-push.ensures.items ∙ map-append term_of had (Column one ∷ []) ∙ ap (λ (t : Term). map term_of had ++ t ∷ []) (term_of_column one) in
    let taken : map column (take (i + 1) all) ≡ map column (take i all) ++ column one ∷ [] = ap (map column) (take_more all i 0 c.loop-number-test.true) ∙ map-append column (take i all) (one ∷ []) in
    pushed ∙ ap (λ (ts : List Term). ts ++ column one ∷ []) c.loop-number.invariant ∙ sym taken
