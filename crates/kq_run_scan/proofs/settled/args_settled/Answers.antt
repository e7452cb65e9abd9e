use Rattle.std.proofs.Common.{◌≡◌, ◌+◌, ◌++◌, ◌∷◌, [], List, map, take, ap, sym, subst, ◌∙◌}
use Rattle.std.proofs.lemmas.List.{map-append, take_more}
use Rattle.kq_plan_expressions.specs.declared.expr.Expr.{Expr}
use Rattle.kq_plan_expressions.specs.Terms.{Term, term_of}
use Rattle.kq_run_scan.specs.Settled.{MeanAs, seen}
use Rattle.kq_run_scan.proofs.Settling.{mean_more, some_settled}
use Rattle.kq_run_scan.proofs.settled.args_settled.Goals as goal

pub loop-arg-preserved : goal.loop-arg-preserved
loop-arg-preserved c =
    let s = seen c.args.around in
    let args = c.args.args.now in
    let i = c.loop-arg.arg-index in
    let arg = c.arg-item.result in
    let value = c.in-Some.value in
    let old = c.loop-arg.settled.items in
    let one = some_settled s (term_of arg) c.in_ok-value.field-0 value c.in_ok-value.ensures c.in-Some.is in
    let more = mean_more s (map term_of old) (map term_of (take i args)) (term_of value) (term_of arg) c.loop-arg.invariant one in
    let items : map term_of c.push.new.self.items ≡ map term_of old ++ term_of value ∷ [] = ap (map term_of) c.in_ok-push-in-Some.ensures.items ∙ map-append term_of old (value ∷ []) in
    let taken : map term_of (take (i + 1) args) ≡ map term_of (take i args) ++ term_of arg ∷ [] =
    ap (map term_of) (take_more args i arg c.loop-arg-test.true ∙ ap (λ (e : Expr). take i args ++ e ∷ []) (sym c.arg-item.is)) ∙ map-append term_of (take i args) (arg ∷ []) in
    subst (λ (es : List Term). MeanAs s es (map term_of (take (i + 1) args))) (sym items) (subst (λ (ts : List Term). MeanAs s (map term_of old ++ term_of value ∷ []) ts) (sym taken) more)
