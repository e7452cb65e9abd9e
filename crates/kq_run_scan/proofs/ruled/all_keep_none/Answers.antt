use Rattle.std.proofs.Common.{◌≡◌, ◌||◌, Bool, map, take, sym, ap, subst, ◌∙◌}
use Rattle.std.proofs.lemmas.List.{take_all}
use Rattle.kq_plan_expressions.specs.declared.expr.Expr.{Expr}
use Rattle.kq_plan_expressions.specs.declared.expr.Link.{Link}
use Rattle.std.proofs.Common.{List}
use Rattle.kq_plan_expressions.specs.Terms.{Term, chained, link_of, linked, term_of}
use Rattle.kq_run_scan.specs.Lent.{extent_of, rows_of}
use Rattle.kq_run_scan.specs.Ruled.{IsJudged, KeepsNone}
use Rattle.kq_run_scan.proofs.Conjunct.{chain_more, link_more}
use Rattle.kq_run_scan.proofs.ruled.all_keep_none.Goals as goal
use Rattle.kq_run_scan.proofs.ruled.all_keep_none.Goals.{then-none, else-none}

pub loop-link-preserved : goal.loop-link-preserved
loop-link-preserved c =
    let rows = rows_of (extent_of c.args.records.now) in
    let first = term_of c.args.first.now in
    let links = c.args.links.now in
    let i = c.loop-link.link-index in
    let link = c.link-item.result in
    let more = c.in-Some-link_judged.more in
    let so_far = chained first (map link_of (take i links)) in
    let joined : (c.loop-link.none || more) ≡ c.if-none.none =
    elim c.if-none.branch [ then-none w ↦ ap (λ (b : Bool). b || more) w.if-none.true ∙ sym (w.none-is ∙ w.if-none.true) | else-none w ↦ ap (λ (b : Bool). b || more) w.if-none.false ∙ sym w.none-is ] in
    let judged = link_more so_far (link_of link) rows c.loop-link.none more c.loop-link.invariant c.in-Some-link_judged.ensures in
    subst (λ (t : Term). IsJudged t rows c.if-none.none) (sym (chain_more first links i link c.loop-link-test.true c.link-item.is)) (subst (IsJudged (linked so_far (link_of link)) rows) joined judged)

pub returns : goal.returns
returns c told =
    let links = c.args.links.now in
    subst (λ (ls : List (Link Expr)). KeepsNone (chained (term_of c.args.first.now) (map link_of ls)) (rows_of (extent_of c.args.records.now))) (take_all c.loop-link.link-index links c.loop-link-test.false)
    (c.loop-link.invariant.none told)
