use Rattle.std.proofs.Common.{◌≡◌, ◌∙◌, ℤ, List, Err, map, rules, subst, sym, w64, to_z, of_z}
use Rattle.std.proofs.lemmas.Int.{to_z-of_z}
use Rattle.kq_value.specs.Computed.{Is}
use Rattle.kq_run_gather.specs.kq_eval_row.Val.{surroundings}
use Rattle.kq_run_sort.specs.Answered.{AnswersOne}
use Rattle.kq_run_sort.specs.Orders.{Sorted}
use Rattle.kq_plan.specs.Plans.{sorting_of}
use Rattle.kq_run_plan.specs.Outcomes.{Row}
use Rattle.kq_run_plan.proofs.sorted.sort_gathered.Goals as goal

pub returns-in-Ok : goal.returns-in-Ok
returns-in-Ok c =
    let same : to_z w64 (of_z w64 c.args.now) ≡ c.args.now = search (rules, to_z-of_z) in
    let ks = map sorting_of c.args.keys.now in
    let s = λ (z : ℤ). surroundings z c.args.lets.now in
    let again = to_z w64 (of_z w64 c.args.now) in
    let rows : c.rows.result.now ≡ c.args.rows.now = c.rows.ensures ∙ c.in_ok-gathered.ensures in
    let sorted = subst (λ (rs : List Row). Sorted ks (s again) rs (Is c.in-Ok.sorted)) rows c.in-Ok.ensures in
    subst (λ (z : ℤ). Sorted ks (s z) c.args.rows.now (Is c.own.result)) same (subst (λ (rs : List Row). Sorted ks (s again) c.args.rows.now (Is rs)) (sym c.own.ensures) sorted)

pub returns : goal.returns
returns c =
    let same : to_z w64 (of_z w64 c.args.now) ≡ c.args.now = search (rules, to_z-of_z) in
    let ks = map sorting_of c.args.keys.now in
    let s = λ (z : ℤ). surroundings z c.args.lets.now in
    let again = to_z w64 (of_z w64 c.args.now) in
    let met = c.in-Err.fault in
    let rows : c.rows.result.now ≡ c.args.rows.now = c.rows.ensures ∙ c.in_ok-gathered.ensures in
    let lost = subst (λ (rs : List Row). AnswersOne {A = List Row} (Sorted ks (s again) rs) (Err met)) rows c.in-Err.ensures in
    subst (λ (z : ℤ). AnswersOne {A = List Row} (Sorted ks (s z) c.args.rows.now) (Err met)) same lost
