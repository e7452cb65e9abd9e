use Rattle.std.proofs.Common.{◌≡◌, ℤ, List, Ok, map, rules, subst, sym, w64, to_z, of_z}
use Rattle.std.specs.Prelude.{Some}
use Rattle.std.proofs.lemmas.Int.{to_z-of_z}
use Rattle.kq_value.specs.Computed.{Is}
use Rattle.kq_run_gather.specs.kq_eval_row.Val.{surroundings}
use Rattle.kq_run_sort.specs.Orders.{Sorted}
use Rattle.kq_plan.specs.Plans.{sorting_of}
use Rattle.kq_run_plan.specs.Outcomes.{Row}
use Rattle.kq_run_plan.specs.Sorting.{SortsIf}
use Rattle.kq_run_plan.proofs.sorted.sort_held.Goals as goal

pub returns-in-Ok-Some : goal.returns-in-Ok-Some
returns-in-Ok-Some c =
    let same : to_z w64 (of_z w64 c.args.now) ≡ c.args.now = search (rules, to_z-of_z) in
    let ks = map sorting_of c.args.keys.now in
    let s = λ (z : ℤ). surroundings z c.args.lets.now in
    let again = to_z w64 (of_z w64 c.args.now) in
    let rows = c.args.rows.now in
    let is : c.sort_by_one.result ≡ Ok (Some c.in-Ok-Some.sorted) = search (rules, c.in-Ok-Some.is, c.in-Ok-Some.field-0-is, c.in-Ok-Some.sorted-is) in
    let sorted : Sorted ks (s again) rows (Is c.in-Ok-Some.sorted) = subst (SortsIf ks (s again) rows) is c.sort_by_one.ensures in
    subst (λ (z : ℤ). Sorted ks (s z) rows (Is c.framed.result)) same (subst (λ (rs : List Row). Sorted ks (s again) rows (Is rs)) (sym c.framed.ensures) sorted)
