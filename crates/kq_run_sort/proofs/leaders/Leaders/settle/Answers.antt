use Rattle.std.proofs.Common.{◌≡◌, ℤ, Err, IfSome, rules, subst, w64, to_z, of_z}
use Rattle.std.proofs.lemmas.Int.{to_z-of_z}
use Rattle.kq_value.specs.Computed.{Is}
use Rattle.kq_plan.specs.Plans.{sorting_of}
use Rattle.kq_eval_row.specs.Val.{surroundings}
use Rattle.kq_run_sort.specs.Leading.{IsLastKey, Settles}
use Rattle.kq_run_sort.specs.Orders.{Topped}
use Rattle.kq_run_sort.proofs.Leading.{lead_first, lead_lost, lead_wide}
use Rattle.kq_run_sort.proofs.leaders.Leaders.settle.Goals as goal

pub returns-in_ok-bound-in-Ok-clause-settles : goal.returns-in_ok-bound-in-Ok-clause-settles
returns-in_ok-bound-in-Ok-clause-settles c all lead =
    let n = c.args.count in
    let k = sorting_of c.args.key.now in
    let lets = c.args.lets.now in
    let few = c.in-Ok.few in
    let bound = c.in_ok-bound-in-Ok.bound in
    let same : to_z w64 (of_z w64 c.args.now) ≡ c.args.now = search (rules, to_z-of_z) in
    let topped = subst (λ (z : ℤ). Topped n k (surroundings z lets) c.args.self.now.rows (Is few)) same c.in-Ok.ensures in
    let last = subst (λ (z : ℤ). IfSome bound (IsLastKey n k (surroundings z lets) few)) same c.in_ok-bound-in-Ok.ensures in
    lead_first n k (surroundings c.args.now lets) all few bound c.args.self.now topped last lead

pub returns-in-Err-clause-settles : goal.returns-in-Err-clause-settles
returns-in-Err-clause-settles c =
    let n = c.args.count in
    let k = sorting_of c.args.key.now in
    let lets = c.args.lets.now in
    let met = c.in-Err.fault in
    let again = to_z w64 (of_z w64 c.args.now) in
    let same : to_z w64 (of_z w64 c.args.now) ≡ c.args.now = search (rules, to_z-of_z) in
    subst (λ (z : ℤ). Settles n k (surroundings z lets) c.args.self.now c.args.self.now (Err met)) same (lead_lost n k (surroundings again lets) c.args.self.now c.args.self.now met c.in-Err.ensures)

pub returns-in_ok-bound-in-Ok-clause-wide : goal.returns-in_ok-bound-in-Ok-clause-wide
returns-in_ok-bound-in-Ok-clause-wide c w wide =
    let k = sorting_of c.args.key.now in
    lead_wide w c.args.count k (surroundings (to_z w64 (of_z w64 c.args.now)) c.args.lets.now) c.args.self.now.rows c.in-Ok.few c.in-Ok.ensures wide
