use Rattle.std.proofs.Common.{◌≡◌, ℤ, List, rules, subst, w64, to_z, of_z}
use Rattle.std.proofs.lemmas.Int.{to_z-of_z}
use Rattle.kq_plan.specs.Plans.{sorting_of}
use Rattle.kq_eval_row.specs.Val.{surroundings}
use Rattle.kq_run_sort.specs.Answered.{AnswersOne}
use Rattle.kq_run_sort.specs.Orders.{Row, Topped}
use Rattle.kq_run_sort.proofs.Leading.{lead_answers}
use Rattle.kq_run_sort.proofs.leaders.Leaders.first.Goals as goal

pub returns : goal.returns
returns c all lead =
    let k = sorting_of c.args.key.now in
    let same : to_z w64 (of_z w64 c.args.now) ≡ c.args.now = search (rules, to_z-of_z) in
    let topped = subst (λ (z : ℤ). AnswersOne {A = List Row} (Topped c.args.count k (surroundings z c.args.lets.now) c.args.self.now.rows) c.top_rows.result) same c.top_rows.ensures in
    lead_answers c.args.count k (surroundings c.args.now c.args.lets.now) all c.args.self.now c.top_rows.result topped lead
