use Rattle.std.proofs.Common.{◌≡◌, ℤ, IfOk, rules, subst, w64, to_z, of_z}
use Rattle.std.proofs.lemmas.Int.{to_z-of_z}
use Rattle.kq_run_scan.specs.kq_eval_row.Val.{surroundings}
use Rattle.kq_plan.specs.Plans.{sorting_of}
use Rattle.kq_run_gather.specs.Leading.{AreFirst}
use Rattle.kq_run_gather.proofs.leading.first_of.Goals as goal

pub returns : goal.returns
returns c =
    let t = c.args.asked.now in
    let k = sorting_of t.key.now in
    let lets = t.pipeline.lets.now in
    let again = to_z w64 (of_z w64 t.pipeline.moment) in
    let same : again ≡ t.pipeline.moment = search (rules, to_z-of_z) in
    subst (λ (z : ℤ). IfOk c.told.result (AreFirst t.count k (surroundings z lets) c.args.rows.now)) same (c.told.ensures t.count k (surroundings again lets) c.args.rows.now c.top_rows.ensures)
