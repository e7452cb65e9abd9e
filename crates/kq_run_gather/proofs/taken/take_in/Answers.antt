use Rattle.std.proofs.Common.{◌≡◌, ℤ, Err, rules, subst, w64, to_z, of_z}
use Rattle.std.specs.List.{All}
use Rattle.std.proofs.lemmas.Int.{to_z-of_z}
use Rattle.kq_run_scan.specs.kq_eval_row.Val.{surroundings}
use Rattle.kq_run_sort.specs.Leading.{Settles, TakesIn}
use Rattle.kq_plan.specs.Plans.{sorting_of}
use Rattle.kq_store_rows.specs.Chunks.{HasWidth}
use Rattle.kq_run_gather.proofs.Led.{advance_lost, advance_settled, whatever}
use Rattle.kq_run_gather.proofs.taken.take_in.Goals as goal

pub returns-in-Ok-clause-takes : goal.returns-in-Ok-clause-takes
returns-in-Ok-clause-takes g c =
    let same : to_z w64 (of_z w64 c.args.now) ≡ c.args.now = search (rules, to_z-of_z) in
    let k = sorting_of c.args.key.now in
    let lets = c.args.lets.now in
    let mid = c.add_piece.new.leaders in
    let settles = subst (λ (z : ℤ). Settles c.args.count k (surroundings z lets) mid c.settle.new.self c.settle.result) same c.settle.ensures.settles in
    let takes = rw same at c.in-Ok.ensures.takes in
    advance_settled c.args.count k (surroundings c.args.now lets) (g.R.Relation.rows c.args.piece) c.args.leaders.now mid c.settle.new.self c.in-Ok.field-0 c.settle.result takes settles

pub returns-in-Ok-clause-wide : goal.returns-in-Ok-clause-wide
returns-in-Ok-clause-wide g c w old piece =
    whatever c.settle.result (All (HasWidth w) c.settle.new.self.rows) (c.settle.ensures.wide w (c.in-Ok.ensures.wide w old piece))

pub returns-clause-takes : goal.returns-clause-takes
returns-clause-takes g c =
    let same : to_z w64 (of_z w64 c.args.now) ≡ c.args.now = search (rules, to_z-of_z) in
    let k = sorting_of c.args.key.now in
    let lets = c.args.lets.now in
    let rows = g.R.Relation.rows c.args.piece in
    let met = c.in-Err.fault in
    let takes = subst (λ (z : ℤ). TakesIn c.args.count k (surroundings z lets) rows c.args.leaders.now c.add_piece.new.leaders (Err met)) same c.in-Err.ensures.takes in
    advance_lost c.args.count k (surroundings c.args.now lets) rows c.args.leaders.now c.add_piece.new.leaders met takes
