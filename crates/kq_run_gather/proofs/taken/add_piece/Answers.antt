use Rattle.std.proofs.Common.{◌≡◌, ℤ, Err, rules, subst, w64, to_z, of_z}
use Rattle.std.proofs.lemmas.Int.{to_z-of_z}
use Rattle.kq_value.specs.Computed.{AnswersAs, Is, each}
use Rattle.kq_plan_expressions.specs.Terms.{term_of}
use Rattle.kq_run_scan.specs.kq_eval_row.Val.{meaning, surroundings}
use Rattle.kq_plan.specs.Plans.{sorting_of}
use Rattle.kq_store_column_view.specs.Vectors.{cells_of}
use Rattle.kq_store_column_view.specs.declared.vector.Vector.{Vector}
use Rattle.kq_run_gather.proofs.Led.{piece_lost}
use Rattle.kq_run_gather.proofs.taken.add_piece.Goals as goal

pub returns-in_ok-add_rows-in-Ok-clause-takes : goal.returns-in_ok-add_rows-in-Ok-clause-takes
returns-in_ok-add_rows-in-Ok-clause-takes g c all lead =
    let same : to_z w64 (of_z w64 c.args.now) ≡ c.args.now = search (rules, to_z-of_z) in
    let rows = g.R.Relation.rows c.args.piece.now in
    let lets = c.args.lets.now in
    let is = subst (λ (z : ℤ). each (meaning (term_of c.args.key.now.value) (surroundings z lets)) rows ≡ Is (cells_of c.in-Ok.values)) same c.in-Ok.ensures.values in
    c.in_ok-add_rows-in-Ok.ensures.lead c.args.count (surroundings c.args.now lets) all is lead

pub returns-in-Err-clause-takes : goal.returns-in-Err-clause-takes
returns-in-Err-clause-takes g c =
    let same : to_z w64 (of_z w64 c.args.now) ≡ c.args.now = search (rules, to_z-of_z) in
    let rows = g.R.Relation.rows c.args.piece.now in
    let lets = c.args.lets.now in
    let met = c.in-Err.fault in
    let lost = subst (λ (z : ℤ). AnswersAs {A = Vector} cells_of (each (meaning (term_of c.args.key.now.value) (surroundings z lets)) rows) (Err met)) same c.in-Err.ensures.values in
    piece_lost c.args.count (sorting_of c.args.key.now) (surroundings c.args.now lets) rows c.args.leaders.now c.args.leaders.now met lost
