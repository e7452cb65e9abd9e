use Rattle.std.proofs.Common.{◌≡◌, ℕ, ℤ, Err, map, rules, subst, w64, to_z, of_z}
use Rattle.std.specs.Prelude.{IfSome}
use Rattle.std.specs.List.{All, range_with_len}
use Rattle.std.proofs.lemmas.Int.{to_z-of_z}
use Rattle.kq_value.specs.Computed.{AnswersAs, Is, each}
use Rattle.kq_plan_expressions.specs.Terms.{term_of}
use Rattle.kq_run_gather.specs.kq_eval_row.Val.{meaning, surroundings}
use Rattle.kq_run_sort.proofs.Columned.{part_is}
use Rattle.kq_plan.specs.Plans.{sorting_of}
use Rattle.kq_store_rows.specs.Chunks.{HasWidth}
use Rattle.kq_store_column_view.specs.Vectors.{cells_of}
use Rattle.kq_store_column_view.specs.declared.vector.Vector.{Vector}
use Rattle.kq_run_plan.proofs.Parting.{column_at, columns_wide, part_lost}
use Rattle.kq_run_plan.proofs.sorted.part_of.Goals as goal

pub returns-in-Ok-clause-part : goal.returns-in-Ok-clause-part
returns-in-Ok-clause-part g c =
    let same : to_z w64 (of_z w64 c.args.now) ≡ c.args.now = search (rules, to_z-of_z) in
    let rows = g.R.Relation.rows c.args.piece.now in
    let w = c.args.width in
    let wide = subst (λ (n : ℕ). All (HasWidth n) rows) c.if-branch-width.false (c.in_ok-width_of.ensures c.requires.0 c.requires.1) in
    let are = subst (λ o. IfSome o (λ cs. map cells_of cs.items ≡ map (column_at rows) (range_with_len 0 w))) c.in-Some.is c.in_ok-columns.ensures in
    record {
      rows_are = part_is (record { keys = c.in-Ok.keys; columns = c.in-Some.columns }) rows w wide c.in-Ok.ensures.beside are;
      keys_are = subst (λ (z : ℤ). each (meaning (term_of c.args.key.now.value) (surroundings z c.args.lets.now)) rows ≡ Is (cells_of c.in-Ok.keys)) same c.in-Ok.ensures.values;
    }

pub returns-in-Ok-clause-wide : goal.returns-in-Ok-clause-wide
returns-in-Ok-clause-wide g c =
    let rows = g.R.Relation.rows c.args.piece.now in
    let are = subst (λ o. IfSome o (λ cs. map cells_of cs.items ≡ map (column_at rows) (range_with_len 0 c.args.width))) c.in-Some.is c.in_ok-columns.ensures in
    columns_wide rows c.args.width c.in-Some.columns.items are

pub returns-in-Some-clause-part : goal.returns-in-Some-clause-part
returns-in-Some-clause-part g c =
    let same : to_z w64 (of_z w64 c.args.now) ≡ c.args.now = search (rules, to_z-of_z) in
    let rows = g.R.Relation.rows c.args.piece.now in
    let lets = c.args.lets.now in
    let met = c.in-Err.fault in
    let lost = subst (λ (z : ℤ). AnswersAs {A = Vector} cells_of (each (meaning (term_of c.args.key.now.value) (surroundings z lets)) rows) (Err met)) same c.in-Err.ensures.values in
    part_lost (sorting_of c.args.key.now) (surroundings c.args.now lets) rows met lost
