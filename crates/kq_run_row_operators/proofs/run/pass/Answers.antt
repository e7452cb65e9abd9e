use Rattle.std.proofs.Common.{◌≡◌, ◌<◌, ℤ, length, get_or, map, rules, arith, subst, sym, ap, ◌∙◌, w64, to_z, of_z}
use Rattle.std.proofs.lemmas.Int.{to_z-of_z}
use Rattle.std.proofs.lemmas.List.{get_or-map, length-map}
use Rattle.kq_eval_pieces.specs.kq_eval_row.Val.{surroundings}
use Rattle.kq_run_row_operators.specs.Operators.{applied, rowwise_of}
use Rattle.kq_run_row_operators.specs.Pieces.{rows_in}
use Rattle.kq_run_row_operators.specs.Ran.{failed, ran}
use Rattle.kq_run_row_operators.proofs.Faults.{overflowed}
use Rattle.kq_run_row_operators.proofs.Laws.{breaks_off, goes_on}
use Rattle.kq_run_row_operators.proofs.Widths.{applied_even}
use Rattle.kq_run_row_operators.proofs.run.pass.Goals as goal

pub returns-in-Err-Overflow : goal.returns-in-Err-Overflow
returns-in-Err-Overflow g c =
    let again = to_z w64 (of_z w64 c.args.now) in
    let same : again ≡ c.args.now = search (rules, to_z-of_z) in
    let see = rows_in g.R.Relation.rows in
    let operators = c.args.operators.now in
    let os = map rowwise_of operators in
    let s = surroundings again c.args.lets.now in
    let i = c.loop-i.i in
    let o = rowwise_of c.index-operators-i.result in
    let within : i < length operators = omega arith in
    let inside : i < length os = let n = length-map operators rowwise_of in omega (arith, n, within) in
    let is : o ≡ get_or os i o = ap rowwise_of c.index-operators-i.is ∙ sym (get_or-map rowwise_of operators i c.index-operators-i.result o within) in
    let rows = rows_in g.R.Relation.rows c.loop-i.so_far in
    let over = overflowed see (applied o s rows) c.in-Err-Overflow.field-0 c.in-Err-Overflow.field-0-is c.in-Err-Overflow.ensures in
    subst (λ (z : ℤ). failed i ≡ ran os (surroundings z c.args.lets.now) (rows_in g.R.Relation.rows c.args.piece)) same
    (breaks_off (ran os s (rows_in g.R.Relation.rows c.args.piece)) os s i rows c.loop-i.invariant.0 o inside is over)

pub loop-i-preserved : goal.loop-i-preserved
loop-i-preserved g c =
    let s = surroundings (to_z w64 (of_z w64 c.args.now)) c.args.lets.now in
    let operators = c.args.operators.now in
    let os = map rowwise_of operators in
    let i = c.loop-i.i in
    let o = rowwise_of c.index-operators-i.result in
    let within : i < length operators = omega arith in
    let inside : i < length os = let n = length-map operators rowwise_of in omega (arith, n, within) in
    let is : o ≡ get_or os i o = ap rowwise_of c.index-operators-i.is ∙ sym (get_or-map rowwise_of operators i c.index-operators-i.result o within) in
    let rows = rows_in g.R.Relation.rows c.loop-i.so_far in
    let next = rows_in g.R.Relation.rows c.in-Ok.next in (
      goes_on (ran os s (rows_in g.R.Relation.rows c.args.piece)) os s i rows c.loop-i.invariant.0 o next inside is c.in-Ok.ensures,
      applied_even o s rows next c.loop-i.invariant.1 c.in-Ok.ensures,
    )
