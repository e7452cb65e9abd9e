use Rattle.std.proofs.Common.{◌<◌, ◌∙◌, pos, length, get_or, arith, rules, w64, FitsSigned}
use Rattle.std.proofs.lemmas.Int.{to_z-of_z}
use Rattle.kq_run_aggregates.proofs.Batches.{TakesIn-numbers}
use Rattle.kq_run_aggregates.proofs.table.Table.step_each_number.Goals as goal

pub loop-i-preserved : goal.loop-i-preserved
loop-i-preserved c =
    let numbers = c.args.numbers.now in
    let i = c.loop-i.i in
    let h : i < length numbers = omega (arith, c.loop-i-test.true, c.requires.along) in
    let fz : FitsSigned w64 (get_or numbers i (pos 0)) = search rules in
    let step = simp to_z-of_z at c.in_ok-step_number.ensures.ok in
    record {
      kind = c.step_number.ensures.kind ∙ c.loop-i.invariant.kind;
      taken = TakesIn-numbers c.args.reading _ _ c.args.groups.now numbers i _ _ _ c.loop-i.invariant.kind c.loop-i-test.true c.requires.along step c.loop-i.invariant.taken;
    }
