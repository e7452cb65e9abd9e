use Rattle.std.proofs.Common.{◌≡◌, map, rules, arith, true}
use Rattle.std.proofs.lemmas.List.{length-map}
use Rattle.kq_plan.specs.Plans.{stepping_of}
use Rattle.kq_run_plan.proofs.Links.{stretch_more}
use Rattle.kq_run_plan.proofs.stretch.stretch_end.Goals as goal

pub loop-end-preserved : goal.loop-end-preserved
loop-end-preserved c =
    let goes : c.goes_on.result ≡ true = search rules in
    let many = length-map c.args.steps.now stepping_of in
    stretch_more (map stepping_of c.args.steps.now) c.args.unshared.now c.args.at c.loop-end.end c.loop-end.invariant (omega (arith, many, c.loop-end-test.true)) (c.goes_on.ensures goes)
