use Rattle.std.proofs.Common.{◌≡◌, ◌∙◌, ◌+◌, ◌-◌, ℤ, IfOk, length, map, rules, subst, sym, w64, to_z, of_z}
use Rattle.std.proofs.lemmas.Int.{to_z-of_z}
use Rattle.std.proofs.lemmas.Result.{IfOk-weaker}
use Rattle.kq_plan.specs.Plans.{stepping_of}
use Rattle.kq_run_plan.specs.Gives.{Follows}
use Rattle.kq_run_plan.proofs.Different.{last_fields}
use Rattle.kq_run_plan.proofs.Stretched.{stretch_alone, stretch_comes}
use Rattle.kq_run_plan.proofs.stretch.run_stretch.Goals as goal

pub flow_from-requires-clause-columns : goal.flow_from-requires-clause-columns
flow_from-requires-clause-columns g c = last_fields (g.L.Leaves.known c.args.leaves.now) (map stepping_of c.args.before.now) (map stepping_of c.args.stretch.now) c.requires.next.fits

pub returns-in-Some : goal.returns-in-Some
returns-in-Some g c =
    let w = g.L.Leaves.may_give c.args.leaves.now in
    let before = map stepping_of c.args.before.now in
    let done = c.args.done.now in
    let stretch = c.args.stretch.now in
    let first = c.index-stretch-0.result in
    let again = to_z w64 (of_z w64 c.args.now) in
    let same : to_z w64 (of_z w64 c.args.now) ≡ c.args.now = search (rules, to_z-of_z) in
    let follows = IfOk-weaker c.flow_from.result _ (Follows w again before done (map stepping_of stretch) (length done + (length stretch - 1)))
    (λ o e. stretch_comes w again before done first o stretch c.in-Some.i c.index-stretch-0.is (sym c.input.ensures ∙ c.in-Some.is) c.requires.linked e) c.flow_from.ensures in
    subst (λ (z : ℤ). IfOk c.flow_from.result (Follows w z before done (map stepping_of stretch) (length done + (length stretch - 1)))) same follows

pub returns-in-None : goal.returns-in-None
returns-in-None g c =
    let w = g.L.Leaves.may_give c.args.leaves.now in
    let before = map stepping_of c.args.before.now in
    let done = c.args.done.now in
    let stretch = c.args.stretch.now in
    let first = c.index-stretch-0.result in
    let again = to_z w64 (of_z w64 c.args.now) in
    let same : to_z w64 (of_z w64 c.args.now) ≡ c.args.now = search (rules, to_z-of_z) in
    let follows = IfOk-weaker c.run_step.result _ (Follows w again before done (map stepping_of stretch) (length done + (length stretch - 1)))
    (λ o case. stretch_alone w again before done first o stretch c.index-stretch-0.is (sym c.input.ensures ∙ c.in-None.is) c.requires.linked case) c.run_step.ensures in
    subst (λ (z : ℤ). IfOk c.run_step.result (Follows w z before done (map stepping_of stretch) (length done + (length stretch - 1)))) same follows
