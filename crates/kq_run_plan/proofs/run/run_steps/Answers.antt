use Rattle.std.proofs.Common.{◌≡◌, ◌+◌, ◌-◌, ◌++◌, ◌∷◌, [], ℤ, List, map, rules, arith, subst, sym, ◌∙◌, true, false, w64, to_z, of_z}
use Rattle.std.specs.Prelude.{replicate}
use Rattle.std.proofs.lemmas.Int.{to_z-of_z}
use Rattle.kq_plan.specs.Plans.{stepping_of}
use Rattle.kq_value.specs.Typed.{IsMoment}
use Rattle.kq_run_plan.specs.declared.outcome.Outcome.{Outcome}
use Rattle.kq_run_plan.specs.Gives.{Follows}
use Rattle.kq_run_plan.specs.Outcomes.{no_rows}
use Rattle.kq_run_plan.proofs.Links.{IsAt, IsAt-end, IsAt-fault, IsAt-linked, IsAt-more, IsAt-next}
use Rattle.kq_run_plan.proofs.run.run_steps.Goals as goal

pub run_stretch-requires-clause-next : goal.run_stretch-requires-clause-next
run_stretch-requires-clause-next g c =
    let known = g.L.Leaves.known c.args.leaves.now in
    let w = g.L.Leaves.may_give c.args.leaves.now in
    let again = to_z w64 (of_z w64 c.args.now) in
    rw (c.as_slice.ensures.value) (IsAt-next c.args.steps.now c.args.marks.now c.loop-at.at c.stretch_end-end.result c.stretch_end-end.ensures known w again c.args.output c.loop-at.done.items c.loop-at.invariant)

pub run_stretch-requires-clause-linked : goal.run_stretch-requires-clause-linked
run_stretch-requires-clause-linked g c =
    let known = g.L.Leaves.known c.args.leaves.now in
    let w = g.L.Leaves.may_give c.args.leaves.now in
    let again = to_z w64 (of_z w64 c.args.now) in
    rw (c.as_slice.ensures.value) (IsAt-linked c.args.steps.now c.args.marks.now c.loop-at.at c.stretch_end-end.result c.stretch_end-end.ensures known w again c.args.output c.loop-at.done.items c.loop-at.invariant)

pub returns-then-is_fault : goal.returns-then-is_fault
returns-then-is_fault g c =
    let known = g.L.Leaves.known c.args.leaves.now in
    let w = g.L.Leaves.may_give c.args.leaves.now in
    let steps = c.args.steps.now in
    let o = c.in_ok-outcome.outcome in
    let again = to_z w64 (of_z w64 c.args.now) in
    let same : to_z w64 (of_z w64 c.args.now) ≡ c.args.now = search (rules, to_z-of_z) in
    let follows = rw (c.as_slice.ensures.value) at c.in_ok-outcome.ensures in
    let ended = IsAt-fault steps c.args.marks.now c.loop-at.at c.stretch_end-end.result c.stretch_end-end.ensures known w again c.args.output c.loop-at.done.items c.loop-at.invariant o follows (sym c.is_fault.ensures ∙ c.if-is_fault.true) in
    subst (λ (z : ℤ). Follows w z [] [] (map stepping_of steps) c.args.output o) same ended

pub loop-at-preserved : goal.loop-at-preserved
loop-at-preserved g c =
    let known = g.L.Leaves.known c.args.leaves.now in
    let w = g.L.Leaves.may_give c.args.leaves.now in
    let steps = c.args.steps.now in
    let o = c.in_ok-outcome.outcome in
    let end = c.stretch_end-end.result in
    let xs = c.loop-at.done.items in
    let again = to_z w64 (of_z w64 c.args.now) in
    let same : to_z w64 (of_z w64 c.args.now) ≡ c.args.now = search (rules, to_z-of_z) in
    let follows = rw (c.as_slice.ensures.value) at c.in_ok-outcome.ensures in
    let moment = subst IsMoment (sym same) c.requires.moment in
    let more = IsAt-more steps c.args.marks.now c.loop-at.at end c.stretch_end-end.ensures known w again c.args.output xs c.loop-at.invariant o follows moment c.requires.marks (sym c.is_fault.ensures ∙ c.if-is_fault.false) in
    let put : c.push.new.self.items ≡ (xs ++ replicate (end - c.loop-at.at - 1) no_rows) ++ o ∷ [] = search (rules) in
    subst (λ (ys : List Outcome). IsAt known w again steps c.args.output end ys) (sym put) more

pub returns : goal.returns
returns g c =
    let known = g.L.Leaves.known c.args.leaves.now in
    let w = g.L.Leaves.may_give c.args.leaves.now in
    let steps = c.args.steps.now in
    let again = to_z w64 (of_z w64 c.args.now) in
    let same : to_z w64 (of_z w64 c.args.now) ≡ c.args.now = search (rules, to_z-of_z) in
    let ended = IsAt-end known w again steps c.args.output c.loop-at.at c.loop-at.done.items c.take_out.result c.loop-at.invariant (omega (arith, c.loop-at-test.false)) c.take_out.ensures in
    subst (λ (z : ℤ). Follows w z [] [] (map stepping_of steps) c.args.output c.take_out.result) same ended
