use Rattle.std.proofs.Common.{refl, arith}
use Rattle.kq_run_groups.proofs.Merging.{AbsorbsSome-more, same_kind_at, same_length, still_fewer}
use Rattle.kq_run_groups.proofs.merged.absorb_all.Goals as goal

pub loop-i-init : goal.loop-i-init
loop-i-init c = record { done = λ a h. absurd (omega (arith, h)); rest = λ a h. refl }

pub absorb-requires-clause-same : goal.absorb-requires-clause-same
absorb-requires-clause-same c =
    let test = c.loop-i-test.true in
    let long = c.loop-i.auto.states in
    let as_many = same_length c.args.others.now c.args.states.now c.requires.same in
    same_kind_at c.args.others.now c.args.states.now c.loop-i.states c.loop-i.i c.index-others-i.result c.index-states-i.result c.requires.same test (omega (arith, test, long, as_many)) (c.loop-i.invariant.rest c.loop-i.i (omega arith))
    c.index-others-i.is

pub absorb-requires-clause-fewer : goal.absorb-requires-clause-fewer
absorb-requires-clause-fewer c =
    let test = c.loop-i-test.true in
    let long = c.loop-i.auto.states in
    let as_many = same_length c.args.others.now c.args.states.now c.requires.same in
    still_fewer c.args.count c.args.states.now c.loop-i.states c.loop-i.i c.index-states-i.result c.requires.fewer (omega (arith, test, as_many)) (omega (arith, test, long, as_many)) (c.loop-i.invariant.rest c.loop-i.i (omega arith))

pub loop-i-preserved : goal.loop-i-preserved
loop-i-preserved c =
    let test = c.loop-i-test.true in
    let long = c.loop-i.auto.states in
    let as_many = same_length c.args.others.now c.args.states.now c.requires.same in
    AbsorbsSome-more c.args.numbers.now c.args.places.now c.args.others.now c.args.count c.loop-i.i c.args.states.now c.loop-i.states c.index-others-i.result c.index-states-i.result c.absorb.new.states c.loop-i.invariant
    test (omega (arith, test, long, as_many)) c.index-others-i.is c.in_ok-absorb.ensures

pub returns : goal.returns
returns c =
    let test = c.loop-i-test.false in
    let as_many = same_length c.args.others.now c.args.states.now c.requires.same in
    record { each = λ a h. c.loop-i.invariant.done a (omega (arith, h, test, as_many)) }
