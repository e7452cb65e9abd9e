use Rattle.std.proofs.Common.{◌≡◌, ◌+◌, ◌++◌, ◌≤◌, length, map, ap, arith, add-one}
use Rattle.std.proofs.lemmas.List.{length-map}
use Rattle.kq_value.specs.declared.value.Value.TheVariants.{Bool as Truth}
use Rattle.kq_eval_pieces.specs.Pieces.{places_true}
use Rattle.kq_eval_pieces.proofs.Kept.{places_all, truths_step}
use Rattle.kq_eval_pieces.proofs.filter.push_truths.Goals as goal

pub loop-i-init : goal.loop-i-init
loop-i-init c =
    let none : c.args.from ≡ c.args.from + 0 = omega arith in
    ap (λ k. c.args.places.now.items ++ places_true k (map Truth c.args.truths.now)) none

pub loop-i-preserved : goal.loop-i-preserved
loop-i-preserved c =
    rw (c.in_ok-push_if.ensures, add-one) (truths_step _ c.loop-i.places.items c.args.from c.loop-i.i c.args.truths.now (omega arith) c.loop-i.invariant)

pub returns : goal.returns
returns c =
    let truths = c.args.truths.now in
    let n = length-map truths Truth in
    let past : length (map Truth truths) ≤ c.loop-i.i = omega arith in
    places_all _ c.loop-i.places.items c.args.from c.loop-i.i (map Truth truths) past c.loop-i.invariant
