use Rattle.std.proofs.Common.{◌≡◌, ◌<◌, ℤ, length, get_or, pos, [], ◌∷◌, ◌++◌, arith, add-one, rules, w64, FitsSigned, to_z, of_z}
use Rattle.std.proofs.lemmas.List.{map-append}
use Rattle.std.proofs.lemmas.Int.{to_z-of_z}
use Rattle.kq_value.specs.Computed.{Is}
use Rattle.kq_value.specs.declared.value.Value.TheVariants.{Long}
use Rattle.kq_eval_kernels.proofs.Loops.{map_take_more}
use Rattle.kq_eval_kernels.proofs.beside.longs_beside.Goals as goal

pub loop-i-preserved : goal.loop-i-preserved
loop-i-preserved g c =
    let zs = c.args.longs.now in
    let i = c.loop-i.i in
    let h : i < length zs = omega arith in
    let x = get_or zs i (pos 0) in
    let fx : FitsSigned w64 x = search rules in
    let y = to_z w64 (of_z w64 c.args.other) in
    let fz : FitsSigned w64 c.in-Some.z = search rules in
    let f = g.O.LongOperator.operator in
    let p : f (Long x) (Long y) ≡ Is (Long c.in-Some.z) = simp to_z-of_z at c.in-Some.ensures.long in
    rw (c.in_ok-push-in-Some.ensures.items, add-one, map-append, to_z-of_z w64 c.in-Some.z fz, map_take_more (λ (z : ℤ). f (Long z) (Long y)) zs i (pos 0) h) (λ j. c.loop-i.invariant j ++ p j ∷ [])
