use Rattle.std.proofs.Common.{◌≡◌, ◌<◌, length, get_or, pos, arith, add-one, rules, w64, FitsSigned}
use Rattle.std.specs.Prelude.{◌≢◌, ℤ}
use Rattle.std.proofs.lemmas.List.{map-append}
use Rattle.std.proofs.lemmas.Int.{to_z-of_z}
use Rattle.kq_value.specs.Computed.{Is}
use Rattle.kq_value.specs.declared.value.Value.TheVariants.{Long}
use Rattle.kq_eval_kernels.proofs.Loops.{goes_on, comes_to_end, no_longs, each_two_mapped, each_two_mapped_end}
use Rattle.kq_eval_kernels.proofs.zip.zip_longs.Goals as goal

pub loop-i-preserved : goal.loop-i-preserved
loop-i-preserved g c =
    let xs = c.args.a.now in
    let ys = c.args.b.now in
    let i = c.loop-i.i in
    let h : i < length xs = omega arith in
    let k : i < length ys = omega arith in
    let x = get_or xs i (pos 0) in
    let y = get_or ys i (pos 0) in
    let fx : FitsSigned w64 x = search rules in
    let fy : FitsSigned w64 y = search rules in
    let fz : FitsSigned w64 c.in-Some.z = search rules in
    let f = g.O.LongOperator.operator in
    let p : f (Long x) (Long y) ≡ Is (Long c.in-Some.z) = simp to_z-of_z at c.in-Some.ensures.long in
    rw (c.in_ok-push-in-Some.ensures.items, add-one, map-append, to_z-of_z w64 c.in-Some.z fz) (goes_on _ _ _ _ _ _ c.loop-i.invariant (each_two_mapped Long f (pos 0) (pos 0) xs ys i h k) p)

pub returns-clause-longs : goal.returns-clause-longs
returns-clause-longs g c = comes_to_end _ _ _ c.loop-i.invariant (each_two_mapped_end Long g.O.LongOperator.operator c.args.a.now c.args.b.now c.loop-i.i (omega arith))

pub returns-in-None-clause-none : goal.returns-in-None-clause-none
returns-in-None-clause-none g c =
    let xs = c.args.a.now in
    let ys = c.args.b.now in
    let i = c.loop-i.i in
    let h : i < length xs = omega arith in
    let k : i < length ys = omega arith in
    let x = get_or xs i (pos 0) in
    let y = get_or ys i (pos 0) in
    let fx : FitsSigned w64 x = search rules in
    let fy : FitsSigned w64 y = search rules in
    let f = g.O.LongOperator.operator in
    let none : (z : ℤ) → f (Long x) (Long y) ≢ Is (Long z) = simp to_z-of_z at c.in-None.ensures.none in
    λ zs. no_longs _ _ _ _ c.loop-i.longs.items zs c.loop-i.invariant (each_two_mapped Long f (pos 0) (pos 0) xs ys i h k) none
