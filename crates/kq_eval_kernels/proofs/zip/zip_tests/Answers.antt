use Rattle.std.proofs.Common.{◌≡◌, ◌<◌, length, get_or, pos, arith, add-one, ap, rules, w64, FitsSigned}
use Rattle.std.proofs.lemmas.List.{map-append}
use Rattle.std.proofs.lemmas.Int.{to_z-of_z}
use Rattle.kq_value.specs.Computed.{Is}
use Rattle.kq_value.specs.declared.value.Value.TheVariants.{Long, Bool as Truth}
use Rattle.kq_eval_kernels.specs.Pairs.{without_overflow}
use Rattle.kq_eval_kernels.proofs.Loops.{goes_on, comes_to_end, each_two_mapped, each_two_mapped_end}
use Rattle.kq_eval_kernels.proofs.zip.zip_tests.Goals as goal

pub loop-i-preserved : goal.loop-i-preserved
loop-i-preserved g c =
    let xs = c.args.a.now in
    let ys = c.args.b.now in
    let i = c.loop-i.i in
    let h : i < length xs = omega arith in
    let k : i < length ys = omega arith in
    let x = get_or xs i (pos 0) in
    let y = get_or ys i (pos 0) in
    let fx : FitsSigned w64 x = search rules in
    let fy : FitsSigned w64 y = search rules in
    let test = g.T.LongTest.test in
    let p : test (Long x) (Long y) ≡ Truth c.at.result = simp to_z-of_z at c.at.ensures in
    rw (c.in_ok-push.ensures.items, add-one, map-append) (goes_on _ _ _ _ _ _ c.loop-i.invariant (each_two_mapped Long (without_overflow test) (pos 0) (pos 0) xs ys i h k) (ap Is p))

pub returns : goal.returns
returns g c = comes_to_end _ _ _ c.loop-i.invariant (each_two_mapped_end Long (without_overflow g.T.LongTest.test) c.args.a.now c.args.b.now c.loop-i.i (omega arith))
