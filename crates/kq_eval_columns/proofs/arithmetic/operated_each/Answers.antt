use Rattle.std.proofs.Common.{◌≡◌, ◌<◌, length, get_or, pos, [], ◌∷◌, ◌++◌, arith, add-one, rules, w64, FitsSigned}
use Rattle.std.proofs.lemmas.List.{map-append}
use Rattle.std.proofs.lemmas.Int.{to_z-of_z}
use Rattle.kq_value.specs.Computed.{Is}
use Rattle.kq_eval_kernels.specs.Numbers.{of_kind}
use Rattle.kq_eval_columns.specs.Seen.{paired}
use Rattle.kq_eval_columns.proofs.Rows.{map_next}
use Rattle.kq_eval_columns.proofs.arithmetic.operated_each.Goals as goal

pub loop-i-preserved : goal.loop-i-preserved
loop-i-preserved c =
    let zs = c.args.numbers.now in
    let i = c.loop-i.i in
    let kind = c.args.kind in
    let h : i < length zs = omega arith in
    let x = get_or zs i (pos 0) in
    let fx : FitsSigned w64 x = search rules in
    let fz : FitsSigned w64 c.in-Some.number = search rules in
    let p : paired c.args.function (of_kind kind x) c.args.value.now ≡ Is (of_kind kind c.in-Some.number) = simp to_z-of_z at c.in-Some.ensures in
    rw (c.in_ok-push-in-Some.ensures.items, add-one, map-append, to_z-of_z w64 c.in-Some.number fz, map_next (of_kind kind) zs i (pos 0) h, map-append) (λ j. c.loop-i.invariant j ++ p j ∷ [])
