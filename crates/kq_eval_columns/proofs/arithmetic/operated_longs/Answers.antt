use Rattle.std.proofs.Common.{map, rules, w64, FitsSigned}
use Rattle.std.proofs.lemmas.Int.{to_z-of_z}
use Rattle.kq_plan_functions.specs.declared.function.Function.TheVariants as f
use Rattle.kq_value.specs.Computed.{Is}
use Rattle.kq_value.specs.declared.value.Value.TheVariants.{Long}
use Rattle.kq_eval_columns.proofs.OneValue.{by_function}
use Rattle.kq_eval_columns.proofs.arithmetic.operated_longs.Goals as goal

pub returns-in-Add : goal.returns-in-Add
returns-in-Add c =
    let fo : FitsSigned w64 c.args.other = search rules in
    by_function c.args.function f.Add (Long c.args.other) (map Long c.args.longs.now) (λ zs. map (λ z. Is (Long z)) zs.items) c.longs_by.result c.in-Add.is (simp to_z-of_z at c.longs_by.ensures)

pub returns-in-Subtract : goal.returns-in-Subtract
returns-in-Subtract c =
    let fo : FitsSigned w64 c.args.other = search rules in
    by_function c.args.function f.Subtract (Long c.args.other) (map Long c.args.longs.now) (λ zs. map (λ z. Is (Long z)) zs.items) c.longs_by-in-Subtract.result c.in-Subtract.is (simp to_z-of_z at c.longs_by-in-Subtract.ensures)

pub returns-in-Multiply : goal.returns-in-Multiply
returns-in-Multiply c =
    let fo : FitsSigned w64 c.args.other = search rules in
    by_function c.args.function f.Multiply (Long c.args.other) (map Long c.args.longs.now) (λ zs. map (λ z. Is (Long z)) zs.items) c.longs_by-in-Multiply.result c.in-Multiply.is (simp to_z-of_z at c.longs_by-in-Multiply.ensures)

pub returns-in-Remainder : goal.returns-in-Remainder
returns-in-Remainder c =
    let fo : FitsSigned w64 c.args.other = search rules in
    by_function c.args.function f.Remainder (Long c.args.other) (map Long c.args.longs.now) (λ zs. map (λ z. Is (Long z)) zs.items) c.longs_by-in-Remainder.result c.in-Remainder.is (simp to_z-of_z at c.longs_by-in-Remainder.ensures)
