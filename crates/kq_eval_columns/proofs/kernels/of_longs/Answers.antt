use Rattle.std.proofs.Common.{map}
use Rattle.kq_value.specs.declared.value.Value.TheVariants.{Long}
use Rattle.kq_plan_functions.specs.declared.function.Function.TheVariants as f
use Rattle.kq_eval_columns.proofs.Pairing.{by_name}
use Rattle.kq_eval_columns.proofs.kernels.of_longs.Goals as goal

pub returns-in-Add : goal.returns-in-Add
returns-in-Add c = by_name c.args.function f.Add (map Long c.args.xs.now) (map Long c.args.ys.now) c.longs_by.result c.in-Add.is c.longs_by.ensures

pub returns-in-Subtract : goal.returns-in-Subtract
returns-in-Subtract c = by_name c.args.function f.Subtract (map Long c.args.xs.now) (map Long c.args.ys.now) c.longs_by-in-Subtract.result c.in-Subtract.is c.longs_by-in-Subtract.ensures

pub returns-in-Multiply : goal.returns-in-Multiply
returns-in-Multiply c = by_name c.args.function f.Multiply (map Long c.args.xs.now) (map Long c.args.ys.now) c.longs_by-in-Multiply.result c.in-Multiply.is c.longs_by-in-Multiply.ensures

pub returns-in-Remainder : goal.returns-in-Remainder
returns-in-Remainder c = by_name c.args.function f.Remainder (map Long c.args.xs.now) (map Long c.args.ys.now) c.longs_by-in-Remainder.result c.in-Remainder.is c.longs_by-in-Remainder.ensures

pub returns-in-Equal : goal.returns-in-Equal
returns-in-Equal c = by_name c.args.function f.Equal (map Long c.args.xs.now) (map Long c.args.ys.now) c.tests_by.result c.in-Equal.is c.tests_by.ensures

pub returns-in-Unequal : goal.returns-in-Unequal
returns-in-Unequal c = by_name c.args.function f.Unequal (map Long c.args.xs.now) (map Long c.args.ys.now) c.tests_by-in-Unequal.result c.in-Unequal.is c.tests_by-in-Unequal.ensures

pub returns-in-Less : goal.returns-in-Less
returns-in-Less c = by_name c.args.function f.Less (map Long c.args.xs.now) (map Long c.args.ys.now) c.tests_by-in-Less.result c.in-Less.is c.tests_by-in-Less.ensures

pub returns-in-AtMost : goal.returns-in-AtMost
returns-in-AtMost c = by_name c.args.function f.AtMost (map Long c.args.xs.now) (map Long c.args.ys.now) c.tests_by-in-AtMost.result c.in-AtMost.is c.tests_by-in-AtMost.ensures

pub returns-in-Greater : goal.returns-in-Greater
returns-in-Greater c = by_name c.args.function f.Greater (map Long c.args.xs.now) (map Long c.args.ys.now) c.tests_by-in-Greater.result c.in-Greater.is c.tests_by-in-Greater.ensures

pub returns-in-AtLeast : goal.returns-in-AtLeast
returns-in-AtLeast c = by_name c.args.function f.AtLeast (map Long c.args.xs.now) (map Long c.args.ys.now) c.tests_by-in-AtLeast.result c.in-AtLeast.is c.tests_by-in-AtLeast.ensures
