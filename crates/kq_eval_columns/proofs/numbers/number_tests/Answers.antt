use Rattle.std.proofs.Common.{map, rules, w64, FitsSigned}
use Rattle.std.proofs.lemmas.Int.{to_z-of_z}
use Rattle.kq_plan_functions.specs.declared.function.Function.TheVariants as f
use Rattle.kq_eval_kernels.specs.Numbers.{of_kind}
use Rattle.kq_eval_columns.specs.Seen.{truths_of}
use Rattle.kq_eval_columns.proofs.OneValue.{by_function}
use Rattle.kq_eval_columns.proofs.numbers.number_tests.Goals as goal

pub returns-in-Equal : goal.returns-in-Equal
returns-in-Equal c =
    let fo : FitsSigned w64 c.args.other = search rules in
    by_function c.args.function f.Equal (of_kind c.args.kind c.args.other) (map (of_kind c.args.kind) c.args.numbers.now) (λ ts. truths_of ts.items) c.tests_by.result c.in-Equal.is (simp to_z-of_z at c.tests_by.ensures)

pub returns-in-Unequal : goal.returns-in-Unequal
returns-in-Unequal c =
    let fo : FitsSigned w64 c.args.other = search rules in
    by_function c.args.function f.Unequal (of_kind c.args.kind c.args.other) (map (of_kind c.args.kind) c.args.numbers.now) (λ ts. truths_of ts.items) c.tests_by-in-Unequal.result c.in-Unequal.is (simp to_z-of_z at c.tests_by-in-Unequal.ensures)

pub returns-in-Less : goal.returns-in-Less
returns-in-Less c =
    let fo : FitsSigned w64 c.args.other = search rules in
    by_function c.args.function f.Less (of_kind c.args.kind c.args.other) (map (of_kind c.args.kind) c.args.numbers.now) (λ ts. truths_of ts.items) c.tests_by-in-Less.result c.in-Less.is (simp to_z-of_z at c.tests_by-in-Less.ensures)

pub returns-in-AtMost : goal.returns-in-AtMost
returns-in-AtMost c =
    let fo : FitsSigned w64 c.args.other = search rules in
    by_function c.args.function f.AtMost (of_kind c.args.kind c.args.other) (map (of_kind c.args.kind) c.args.numbers.now) (λ ts. truths_of ts.items) c.tests_by-in-AtMost.result c.in-AtMost.is (simp to_z-of_z at c.tests_by-in-AtMost.ensures)

pub returns-in-Greater : goal.returns-in-Greater
returns-in-Greater c =
    let fo : FitsSigned w64 c.args.other = search rules in
    by_function c.args.function f.Greater (of_kind c.args.kind c.args.other) (map (of_kind c.args.kind) c.args.numbers.now) (λ ts. truths_of ts.items) c.tests_by-in-Greater.result c.in-Greater.is (simp to_z-of_z at c.tests_by-in-Greater.ensures)

pub returns-in-AtLeast : goal.returns-in-AtLeast
returns-in-AtLeast c =
    let fo : FitsSigned w64 c.args.other = search rules in
    by_function c.args.function f.AtLeast (of_kind c.args.kind c.args.other) (map (of_kind c.args.kind) c.args.numbers.now) (λ ts. truths_of ts.items) c.tests_by-in-AtLeast.result c.in-AtLeast.is (simp to_z-of_z at c.tests_by-in-AtLeast.ensures)
