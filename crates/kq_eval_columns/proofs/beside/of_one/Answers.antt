use Rattle.std.proofs.Common.{◌≡◌, ◌∙◌, map, subst}
use Rattle.std.specs.Prelude.{IfSome}
use Rattle.kq_value.specs.Computed.{Is}
use Rattle.kq_plan_functions.specs.declared.function.Function.TheVariants as f
use Rattle.kq_store_column_view.specs.Vectors.{cells_of}
use Rattle.kq_eval_columns.specs.Seen.{beside_one, truths_of}
use Rattle.kq_eval_columns.proofs.OneValue.{by_function, truths-are}
use Rattle.kq_eval_columns.proofs.beside.of_one.Goals as goal

pub returns-in-Member : goal.returns-in-Member
returns-in-Member c = by_function c.args.function f.Member c.args.value.now (cells_of c.args.column.now) (λ c. map Is (cells_of c)) c.members_of.result c.in-Member.is c.members_of.ensures

pub returns-in-Some : goal.returns-in-Some
returns-in-Some c =
    let tests = subst (λ o. IfSome o (λ ts. beside_one c.args.function c.args.value.now (cells_of c.args.column.now) ≡ truths_of ts.items)) c.in-Some.is c.in_ok-truths-in_default.ensures in
    tests ∙ truths-are c.in-Some.truths.items
