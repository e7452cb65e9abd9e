use Rattle.std.proofs.Common.{rules, w64, FitsSigned}
use Rattle.std.proofs.lemmas.Int.{to_z-of_z}
use Rattle.kq_eval_kernels.specs.Numbers.{of_kind}
use Rattle.kq_eval_columns.proofs.OneValue.{tests-are}
use Rattle.kq_eval_columns.proofs.numbers.tests_by.Goals as goal

pub returns : goal.returns
returns g c =
    let fo : FitsSigned w64 c.args.other = search rules in
    tests-are (of_kind c.args.kind) (λ x. g.T.LongTest.test x (of_kind c.args.kind c.args.other)) c.args.numbers.now _ (simp to_z-of_z at c.in_ok-tests_beside.ensures)
