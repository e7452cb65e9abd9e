use Rattle.std.proofs.Common.{◌≡◌, ap, subst, sym, ◌∙◌}
use Rattle.std.specs.Prelude.{IfSome}
use Rattle.kq_eval_columns.specs.Seen.{beside_one, paired, truths_of}
use Rattle.kq_eval_columns.proofs.OneValue.{of_words}
use Rattle.kq_eval_columns.proofs.comparisons.tests_of_words.Goals as goal

pub returns-in-Some : goal.returns-in-Some
returns-in-Some c =
    let told = subst (λ o. IfSome o (λ ts. beside_one c.args.function c.args.value.now c.args.words.now ≡ truths_of ts.items)) c.in-Some.is c.in_ok-truths.ensures in
    of_words (λ us. us.items) (λ x. paired c.args.function x c.args.value.now) c.args.words.now c.deref.result.now c.args.codes.now c.truths_by_code.result (told ∙ ap truths_of (sym c.deref.ensures.value)) c.truths_by_code.ensures
