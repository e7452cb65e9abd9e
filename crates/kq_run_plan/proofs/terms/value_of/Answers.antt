use Rattle.std.proofs.Common.{◌≡◌, rules, subst, w64, to_z, of_z}
use Rattle.std.proofs.lemmas.Int.{to_z-of_z}
use Rattle.kq_value.specs.Computed.{Answers}
use Rattle.kq_run_gather.proofs.kq_eval_row.Meant.{val_is_meaning}
use Rattle.kq_run_gather.specs.kq_eval_row.Val.{Meaning, surroundings}
use Rattle.kq_run_plan.proofs.terms.value_of.Goals as goal

pub returns : goal.returns
returns c =
    let same : to_z w64 (of_z w64 c.args.now) ≡ c.args.now = search (rules, to_z-of_z) in
    subst (λ (m : Meaning). Answers (m (surroundings c.args.now c.args.lets.now) c.args.row.now) c.eval.result) (val_is_meaning c.args.expr.now) (rw same at c.eval.ensures)
