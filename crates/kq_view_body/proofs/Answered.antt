-- What is answered is what the binder and the form answer.
use Rattle.std.proofs.Common.{◌≡◌, List, Ok, Err}
use Rattle.kq_bind_expressions.specs.Verdicts.{Verdict}
use Rattle.kq_view_body.specs.declared.fault.BodyFault.{BodyFault}
use Rattle.kq_view_body.specs.declared.fault.BodyFault.TheVariants as form
use Rattle.kq_view_body.specs.Bodies.{Part, JudgesBody}
use Rattle.kq_plan.specs.Plans.{Planned}
use Rattle.kq_view_body.specs.Answers.{AnswersBody}
use Rattle.kq_view_body.specs.ViewFaults.{of_form}

-- a fault of the form, behind a plan
pub form_answers : (v : Verdict Planned) (ps : List Part) (p : Planned) (f : BodyFault) → v ≡ Ok p → JudgesBody ps (Err f) → AnswersBody v ps (Err (of_form f))
form_answers v ps p (form.BadView at) bound h = (p, bound, h)
