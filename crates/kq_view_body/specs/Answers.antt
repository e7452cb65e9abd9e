-- What is answered for a view's body.
use Rattle.std.specs.Prelude.{◌≡◌, true, List, Result, Ok, Err}
use Rattle.kq_bind_expressions.specs.Verdicts.{Verdict, unsupported, unknown, mistyped}
use Rattle.kq_view_body.specs.Bodies.{Part, is_body, IsBodyFault}
use Rattle.kq_plan.specs.declared.plan.Plan.{Plan}
use Rattle.kq_plan.specs.Plans.{Planned, planned_of}
use Rattle.kq_view_body.specs.declared.view_fault.ViewFault.{ViewFault}
use Rattle.kq_view_body.specs.declared.view_fault.ViewFault.TheVariants as fault

-- of what a query is bound to, and of its parts: the plan where they are a body's, else the binder's fault, and where it has none the place at which
-- they leave the form
abbrev pub AnswersBody : Verdict Planned → List Part → Result Plan ViewFault → Type 0
AnswersBody v ps (Ok p) = (v ≡ Ok (planned_of p)) × (is_body ps ≡ true)
AnswersBody v ps (Err (fault.Unsupported at)) = v ≡ Err (unsupported at)
AnswersBody v ps (Err (fault.Unknown at)) = v ≡ Err (unknown at)
AnswersBody v ps (Err (fault.Mistyped at)) = v ≡ Err (mistyped at)
AnswersBody v ps (Err (fault.BadView at)) = (p : Planned) × (v ≡ Ok p) × IsBodyFault ps at
AnswersBody v ps (Err fault.Memory) = Unit {0}
