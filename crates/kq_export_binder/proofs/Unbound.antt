-- The binder's faults are those of the body of an export.
use Rattle.std.proofs.Common.{ℕ, List, Err}
use Rattle.kq_bind_expressions.specs.declared.fault.BindFault.{BindFault}
use Rattle.kq_bind_expressions.specs.declared.fault.BindFault.TheVariants as binder
use Rattle.kq_bind_expressions.specs.Verdicts.{AnswersVerdict, Verdict}
use Rattle.kq_read_grammar.specs.Trees.{QueryTree}
use Rattle.kq_plan.specs.Plans.{Planned, planned_of}
use Rattle.kq_export_binder.specs.Answers.{AnswersExport}
use Rattle.kq_export_binder.specs.Faults.{of_binder}

pub unbound_answers : (v : Verdict Planned) (text table : List ℕ) (q : QueryTree) (f : BindFault) → AnswersVerdict planned_of v (Err f) → AnswersExport v text table q (Err (of_binder f))
unbound_answers v text table q (binder.Unsupported at) e = e
unbound_answers v text table q (binder.Unknown at) e = e
unbound_answers v text table q (binder.Mistyped at) e = e
unbound_answers v text table q binder.Memory e = tt
