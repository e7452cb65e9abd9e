-- What is answered for the body of an export.
use Rattle.std.specs.Prelude.{◌≡◌, ℕ, true, false, List, Result, Ok, Err}
use Rattle.kq_bind_expressions.specs.Verdicts.{Verdict, unsupported, unknown, mistyped}
use Rattle.kq_view_body.specs.Exports.{foreign_place}
use Rattle.kq_read_grammar.specs.Trees.{QueryTree}
use Rattle.kq_plan.specs.declared.plan.Plan.{Plan}
use Rattle.kq_plan.specs.Plans.{Planned, planned_of}
use Rattle.kq_export_binder.specs.declared.fault.ExportFault.{ExportFault}
use Rattle.kq_export_binder.specs.declared.fault.ExportFault.TheVariants as fault
use Rattle.kq_export_binder.specs.Bodies.{is_export_body}

-- of what a query is bound to: the plan where it is a body over the table, else the binder's fault, and where it has none the place at which it reads
-- something else
abbrev pub AnswersExport : Verdict Planned → (text table : List ℕ) → QueryTree → Result Plan ExportFault → Type 0
AnswersExport v text table q (Ok p) = (v ≡ Ok (planned_of p)) × (is_export_body table (planned_of p) ≡ true)
AnswersExport v text table q (Err (fault.Unsupported at)) = v ≡ Err (unsupported at)
AnswersExport v text table q (Err (fault.Unknown at)) = v ≡ Err (unknown at)
AnswersExport v text table q (Err (fault.Mistyped at)) = v ≡ Err (mistyped at)
AnswersExport v text table q (Err (fault.BadExport at)) = (p : Planned) × (v ≡ Ok p) × (is_export_body table p ≡ false) × (at ≡ foreign_place text table q)
AnswersExport v text table q (Err fault.Memory) = Unit {0}
