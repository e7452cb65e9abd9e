-- The faults of the binder and of the form, as those of a view's body.
use Rattle.kq_bind_expressions.specs.declared.fault.BindFault.{BindFault}
use Rattle.kq_bind_expressions.specs.declared.fault.BindFault.TheVariants as binder
use Rattle.kq_view_body.specs.declared.fault.BodyFault.{BodyFault}
use Rattle.kq_view_body.specs.declared.fault.BodyFault.TheVariants as form
use Rattle.kq_view_body.specs.declared.view_fault.ViewFault.{ViewFault}
use Rattle.kq_view_body.specs.declared.view_fault.ViewFault.TheVariants as fault

abbrev pub of_binder : BindFault → ViewFault
of_binder (binder.Unsupported at) = fault.Unsupported at
of_binder (binder.Unknown at) = fault.Unknown at
of_binder (binder.Mistyped at) = fault.Mistyped at
of_binder binder.Memory = fault.Memory

abbrev pub of_form : BodyFault → ViewFault
of_form (form.BadView at) = fault.BadView at
