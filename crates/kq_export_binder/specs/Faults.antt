-- The faults of the binder, as those of the body of an export.
use Rattle.kq_bind_expressions.specs.declared.fault.BindFault.{BindFault}
use Rattle.kq_bind_expressions.specs.declared.fault.BindFault.TheVariants as binder
use Rattle.kq_export_binder.specs.declared.fault.ExportFault.{ExportFault}
use Rattle.kq_export_binder.specs.declared.fault.ExportFault.TheVariants as fault

abbrev pub of_binder : BindFault → ExportFault
of_binder (binder.Unsupported at) = fault.Unsupported at
of_binder (binder.Unknown at) = fault.Unknown at
of_binder (binder.Mistyped at) = fault.Mistyped at
of_binder binder.Memory = fault.Memory
