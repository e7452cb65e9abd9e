-- The faults of the reader and of the binder, as those of the query of an entry.
use Rattle.kq_bind_expressions.specs.declared.fault.BindFault.{BindFault}
use Rattle.kq_bind_expressions.specs.declared.fault.BindFault.TheVariants as binder
use Rattle.kq_policy_entries.specs.declared.query_fault.PolicyFault.{PolicyFault}
use Rattle.kq_policy_entries.specs.declared.query_fault.PolicyFault.TheVariants as fault
use Rattle.kq_read_queries.specs.declared.asking.ParseFault.{ParseFault}
use Rattle.kq_read_queries.specs.declared.asking.ParseFault.TheVariants as reader

abbrev pub of_reader : ParseFault → PolicyFault
of_reader (reader.Syntax at) = fault.Query
of_reader (reader.Deep at) = fault.Query
of_reader reader.Memory = fault.Memory

abbrev pub of_binder : BindFault → PolicyFault
of_binder (binder.Unsupported at) = fault.Query
of_binder (binder.Unknown at) = fault.Query
of_binder (binder.Mistyped at) = fault.Query
of_binder binder.Memory = fault.Memory
