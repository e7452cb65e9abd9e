-- The refusals of the grammar as those of commands.
use Rattle.kq_read_commands.specs.declared.command.CommandFault.{CommandFault}
use Rattle.kq_read_commands.specs.declared.command.CommandFault.TheVariants as fault
use Rattle.kq_read_queries.specs.declared.asking.ParseFault.{ParseFault}
use Rattle.kq_read_queries.specs.declared.asking.ParseFault.TheVariants as parse

abbrev pub fault_of : ParseFault → CommandFault
fault_of (parse.Syntax place) = fault.Syntax place
fault_of (parse.Deep place) = fault.Deep place
fault_of parse.Memory = fault.Memory
