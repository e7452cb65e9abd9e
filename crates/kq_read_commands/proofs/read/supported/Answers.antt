use Rattle.kq_read_commands.proofs.OwnParts.{stands}
use Rattle.kq_read_control.specs.ControlViews.{control_of}
use Rattle.kq_read_commands.proofs.read.supported.Goals as goal

pub unsupported-requires : goal.unsupported-requires
unsupported-requires c = stands c.args.text.now (control_of c.args.control) c.utf8.text c.requires

pub command_in-requires-clause-stands : goal.command_in-requires-clause-stands
command_in-requires-clause-stands c = stands c.args.text.now (control_of c.args.control) c.utf8.text c.requires
