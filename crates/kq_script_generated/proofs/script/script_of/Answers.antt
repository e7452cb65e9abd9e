use Rattle.std.specs.Prelude.{codes}
use Rattle.kq_script_generated.specs.Commands.{batches, commands_from, rows_from}
use Rattle.kq_script_generated.proofs.Putting.{joined-put}
use Rattle.kq_script_generated.proofs.script.script_of.Goals as goal

pub returns : goal.returns
returns c =
    joined-put (codes "\n\n") _ _ _ _ (codes "\n") c.new-text.result c.extend.new.self c.put_command.new.text c.put_batches.new.text c.put_command-2.new.text c.put_command-3.new.text c.push.new.self (commands_from 1 (batches (rows_from 0 c.args.n)))
    c.new-text.ensures c.in_ok-extend.ensures.ok c.in_ok-put_command.ensures c.in_ok-put_batches.ensures c.in_ok-put_command-2.ensures c.in_ok-put_command-3.ensures c.in_ok-push.ensures.ok
