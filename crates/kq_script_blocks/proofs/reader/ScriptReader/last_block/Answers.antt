use Rattle.std.proofs.Common.{refl}
use Rattle.kq_script_blocks.proofs.Readers.{GivesLast-some, GivesLast-none}
use Rattle.kq_script_blocks.proofs.reader.ScriptReader.last_block.Goals as goal
use Rattle.kq_script_blocks.specs.Open.{open_run, open_line}

pub returns-in-Some-clause-gives : goal.returns-in-Some-clause-gives
returns-in-Some-clause-gives c = λ taken given h none. GivesLast-some c.args.self.now c.in-Some.item taken given h none (c.in-Some.ensures.last (open_run h.looked) (open_line h.looked) h.block)

pub returns-in-None-clause-gives : goal.returns-in-None-clause-gives
returns-in-None-clause-gives c = λ taken given h none. (refl, GivesLast-none c.args.self.now taken given h none (c.in-None.ensures.last (open_run h.looked) (open_line h.looked) h.block))
