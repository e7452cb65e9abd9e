use Rattle.kq_script_blocks.proofs.Readers.{ReadsItem-again}
use Rattle.kq_script_blocks.proofs.reader.ScriptReader.next_command.Goals as goal

pub returns-in-Ended-clause-reads : goal.returns-in-Ended-clause-reads
returns-in-Ended-clause-reads g c = λ command input first taken given h. ReadsItem-again command input c.args.self.now _ first (g.S.Source.told c.args.source.now) taken given c.in-Ended.is h
