use Rattle.kq_script_blocks.specs.Reading.{IsUnclosed}
use Rattle.world_tests.proofs.tests.scripts.is_read.Given as goal

abbrev pub invariant-loop-word : goal.invariant-loop-word
invariant-loop-word l = IsUnclosed l.reader
