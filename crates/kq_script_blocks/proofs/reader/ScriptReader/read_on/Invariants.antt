use Rattle.std.proofs.Common.{◌≡◌, ◌-◌, ℕ, List}
use Rattle.kq_world.specs.Outside.{SourceView}
use Rattle.kq_script_blocks.specs.Script.{Block}
use Rattle.kq_script_blocks.specs.Reading.{IsReading}
use Rattle.kq_script_blocks.specs.declared.reader.Phase.TheVariants as phases
use Rattle.kq_script_blocks.proofs.Readers.{Goes}
use Rattle.kq_script_blocks.proofs.reader.ScriptReader.read_on.Given as goal

abbrev pub invariant-loop-item : goal.invariant-loop-item
invariant-loop-item g l = record {
  phase : l.self.phase ≡ phases.Reading;
  faults : g.S.Source.faults l.source ≡ g.S.Source.faults l.fn.source;
  reads : (command input : ℕ) (first : SourceView) (taken : List ℕ) (given : List Block) → IsReading command input l.fn.self first (g.S.Source.told l.fn.source) taken given
      → Goes command input l.self first (g.S.Source.told l.fn.source) (g.S.Source.told l.source) taken given;
}

abbrev pub decreases-loop-item : goal.decreases-loop-item
decreases-loop-item g l = l.self.input - l.self.taken
