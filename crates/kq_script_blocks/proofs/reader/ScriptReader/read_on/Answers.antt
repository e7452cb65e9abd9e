use Rattle.std.proofs.Common.{◌≡◌, ◌∙◌, ◌<◌, arith}
use Rattle.kq_script_blocks.proofs.Readers.{ReadsItem-item, ReadsItem-ended, ReadsItem-fault, ReadsItem-full, Waits-looked, Goes-filled}
use Rattle.kq_script_blocks.proofs.reader.ScriptReader.read_on.Goals as goal

pub returns-in-Some-clause-reads : goal.returns-in-Some-clause-reads
returns-in-Some-clause-reads g c = λ command input first taken given h.
    ReadsItem-item command input c.loop-item.self c.closed_block.new.self c.in-Some.item first (g.S.Source.told c.args.source.now) (g.S.Source.told c.loop-item.source) taken given c.loop-item.invariant.phase c.in-Some.ensures.same c.in-Some.ensures.looks (c.loop-item.invariant.reads command input first taken given h)

pub loop-item-preserved : goal.loop-item-preserved
loop-item-preserved g c = record {
  phase = c.in-Ok.ensures.same.2 ∙ c.in_default.ensures.same.2 ∙ c.loop-item.invariant.phase;
  faults = c.in-Ok.ensures.cause ∙ c.loop-item.invariant.faults;
  reads = λ command input first taken given h.
      let told = g.S.Source.told in
      let waits = Waits-looked command input c.loop-item.self c.closed_block.new.self first (told c.args.source.now) (told c.loop-item.source) taken given c.loop-item.invariant.phase c.in_default.ensures.same c.in_default.ensures.looks c.in_default.ensures.none (c.loop-item.invariant.reads command input first taken given h) in
      let filled = c.in-Ok.ensures in
      let some : 0 < c.in-Ok.field-0 = omega arith in
      Goes-filled command input c.in-Ok.field-0 c.closed_block.new.self c.fill.new.self first (told c.args.source.now) (told c.loop-item.source) (told c.fill.new.source) taken given (filled.same.2 ∙ c.in_default.ensures.same.2 ∙ c.loop-item.invariant.phase) (filled.same.0, filled.same.1) filled.taken filled.piece.0 filled.piece.1 some filled.takes waits;
}

pub returns-in-Ok-eq0-clause-reads : goal.returns-in-Ok-eq0-clause-reads
returns-in-Ok-eq0-clause-reads g c = λ command input first taken given h.
    let told = g.S.Source.told in
    let waits = Waits-looked command input c.loop-item.self c.closed_block.new.self first (told c.args.source.now) (told c.loop-item.source) taken given c.loop-item.invariant.phase c.in_default.ensures.same c.in_default.ensures.looks c.in_default.ensures.none (c.loop-item.invariant.reads command input first taken given h) in
    let filled = c.in-Ok-eq0.ensures in
    let zero : c.in-Ok-eq0.field-0 ≡ 0 = omega arith in
    let room : c.fill.new.self.taken < c.fill.new.self.input = omega (arith, filled.taken, filled.same.1, c.if-self.false, c.closed_block.new.self.within) in
    ReadsItem-ended command input c.in-Ok-eq0.field-0 c.closed_block.new.self c.fill.new.self c.last_block.new.self c.last_block.result first (told c.args.source.now) (told c.loop-item.source) (told c.fill.new.source) taken given (filled.same.0, filled.same.1) filled.taken filled.piece.0 zero filled.takes c.last_block.ensures.same c.last_block.ensures.gives room waits

pub returns-then-self-clause-reads : goal.returns-then-self-clause-reads
returns-then-self-clause-reads g c = λ command input first taken given h.
    let told = g.S.Source.told in
    let waits = Waits-looked command input c.loop-item.self c.closed_block.new.self first (told c.args.source.now) (told c.loop-item.source) taken given c.loop-item.invariant.phase c.in_default.ensures.same c.in_default.ensures.looks c.in_default.ensures.none (c.loop-item.invariant.reads command input first taken given h) in
    ReadsItem-full command input c.closed_block.new.self _ first (told c.args.source.now) (told c.loop-item.source) taken given c.if-self.true waits

pub returns-in-Err-clause-reads : goal.returns-in-Err-clause-reads
returns-in-Err-clause-reads g c = λ command input first taken given h.
    let told = g.S.Source.told in
    let waits = Waits-looked command input c.loop-item.self c.closed_block.new.self first (told c.args.source.now) (told c.loop-item.source) taken given c.loop-item.invariant.phase c.in_default.ensures.same c.in_default.ensures.looks c.in_default.ensures.none (c.loop-item.invariant.reads command input first taken given h) in
    let room : c.closed_block.new.self.taken < c.closed_block.new.self.input = omega (arith, c.if-self.false, c.closed_block.new.self.within) in
    ReadsItem-fault command input c.closed_block.new.self _ first (told c.args.source.now) (told c.loop-item.source) (told c.fill.new.source) taken given c.in-Err.ensures.takes room waits
