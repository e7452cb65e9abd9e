use Rattle.std.proofs.Common.{◌≡◌, ◌-◌, map}
use Rattle.kq_read_expressions.specs.Reading as spec
use Rattle.kq_read_grammar.specs.Precedences.{step_sign}
use Rattle.kq_read_grammar.specs.Views.{step_of}
use Rattle.kq_read_symbols.specs.Classes.{of}
use Rattle.kq_read_symbols.specs.Forms.{many, with_front}
use Rattle.kq_read_expressions.proofs.nesting.Reader.steps.Given as goal

abbrev pub invariant-loop-turn : goal.invariant-loop-turn
invariant-loop-turn g l =
    with_front (map step_of l.fn.found.items) (many (of step_sign) (spec.step (spec.expression l.fn.self.budget) l.fn.self.turns) l.fn.self.turns l.fn.cursor)
    ≡ with_front (map step_of l.found.items) (many (of step_sign) (spec.step (spec.expression l.fn.self.budget) l.fn.self.turns) (l.fn.self.turns - l._turn) l.cursor)
