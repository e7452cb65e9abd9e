use Rattle.std.proofs.Common.{◌≡◌, true, false, map, sym, ◌∙◌}
use Rattle.std.proofs.lemmas.List.{map_push}
use Rattle.kq_read_expressions.specs.Reading as spec
use Rattle.kq_read_grammar.specs.Precedences.{step_sign}
use Rattle.kq_read_grammar.specs.Views.{step_of}
use Rattle.kq_read_symbols.specs.Classes.{of}
use Rattle.kq_read_symbols.specs.Forms.{many, starts, with_front}
use Rattle.kq_read_symbols.proofs.Turns.{turn_taken, turn_left}
use Rattle.kq_read_expressions.proofs.nesting.Reader.steps.Goals as goal

pub loop-turn-preserved : goal.loop-turn-preserved
loop-turn-preserved g c =
    let lead : starts (of step_sign) c.loop-turn.cursor ≡ true = sym c.sees_step.ensures ∙ c.if-not-sees_step.false in
    let h = turn_taken (of step_sign) (spec.step (spec.expression c.args.self.now.budget) c.args.self.now.turns) (with_front (map step_of c.args.found.items) (many (of step_sign) (spec.step (spec.expression c.args.self.now.budget) c.args.self.now.turns) c.args.self.now.turns c.args.cursor.now)) c.args.self.now.turns c.loop-turn._turn (map step_of c.loop-turn.found.items) c.loop-turn.cursor c.loop-turn.invariant _ _ c.loop-turn-test.true lead c.in_ok-step.ensures in
    rw (c.in_ok-push.ensures.items, map_push) h

pub returns-then-not-sees_step : goal.returns-then-not-sees_step
returns-then-not-sees_step g c =
    let lead : starts (of step_sign) c.loop-turn.cursor ≡ false = sym c.sees_step.ensures ∙ c.if-not-sees_step.true in
    turn_left (of step_sign) (spec.step (spec.expression c.args.self.now.budget) c.args.self.now.turns) (with_front (map step_of c.args.found.items) (many (of step_sign) (spec.step (spec.expression c.args.self.now.budget) c.args.self.now.turns) c.args.self.now.turns c.args.cursor.now)) c.args.self.now.turns c.loop-turn._turn (map step_of c.loop-turn.found.items) c.loop-turn.cursor c.loop-turn.invariant c.loop-turn-test.true lead
