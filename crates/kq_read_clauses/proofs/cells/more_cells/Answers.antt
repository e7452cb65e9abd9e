use Rattle.std.proofs.Common.{◌≡◌, true, false, sym, ◌∙◌, Vec, Global}
use Rattle.std.proofs.lemmas.Result.{err_from_is_err_and}
use Rattle.kq_read_clauses.specs.Reading.{more_cells}
use Rattle.kq_read_grammar.specs.declared.clause.Cell.{Cell}
use Rattle.kq_read_symbols.specs.Classes as k
use Rattle.kq_read_symbols.specs.Classes.{of}
use Rattle.kq_read_symbols.specs.Forms.{starts, with_front}
use Rattle.kq_read_clauses.proofs.CellTurns.{turn_taken, turn_stuck, turn_trailed, turn_ended, turns_done}
use Rattle.kq_read_clauses.proofs.cells.more_cells.Goals as goal

pub returns-then-not-sees : goal.returns-then-not-sees
returns-then-not-sees c =
    let comma : starts (of k.comma) c.loop-turn.cursor ≡ false = sym c.sees.ensures ∙ c.if-not-sees.true in
    turn_ended (with_front c.args.found.items (more_cells c.args.turns c.args.cursor.now)) c.args.turns c.loop-turn._turn c.loop-turn.found.items c.loop-turn.cursor c.loop-turn.invariant c.loop-turn-test.true comma

pub returns-then-not-sees-2 : goal.returns-then-not-sees-2
returns-then-not-sees-2 c =
    let comma : starts (of k.comma) c.loop-turn.cursor ≡ true = sym c.sees.ensures ∙ c.if-not-sees.false in
    let begins : starts (of k.begins_cell) c.expect.new.self ≡ false = sym c.sees-in-loop-turn.ensures ∙ c.if-not-sees-2.true in
    turn_trailed (with_front c.args.found.items (more_cells c.args.turns c.args.cursor.now)) c.args.turns c.loop-turn._turn c.loop-turn.found.items c.loop-turn.cursor c.loop-turn.invariant c.expect.new.self c.in_ok-expect.field-0 c.loop-turn-test.true comma c.in_ok-expect.ensures begins

pub loop-turn-preserved : goal.loop-turn-preserved
loop-turn-preserved c =
    let comma : starts (of k.comma) c.loop-turn.cursor ≡ true = sym c.sees.ensures ∙ c.if-not-sees.false in
    let begins : starts (of k.begins_cell) c.expect.new.self ≡ true = sym c.sees-in-loop-turn.ensures ∙ c.if-not-sees-2.false in
    let h = turn_taken (with_front c.args.found.items (more_cells c.args.turns c.args.cursor.now)) c.args.turns c.loop-turn._turn c.loop-turn.found.items c.loop-turn.cursor c.loop-turn.invariant c.expect.new.self c.cell.new.cursor c.in_ok-expect.field-0 c.in_ok-cell.field-0 c.loop-turn-test.true comma c.in_ok-expect.ensures begins c.in_ok-cell.ensures in
    rw c.in_ok-push.ensures.items h

pub returns : goal.returns
returns c = turns_done (with_front c.args.found.items (more_cells c.args.turns c.args.cursor.now)) c.args.turns c.loop-turn._turn c.loop-turn.found.items c.loop-turn.cursor c.loop-turn.invariant c.loop-turn-test.false

pub returns-in_err-cell : goal.returns-in_err-cell
returns-in_err-cell c =
    let comma : starts (of k.comma) c.loop-turn.cursor ≡ true = sym c.sees.ensures ∙ c.if-not-sees.false in
    let begins : starts (of k.begins_cell) c.expect.new.self ≡ true = sym c.sees-in-loop-turn.ensures ∙ c.if-not-sees-2.false in
    let p = err_from_is_err_and c.from_residual-in_err-cell.result c.from_residual-in_err-cell.ensures.1 in
    rw (p.1, p.2) (turn_stuck (with_front c.args.found.items (more_cells c.args.turns c.args.cursor.now)) c.args.turns c.loop-turn._turn c.loop-turn.found.items c.loop-turn.cursor c.loop-turn.invariant (λ (v : Vec Cell Global). v.items) c.expect.new.self c.cell.new.cursor c.in_ok-expect.field-0 c.in_err-cell.field-0.0 c.loop-turn-test.true comma c.in_ok-expect.ensures begins c.in_err-cell.ensures)
