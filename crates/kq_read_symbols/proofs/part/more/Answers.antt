use Rattle.std.proofs.Common.{◌≡◌, true, false, map, sym, ◌∙◌}
use Rattle.std.proofs.lemmas.List.{map_push}
use Rattle.kq_read_symbols.specs.Forms.{starts}
use Rattle.kq_read_symbols.specs.Classes.{class_of, of}
use Rattle.kq_read_symbols.proofs.Turns.{turn_taken, turn_left}
use Rattle.kq_read_symbols.proofs.part.more.Goals as goal

pub loop-turn-preserved : goal.loop-turn-preserved
loop-turn-preserved g c =
    let lead : starts (of (class_of c.args.class)) c.loop-turn.cursor ≡ true = sym c.sees.ensures ∙ c.if-not-sees.false in
    let h = turn_taken (of (class_of c.args.class)) (g.P.Part.reader c.args.part.now) _ c.args.turns c.loop-turn._turn (map g.P.Part.view c.loop-turn.found.items) c.loop-turn.cursor c.loop-turn.invariant _ _ c.loop-turn-test.true lead c.in_ok-read.ensures in
    rw (c.in_ok-push.ensures.items, map_push) h

pub returns-then-not-sees : goal.returns-then-not-sees
returns-then-not-sees g c =
    let lead : starts (of (class_of c.args.class)) c.loop-turn.cursor ≡ false = sym c.sees.ensures ∙ c.if-not-sees.true in
    turn_left (of (class_of c.args.class)) (g.P.Part.reader c.args.part.now) _ c.args.turns c.loop-turn._turn (map g.P.Part.view c.loop-turn.found.items) c.loop-turn.cursor c.loop-turn.invariant c.loop-turn-test.true lead
