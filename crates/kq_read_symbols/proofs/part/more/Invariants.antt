use Rattle.std.proofs.Common.{◌≡◌, ◌-◌, map}
use Rattle.kq_read_symbols.specs.Forms.{many, with_front}
use Rattle.kq_read_symbols.specs.Classes.{class_of, of}
use Rattle.kq_read_symbols.proofs.part.more.Given as goal

abbrev pub invariant-loop-turn : goal.invariant-loop-turn
invariant-loop-turn g l =
    with_front (map g.P.Part.view l.fn.found.items) (many (of (class_of l.fn.class)) (g.P.Part.reader l.fn.part) l.turns l.fn.cursor)
    ≡ with_front (map g.P.Part.view l.found.items) (many (of (class_of l.fn.class)) (g.P.Part.reader l.fn.part) (l.turns - l._turn) l.cursor)
