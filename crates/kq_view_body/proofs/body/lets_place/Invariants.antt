use Rattle.std.proofs.Common.{◌≡◌, [], take, drop, map}
use Rattle.kq_view_body.specs.Parts.{lets_place}
use Rattle.kq_view_body.proofs.body.lets_place.Given as goal
use Rattle.kq_read_grammar.specs.TabularViews.{let_of}

abbrev pub invariant-loop-i : goal.invariant-loop-i
invariant-loop-i l = lets_place l.text [] (map let_of l.lets) ≡ lets_place l.text (map let_of (take l.i l.lets)) (map let_of (drop l.i l.lets))
