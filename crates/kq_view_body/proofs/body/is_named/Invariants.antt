use Rattle.std.proofs.Common.{◌≡◌, Some, drop, map}
use Rattle.kq_view_body.specs.Parts.{names_let}
use Rattle.kq_view_body.proofs.body.is_named.Given as goal
use Rattle.kq_read_grammar.specs.TabularViews.{let_of}

abbrev pub invariant-loop-one : goal.invariant-loop-one
invariant-loop-one l = names_let l.text (map let_of l.lets) (Some l.name) ≡ names_let l.text (map let_of (drop l.one-index l.lets)) (Some l.name)
