use Rattle.std.proofs.Common.{◌≡◌, drop, map}
use Rattle.kq_bind_supported.specs.Unsupported.{unsupported_lets}
use Rattle.kq_bind_supported.proofs.unsupported.in_lets.Given as goal
use Rattle.kq_read_grammar.specs.TabularViews.{let_of}

abbrev pub invariant-loop-one : goal.invariant-loop-one
invariant-loop-one l = unsupported_lets l.text (map let_of l.lets) ≡ unsupported_lets l.text (map let_of (drop l.one-index l.lets))
