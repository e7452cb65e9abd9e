-- What stands behind an operand that was read before: the relations of the code, and their trees.
use Rattle.std.specs.Prelude.{ℕ, List, Result, Vec, Some, map}
use Rattle.std.specs.declared.alloc.Global.{Global}
use Rattle.kq_read_grammar.specs.declared.expression.Expression.{Expression}
use Rattle.kq_read_grammar.specs.declared.expression.Interval.{Interval}
use Rattle.kq_read_grammar.specs.declared.expression.Link.{Link}
use Rattle.kq_read_grammar.specs.declared.expression.Step.{Step}
use Rattle.kq_read_grammar.specs.Precedences.{step_sign}
use Rattle.kq_read_grammar.specs.Trees.{Tree, OneStep}
use Rattle.kq_read_grammar.specs.Views.{tree_of, trees_of, link_of, interval_of, step_of}
use Rattle.kq_read_symbols.specs.declared.cursor.Stop.{Stop}
use Rattle.kq_read_symbols.specs.declared.kind.Symbol.{Symbol}
use Rattle.kq_read_symbols.specs.Classes.{of}
use Rattle.kq_read_symbols.specs.Forms.{Parser, ◌<$>◌, many, with_front}
use Rattle.kq_read_symbols.specs.Outcomes.{IsOutcome}
use Rattle.kq_read_expressions.specs.Reading.{Relation, compared, listed, ranged, related_of}

abbrev pub related : Tree → Parser Symbol Relation → Parser Symbol Tree
related left p = (λ r. related_of left (Some r)) <$> p

abbrev pub compared_of : Link → Relation
compared_of l = compared (link_of l).0 (link_of l).1

abbrev pub listed_of : Link × Vec Expression Global → Relation
listed_of p = listed (link_of p.0).0 (link_of p.0).1 (trees_of (map tree_of p.1.items))

abbrev pub ranged_of : Interval → Relation
ranged_of i = ranged (interval_of i).operator (interval_of i).low (interval_of i).high

-- The steps that come next are put behind those that were found before.
abbrev pub GivesSteps : Parser Symbol OneStep → ℕ → List Step → List Symbol → Result (Vec Step Global) Stop → List Symbol → Type 0
GivesSteps step turns found old result new =
    IsOutcome (λ v. map step_of v.items) (with_front (map step_of found) (many (of step_sign) step turns old)) result new
