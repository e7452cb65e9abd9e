-- What the code has made, as the definitions speak of it.
use Rattle.std.specs.Prelude.{ℕ, List, Option, map}
use denote.Ref.{Bor}
use Rattle.kq_bind_operators.specs.declared.flow.Flow.{Flow}
use Rattle.kq_bind_operators.specs.declared.flow.Progress.{Progress}
use Rattle.kq_bind_operators.specs.declared.scope.Scope.{Scope}
use Rattle.kq_bind_operators.specs.declared.scope.TabularLet.{TabularLet}
use Rattle.kq_bind_expressions.specs.Verdicts.{Verdict}
use Rattle.kq_bind_operators.specs.Clauses.{bind_range}
use Rattle.kq_bind_operators.specs.Flows.{Progressing, Flowing}
use Rattle.kq_bind_operators.specs.Scopes.{Scoping, Tabling}
use Rattle.kq_read_grammar.specs.declared.expression.Expression.{Expression}
use Rattle.kq_read_grammar.specs.declared.expression.Name.{Name}
use Rattle.kq_read_grammar.specs.Views.{tree_of}
use Rattle.kq_plan.specs.Names.{Known}
use Rattle.kq_plan.specs.Plans.{stepping_of}

abbrev pub progress_of : Progress → Progressing
progress_of p = record { steps = map stepping_of p.steps.items; stages = p.stages }

abbrev pub flow_of : Flow → Flowing
flow_of w = record { progress = progress_of w.progress; input = w.input }

abbrev pub tabling_of : TabularLet → Tabling
tabling_of t = record { name = t.name; input = t.input }

abbrev pub scoping_of : {N : Type 0} → (N → List ℕ → Option Known) → Scope N → Scoping
scoping_of known s = record { text = s.text.now; lets = s.lets.now; tables = map tabling_of s.tables.now; known = known s.names.now }

-- the flow of a range from one expression to another, by a step
abbrev pub range_flow : Scoping → Progressing → Name → Expression → Expression → Expression → Verdict Flowing
range_flow s p name first last step = bind_range s p name (tree_of first) (tree_of last) (tree_of step)
