-- What lets and queries are bound to.
use Rattle.std.specs.Prelude.{ℕ, Bool, true, false, ◌&&◌, ◌||◌, not, List, [], ◌∷◌, ◌++◌, Option, Some, None, Ok, Err, is_some, if◌then◌else◌}
use Rattle.kq_bind_operators.specs.Flows.{Progressing, Flowing, following}
use Rattle.kq_bind_query.specs.Pipes.{tabular}
use Rattle.kq_bind_operators.specs.Scopes.{Scoping, Tabling, names, tabling_named}
use Rattle.kq_bind_supported.specs.Unsupported.{unsupported_query}
use Rattle.kq_bind_operators.specs.kq_bind_columns.Items.{field}
use Rattle.kq_bind_operators.specs.kq_bind_columns.Naming.{is_taken}
use Rattle.kq_bind_expressions.specs.Bound.{bound}
use Rattle.kq_bind_expressions.specs.Verdicts.{Verdict, mistyped, and_then, supported_or}
use Rattle.kq_plan_expressions.specs.Terms.{Bound}
use Rattle.kq_read_grammar.specs.declared.expression.Name.{Name}
use Rattle.kq_read_grammar.specs.Trees.{Tree, name, group, TabularTree, LetTree, QueryTree}
use Rattle.kq_plan.specs.Names.{Known}
use Rattle.kq_plan.specs.Plans.{Planned, scalar as scalar_step}
use Rattle.kq_bind_operators.specs.kq_read_meanings.Names.{name_said, name_place}
use Rattle.kq_read_symbols.specs.Choices.{Right, scalar, table, either}
use Rattle.kq_value.specs.declared.schema.Field.{Field}

-- the steps so far, and the lets of both kinds
pub record Letting : Type 0 where
  pub progress : Progressing
  pub lets : List Field
  pub tables : List Tabling

abbrev pub nothing_let : Letting
nothing_let = record { progress = record { steps = []; stages = 0 }; lets = []; tables = [] }

abbrev pub scope_of : List ℕ → (List ℕ → Option Known) → Letting → Scoping
scope_of text known l = record { text = text; lets = l.lets; tables = l.tables; known = known }

abbrev pub is_let : Letting → List ℕ → Bool
is_let l said = is_taken l.lets said || is_some (tabling_named l.tables said)

-- ---- one let: its right side, and then its name, which no let may have before it

abbrev pub scalar_put : Letting → List ℕ → Bound → Letting
scalar_put l said x =
    record { progress = (following l.progress (scalar_step x.0) (field said x.1 ∷ [])).progress; lets = l.lets ++ field said x.1 ∷ []; tables = l.tables }

abbrev pub tabular_laid : List Field → List Tabling → List ℕ → Flowing → Letting
tabular_laid lets tables said w = record { progress = w.progress; lets = lets; tables = tables ++ record { name = said; input = w.input } ∷ [] }

abbrev pub tabular_put : Letting → List ℕ → Flowing → Letting
tabular_put l said w = tabular_laid l.lets l.tables said w

abbrev pub if_new : {A : Type 0} → List ℕ → Letting → Name → A → Verdict A
if_new text l n x = if is_let l (name_said text n) then Err (mistyped (name_place n)) else Ok x

abbrev pub scalar_let : List ℕ → (List ℕ → Option Known) → Letting → Name → Tree → Verdict Letting
scalar_let text known l n e = and_then (bound (names (scope_of text known l)) [] e) (λ x. if_new text l n (scalar_put l (name_said text n) x))

abbrev pub tabular_let : List ℕ → (List ℕ → Option Known) → Letting → Name → TabularTree → Verdict Letting
tabular_let text known l n q = and_then (tabular (scope_of text known l) l.progress q) (λ w. if_new text l n (tabular_put l (name_said text n) w))

-- a name alone, in any number of parentheses
abbrev pub bare_name : Tree → Option Name
bare_name (name n) = Some n
bare_name (group t e) = bare_name e
bare_name _ = None

-- whether rows stand for a name: a scalar let hides those of the catalogue
abbrev pub names_rows : Letting → (List ℕ → Option Known) → List ℕ → Bool
names_rows l known said = is_some (tabling_named l.tables said) || (not (is_taken l.lets said) && is_some (known said))

-- a name alone is tabular where rows stand for it; all else that has both readings is tabular
abbrev pub is_tabular : List ℕ → (List ℕ → Option Known) → Letting → Option Name → Bool
is_tabular text known l (Some n) = names_rows l known (name_said text n)
is_tabular text known l None = true

abbrev pub let_made : List ℕ → (List ℕ → Option Known) → Letting → Name → Right Tree TabularTree → Verdict Letting
let_made text known l n (scalar e) = scalar_let text known l n e
let_made text known l n (table q) = tabular_let text known l n q
let_made text known l n (either e q) = if is_tabular text known l (bare_name e) then tabular_let text known l n q else scalar_let text known l n e

abbrev pub lets_made : List ℕ → (List ℕ → Option Known) → Letting → List LetTree → Verdict Letting
lets_made text known l [] = Ok l
lets_made text known l (x ∷ xs) = and_then (let_made text known l x.name x.right) (λ m. lets_made text known m xs)

-- ---- queries

abbrev pub planned : Flowing → Planned
planned w = record { steps = w.progress.steps; output = w.input }

-- the lets, and then the pipe
abbrev pub query_walked : List ℕ → (List ℕ → Option Known) → QueryTree → Verdict Planned
query_walked text known q = and_then (lets_made text known nothing_let q.lets) (λ l. and_then (tabular (scope_of text known l) l.progress q.tabular) (λ w. Ok (planned w)))

-- in a text, over what names of a catalogue stand for: the leftmost that isn't supported, or else the walk
abbrev pub query_bound : List ℕ → (List ℕ → Option Known) → QueryTree → Verdict Planned
query_bound text known q = supported_or (unsupported_query text q) (query_walked text known q)
