-- What a name stands for.
use Rattle.std.specs.Prelude.{ℕ, suc, List, [], ◌∷◌, Option, Some, None, nat_eq, if◌then◌else◌, option_map}
use Rattle.std.specs.Cmp.Lexicographic.{pointwise}
use Rattle.kq_bind_expressions.specs.Names.{Names}
use Rattle.kq_bind_expressions.specs.Verdicts.{Verdict, unknown, or_fault}
use Rattle.kq_plan_expressions.specs.Terms.{Term, Bound, column, cell}
use Rattle.kq_read_grammar.specs.declared.expression.Name.{Name}
use Rattle.kq_read_meanings.specs.Names.{name_said, name_place}
use Rattle.kq_value.specs.declared.schema.Field.{Field}
use Rattle.kq_value.specs.declared.ty.Ty.{Ty}

-- the number and the type of the first of this name, where they are numbered from i
abbrev pub first_named : ℕ → List Field → List ℕ → Option (ℕ × Ty)
first_named i [] name = None
first_named i (c ∷ cs) name = if pointwise nat_eq c.name name then Some (i, c.ty) else first_named (suc i) cs name

abbrev pub made : (ℕ → Term) → ℕ × Ty → Bound
made term p = (term p.0, p.1)

abbrev pub or_else : {A : Type 0} → Option A → Option A → Option A
or_else (Some x) other = Some x
or_else None other = other

-- a column, else a scalar let
abbrev pub meant : Names → List Field → List ℕ → Option Bound
meant s cs name = or_else (option_map (made column) (first_named 0 cs name)) (option_map (made cell) (first_named 0 s.lets name))

abbrev pub named : Names → List Field → Name → Verdict Bound
named s cs n = or_fault (unknown (name_place n)) (meant s cs (name_said s.text n))
