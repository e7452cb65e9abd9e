-- The values of a range.
use Rattle.std.specs.Prelude.{ℕ, true, List, [], ◌∷◌, Option, Some, None, Ok, Err, if◌then◌else◌}
use Rattle.kq_bind_columns.specs.Defaults.{first_token}
use Rattle.kq_bind_columns.specs.Items.{field}
use Rattle.kq_bind_expressions.specs.Apply.{as_taken}
use Rattle.kq_bind_expressions.specs.Bound.{bound}
use Rattle.kq_bind_expressions.specs.Names.{Names}
use Rattle.kq_bind_expressions.specs.Verdicts.{Verdict, mistyped, and_then, or_fault}
use Rattle.kq_plan_expressions.specs.Terms.{Term, Bound}
use Rattle.kq_plan_expressions.specs.kq_plan_functions.Table.{widened}
use Rattle.kq_read_grammar.specs.declared.expression.Name.{Name}
use Rattle.kq_read_grammar.specs.Trees.{Tree}
use Rattle.kq_bind_columns.specs.kq_read_meanings.Names.{name_said}
use Rattle.kq_value.specs.declared.schema.Field.{Field}
use Rattle.kq_value.specs.declared.ty.Ty.{Ty}
use Rattle.kq_value.specs.declared.ty.Ty.TheVariants as ty
use Rattle.kq_value.specs.Ty.{same_ty}

-- the type of the step over values of this type, where a range has them
abbrev pub step_type : Ty → Option Ty
step_type ty.Long = Some ty.Long
step_type ty.Moment = Some ty.Span
step_type ty.Span = Some ty.Span
step_type _ = None

-- what a range is made of: the first, the last and the step, and the type of the values
pub record Ranging : Type 0 where
  pub first : Term
  pub last : Term
  pub step : Term
  pub ty : Ty

abbrev pub as_long : Bound → Bound
as_long x = (as_taken true x, widened x.1)

abbrev pub of_this_type : ℕ → Ty → Bound → Verdict Term
of_this_type at t x = if same_ty x.1 t then Ok x.0 else Err (mistyped at)

-- the first whose type doesn't fit, where ints are longs: the first value has one of the three types, the last that of the first, and the step its
-- own
abbrev pub range_typed : ℕ → ℕ → ℕ → Bound → Bound → Bound → Verdict Ranging
range_typed at_first at_last at_step a b c =
    and_then (or_fault (mistyped at_first) (step_type a.1)) (λ t.
    and_then (of_this_type at_last a.1 b) (λ last.
    and_then (of_this_type at_step t c) (λ step. Ok (record { first = a.0; last = last; step = step; ty = a.1 }))))

-- all three are bound before their types are looked at
abbrev pub ranged : Names → Tree → Tree → Tree → Verdict Ranging
ranged s a b c =
    and_then (bound s [] a) (λ x. and_then (bound s [] b) (λ y. and_then (bound s [] c) (λ z.
    range_typed (first_token a) (first_token b) (first_token c) (as_long x) (as_long y) (as_long z))))

abbrev pub range_column : List ℕ → Name → Ty → List Field
range_column text n t = field (name_said text n) t ∷ []
