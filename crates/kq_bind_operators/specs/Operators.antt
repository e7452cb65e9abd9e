-- What each operator does with the rows that come: its step, and the columns that it gives.
use Rattle.std.specs.Prelude.{ℕ, Bool, true, false, pos, List, [], ◌∷◌, map, Option, Some, None, Ok, Err, codes, if◌then◌else◌, option_and_then}
use Rattle.kq_bind_operators.specs.Flows.{Progressing, Flowing, columns, after, following}
use Rattle.kq_bind_operators.specs.Scopes.{Scoping, names}
use Rattle.kq_bind_columns.specs.Chosen.{chosen, all_chosen, columns_at as columns_chosen, without, names_given, renamed as fields_renamed}
use Rattle.kq_bind_columns.specs.Defaults.{first_token}
use Rattle.kq_bind_columns.specs.Items.{field, Making, nothing_made, items_made}
use Rattle.kq_bind_columns.specs.Laying.{Columns, as_they_are, over}
use Rattle.kq_bind_columns.specs.Printed.{printed}
use Rattle.kq_bind_expressions.specs.Bound.{bound}
use Rattle.kq_bind_expressions.specs.Verdicts.{Verdict, unsupported, mistyped, and_then, or_fault}
use Rattle.kq_plan_expressions.specs.Terms.{Bound}
use Rattle.kq_read_grammar.specs.declared.expression.Name.{Name}
use Rattle.kq_read_grammar.specs.Trees.{Tree, ItemTree}
use Rattle.kq_plan.specs.Plans.{one_row, numbers, kept, mapped, cut, apart}
use Rattle.kq_read_meanings.specs.Literals.{literal_value}
use Rattle.kq_read_symbols.specs.declared.kind.Symbol.{Symbol}
use Rattle.kq_value.specs.declared.schema.Field.{Field}
use Rattle.kq_value.specs.declared.ty.Ty.TheVariants as ty
use Rattle.kq_value.specs.declared.value.Value.{Value}
use Rattle.kq_value.specs.declared.value.Value.TheVariants as cell
use Rattle.kq_value.specs.Ty.{same_ty}

-- ---- sources that hold no pipe

abbrev pub row_made : Progressing → Making → Flowing
row_made p m = following p (one_row m.terms) m.fields

abbrev pub printed_row : Scoping → Progressing → List ItemTree → Verdict Flowing
printed_row s p is = and_then (printed (names s) is) (λ m. Ok (row_made p m))

-- ---- conditions and numbers

abbrev pub where_true : Flowing → ℕ → Bound → Verdict Flowing
where_true w at x = if same_ty x.1 ty.Bool then Ok (after w (λ i. kept i x.0) (columns w)) else Err (mistyped at)

abbrev pub filtered : Scoping → Flowing → Tree → Verdict Flowing
filtered s w e = and_then (bound (names s) (columns w) e) (where_true w (first_token e))

abbrev pub natural : Value → Option ℕ
natural (cell.Long (pos n)) = Some n
natural _ = None

-- how many rows, as a whole number says
abbrev pub row_number : Scoping → Symbol → Verdict ℕ
row_number s t = or_fault (unsupported t.from) (option_and_then natural (literal_value s.text t))

abbrev pub taken : Scoping → Flowing → Symbol → Verdict Flowing
taken s w t = and_then (row_number s t) (λ n. Ok (after w (λ i. cut i n) (columns w)))

abbrev pub count_column : List Field
count_column = field (codes "Count") ty.Long ∷ []

-- ---- columns

abbrev pub laid_after : Flowing → Columns → Flowing
laid_after w p = after w (λ i. mapped i p.0) p.1

abbrev pub projected : Scoping → Flowing → List ItemTree → Verdict Flowing
projected s w is = and_then (items_made (names s) (columns w) [] false nothing_made is) (λ m. Ok (after w (λ i. mapped i m.terms) m.fields))

abbrev pub extended : Scoping → Flowing → List ItemTree → Verdict Flowing
extended s w is = and_then (items_made (names s) (columns w) (columns w) false nothing_made is) (λ m. Ok (laid_after w (over (columns w) m)))

abbrev pub dropped : Scoping → Flowing → List Name → Verdict Flowing
dropped s w ns = and_then (chosen s.text (columns w) false [] ns) (λ is. Ok (laid_after w (without 0 (columns w) is)))

abbrev pub new_name : Name × Name → Name
new_name p = p.0

abbrev pub old_name : Name × Name → Name
old_name p = p.1

-- all are renamed at once: the old names are looked up before the new ones are tested against the result
abbrev pub renamed : Scoping → Flowing → List (Name × Name) → Verdict Flowing
renamed s w ps =
    and_then (chosen s.text (columns w) false [] (map old_name ps)) (λ is.
    and_then (names_given s.text (without 0 (columns w) is).1 (map new_name ps)) (λ ns.
    Ok (after w (λ i. mapped i (as_they_are 0 (columns w))) (fields_renamed 0 (columns w) is ns))))

-- ---- distinct rows

abbrev pub bind_distinct : Scoping → Flowing → List Name → Verdict Flowing
bind_distinct s w ns = and_then (chosen s.text (columns w) true [] ns) (λ is. Ok (after w (λ i. apart i is) (columns_chosen (columns w) is)))

abbrev pub all_distinct : Flowing → Symbol → Verdict Flowing
all_distinct w t = and_then (all_chosen t.from 0 (columns w)) (λ is. Ok (after w (λ i. apart i is) (columns w)))
