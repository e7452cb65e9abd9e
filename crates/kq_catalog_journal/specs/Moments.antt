-- What asks for the moment of a command: a call of now or ago.
use Rattle.std.specs.Prelude.{Bool, true, false, ◌||◌}
use Rattle.std.specs.List.{list_any}
use Rattle.kq_run_plan.specs.kq_plan_expressions.Terms.{Term, literal, column, cell, call, Terms, no_term, and_term, terms_of}
use Rattle.kq_plan.specs.kq_plan_functions.Function.{Function}
use Rattle.kq_plan.specs.kq_plan_functions.TheVariants as f
use Rattle.kq_plan.specs.Plans.{Sorting, Aggregating, rows_counted, summed, least_of, greatest_of, at_greatest, at_least, any_of, set_of, Doing, leaf, one_row, numbers, written, scalar, kept, mapped, cut, counted, sorted, topped, apart, summarized, joined, united, expanded}

abbrev pub is_moment : Function → Bool
is_moment f.Now = true
is_moment f.Ago = true
is_moment _ = false

-- whether such a call stands anywhere in an expression
abbrev mutual
  pub asks : Term → Bool
  asks (literal v) = false
  asks (column i) = false
  asks (cell i) = false
  asks (call f es) = is_moment f || some_asks es

  pub some_asks : Terms → Bool
  some_asks no_term = false
  some_asks (and_term e es) = asks e || some_asks es

abbrev pub key_asks : Sorting → Bool
key_asks k = asks k.value

abbrev pub aggregate_asks : Aggregating → Bool
aggregate_asks rows_counted = false
aggregate_asks (summed e) = asks e
aggregate_asks (least_of e) = asks e
aggregate_asks (greatest_of e) = asks e
aggregate_asks (at_greatest e is) = asks e
aggregate_asks (at_least e is) = asks e
aggregate_asks (any_of is) = false
aggregate_asks (set_of e n) = asks e

-- whether it stands in an expression of a step
abbrev pub step_asks : Doing → Bool
step_asks (leaf k said) = false
step_asks (one_row es) = some_asks (terms_of es)
step_asks (numbers a b c) = asks a || asks b || asks c
step_asks (written rows) = false
step_asks (scalar e) = asks e
step_asks (kept i e) = asks e
step_asks (mapped i es) = some_asks (terms_of es)
step_asks (cut i n) = false
step_asks (counted i) = false
step_asks (sorted i ks) = list_any key_asks ks
step_asks (topped i n k) = key_asks k
step_asks (apart i is) = false
step_asks (summarized i es gs) = some_asks (terms_of es) || list_any aggregate_asks gs
step_asks (joined k i j on) = false
step_asks (united arms) = false
step_asks (expanded i e at t) = asks e
