-- What the groups of rows that came make of them.
use Rattle.std.proofs.Common.{◌≡◌, ◌+◌, false, ℕ, List, drop, length, map, refl, subst}
use Rattle.std.specs.List.{All}
use Rattle.kq_value.specs.Computed.{Overflow}
use Rattle.kq_plan_expressions.specs.Terms.{Term}
use Rattle.kq_run_gather.specs.kq_run_groups.Groups.{EndsWide, Grouping, HasAllGroups, rows_from}
use Rattle.kq_run_gather.proofs.Arguments.{types_left}
use Rattle.kq_run_gather.proofs.Regrouped.{grouped_all, groups_wide, summarized_lost}
use Rattle.kq_run_gather.specs.Arriving.{ArriveAs}
use Rattle.kq_run_gather.specs.Grouping.{GroupsOf, all_made}
use Rattle.kq_run_gather.specs.declared.arriving.Arrived.{Arrived}
use Rattle.kq_run_gather.specs.declared.arriving.Arrived.TheVariants as arrived
use Rattle.kq_plan.specs.Fits.{ty_of}
use Rattle.kq_plan.specs.Plans.{Aggregating}
use Rattle.kq_run_gather.specs.kq_eval_row.Val.{Surroundings}
use Rattle.kq_run_gather.specs.kq_run_row_operators.Ran.{Ran, came, failed}
use Rattle.kq_value.specs.declared.schema.Field.{Field}
use Rattle.kq_run_plan.specs.declared.outcome.Outcome.{Outcome}
use Rattle.kq_run_plan.specs.declared.outcome.Outcome.TheVariants as outcome
use Rattle.kq_run_plan.specs.declared.sinks.Ended.TheVariants as ended
use Rattle.kq_run_plan.specs.Ended.{EndsAs}
use Rattle.kq_run_plan.specs.Grouping.{GroupsTo}
use Rattle.kq_run_plan.specs.Operators.{in_stage}
use Rattle.kq_run_plan.specs.Outcomes.{Row}

module _ (es : List Term) (gs : List Aggregating) (cs : List Field) (s : Surroundings) where
  -- groups that can end with rows
  pub record Ending (g : Grouping) : Type 0 where
    pub whole : HasAllGroups g
    pub wide : All EndsWide g.states

  ending : (r : Ran) (g : Grouping) → length cs ≡ length es + all_made gs → ArriveAs es gs cs s r (arrived.Groups g) → Ending g
  ending (came rows) g long of = record { whole = of.whole; wide = groups_wide es gs (map ty_of (drop (length es) cs)) s rows g (types_left cs (length es) (all_made gs) long) of }
  ending (failed n) g long of = absurd of

  pub groups_end : (r : Ran) (a : Arrived) (g : Grouping) → length cs ≡ length es + all_made gs → ArriveAs es gs cs s r a → a ≡ arrived.Groups g → Ending g
  groups_end r a g long arrives is = ending r g long (subst (ArriveAs es gs cs s r) is arrives)

  abbrev EndsIn : ℕ → Ran → Outcome → Type 0
  EndsIn stage r o = EndsAs (λ rows. GroupsTo es gs cs s rows stage) r (ended.Gave o)

  grouped_to : (stage : ℕ) (r : Ran) (g : Grouping) (o : Outcome) → ArriveAs es gs cs s r (arrived.Groups g) → o ≡ in_stage stage false (rows_from g.states g.keys 0) → EndsIn stage r o
  grouped_to stage (came rows) g o of is = record { came = rows_from g.states g.keys 0; grouped_so = grouped_all es gs cs s rows g of; is = is }
  grouped_to stage (failed n) g o of is = absurd of

  pub ends_in_groups : (stage : ℕ) (r : Ran) (a : Arrived) (g : Grouping) (o : Outcome) → ArriveAs es gs cs s r a → a ≡ arrived.Groups g → o ≡ in_stage stage false (rows_from g.states g.keys 0) → EndsIn stage r o
  ends_in_groups stage r a g o arrives is made = grouped_to stage r g o (subst (ArriveAs es gs cs s r) is arrives) made

  lost_to : (stage : ℕ) (r : Ran) → ArriveAs es gs cs s r arrived.Overflow → EndsIn stage r (outcome.Overflow stage)
  lost_to stage (came rows) lost = record { came = Overflow; grouped_so = summarized_lost es gs cs s rows lost; is = refl }
  lost_to stage (failed n) lost = absurd lost

  pub ends_in_overflow : (stage : ℕ) (r : Ran) (a : Arrived) → ArriveAs es gs cs s r a → a ≡ arrived.Overflow → EndsIn stage r (outcome.Overflow stage)
  ends_in_overflow stage r a arrives is = lost_to stage r (subst (ArriveAs es gs cs s r) is arrives)

  failed_so : (stage : ℕ) (r : Ran) (n : ℕ) → ArriveAs es gs cs s r (arrived.Failed n) → EndsAs (λ rows. GroupsTo es gs cs s rows stage) r (ended.Failed n)
  failed_so stage (came rows) n fails = absurd fails
  failed_so stage (failed m) n fails = fails

  pub ends_in_failure : (stage : ℕ) (r : Ran) (a : Arrived) (n : ℕ) → ArriveAs es gs cs s r a → a ≡ arrived.Failed n → EndsAs (λ rows. GroupsTo es gs cs s rows stage) r (ended.Failed n)
  ends_in_failure stage r a n arrives is = failed_so stage r n (subst (ArriveAs es gs cs s r) is arrives)
