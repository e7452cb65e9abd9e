-- Groups that stand for a body over rows, and over rows more.
use Rattle.std.proofs.Common.{◌≡◌, ◌<◌, ◌+◌, ◌-◌, ◌++◌, ℕ, List, [], IfOk, Result, Ok, Err, drop, length, map, take, refl, sym, ap, ◌∙◌, subst, arith, length-drop}
use Rattle.std.specs.declared.alloc.AllocError.{AllocError}
use Rattle.kq_value.specs.Computed.{Answers, Computed, Is, Overflow}
use Rattle.kq_value.specs.declared.fault.EvalFault.{EvalFault}
use Rattle.kq_value.specs.declared.fault.EvalFault.TheVariants as fault
use Rattle.kq_plan_expressions.specs.Terms.{Term}
use Rattle.kq_run_groups.specs.Grouped.{AggregateShape as Aggregated, FitArgs}
use Rattle.kq_run_groups.specs.Groups.{Grouping, Starts, beside, rows_from}
use Rattle.kq_run_groups.specs.Merges.{Merges}
use Rattle.kq_run_gather.proofs.Arguments.{columns_behind, fit_args}
use Rattle.kq_run_gather.proofs.Regrouped.{grouped_all, groups_start, keyed_append, keyed_more, keyed_parts, overflows, summarized_lost}
use Rattle.kq_run_gather.proofs.Stepped.{failed_in_steps}
use Rattle.kq_run_gather.specs.Arriving.{ArriveAs}
use Rattle.kq_run_gather.specs.Bodies.{AnswersMade, FailsAt, IsViewBody, MadeBy, MadeOf, OverflowsAt, StandsFor, aggregates_in, aggregates_of, alone, behind_source, columns_made, keys_in, keys_of, ran_by, types_made}
use Rattle.kq_run_gather.specs.Grouping.{Summarized, all_made, keyed, under}
use Rattle.kq_run_gather.specs.Steps.{last_of, operators_of, stage_at}
use Rattle.kq_run_gather.specs.declared.arriving.Arrived.{Arrived}
use Rattle.kq_run_gather.specs.declared.arriving.Arrived.TheVariants as arrived
use Rattle.kq_run_shards.specs.Shards.{IsOfRows}
use Rattle.kq_run_gather.specs.kq_eval_pieces.Operators.{Row}
use Rattle.kq_plan.specs.declared.plan.Step.{Step}
use Rattle.kq_plan.specs.Fits.{ty_of}
use Rattle.kq_plan.specs.Plans.{Aggregating, Planned, Stepping, stepping_of}
use Rattle.kq_run_gather.proofs.kq_run_row_operators.Laws.{ran_append, ran_none}
use Rattle.kq_run_gather.specs.kq_run_row_operators.Operators.{Rowwise}
use Rattle.kq_run_gather.specs.kq_run_row_operators.Ran.{Ran, came, failed, joined, ran}
use Rattle.kq_value.specs.declared.schema.Field.{Field}
use Rattle.kq_value.specs.declared.ty.Ty.{Ty}
use Rattle.kq_view_fold.specs.Folds.{Arrives}
use Rattle.kq_view_fold.proofs.Bodied.{body_columns, types_long}

module _ (p : Planned) where
  abbrev es : List Term
  es = keys_of p

  abbrev gs : List Aggregating
  gs = aggregates_of p

  abbrev cs : List Field
  cs = columns_made p

  abbrev ts : List Ty
  ts = types_made p

  abbrev os : List Rowwise
  os = operators_of (behind_source p.steps)

  -- ---- over no rows, and over more

  pub stands_none : (g : Grouping) → Starts (length es) (under gs ts) g → StandsFor p [] g
  stands_none g starts = record { left = []; came_so = ran_none os alone; groups = groups_start es gs ts alone g starts }

  pub stands_more : (had delta : List Row) (old other new : Grouping) → StandsFor p had old → StandsFor p delta other → Merges other old new → StandsFor p (had ++ delta) new
  stands_more had delta old other new a b merges =
      let u = a.groups in
      let v = b.groups in
      record {
        left = a.left ++ b.left;
        came_so = ran_append os alone had delta ∙ ap (λ (r : Ran). joined r (ran os alone delta)) a.came_so ∙ ap (joined (came a.left)) b.came_so;
        groups = record {
          keys = u.keys ++ v.keys;
          args = beside u.args v.args;
          keyed_so = keyed_more es gs alone a.left b.left u.keys v.keys u.args v.args u.keyed_so v.keyed_so;
          width_is = merges.width_is ∙ u.width_is;
          shapes = merges.shapes ∙ u.shapes;
          whole = merges.whole;
          stands = merges.more u.keys v.keys u.args v.args u.stands v.stands;
        };
      }

  -- ---- the rows of groups

  pub of_rows : IsViewBody p → (rows : List Row) (g : Grouping) → StandsFor p rows g → IsOfRows g
  of_rows b rows g a =
      let u = a.groups in
      record {
        keys = u.keys;
        args = u.args;
        stands = u.stands;
        fit = subst (λ (shapes : List Aggregated). FitArgs shapes u.args) (sym u.shapes)
            (fit_args gs alone a.left ts u.args (types_long p b) ((keyed_parts es gs alone a.left u.keys u.args u.keyed_so).1));
      }

  made : (rows : List Row) (g : Grouping) (c : Computed (List Row)) → StandsFor p rows g → rows_from g.states g.keys 0 ≡ c → MadeOf p rows c
  made rows g c a is = subst (λ (r : Ran). MadeBy p r c) (sym a.came_so) (subst (Summarized es gs cs alone a.left) is (grouped_all es gs cs alone a.left g a.groups))

  pub answers_made : (rows : List Row) (g : Grouping) (r : Result (List Row) EvalFault) → StandsFor p rows g → Answers (rows_from g.states g.keys 0) r → AnswersMade p rows r
  answers_made rows g (Ok out) a is = made rows g (Is out) a is
  answers_made rows g (Err fault.Overflow) a is = made rows g Overflow a is
  answers_made rows g (Err fault.Memory) a is = tt

  -- ---- overflows

  lost_by : (left : List Row) (r : Ran) (stage : ℕ) → FailsAt p r stage → MadeBy p (joined (came left) r) Overflow
  lost_by left (came more) stage (over, at) =
      summarized_lost es gs cs alone (left ++ more) (keyed_append es gs alone left more ∙ overflows (keyed es gs alone left) (keyed es gs alone more) over)
  lost_by left (failed n) stage at = refl

  -- rows that overflow make the whole overflow
  pub lost : (had delta : List Row) (g : Grouping) (stage : ℕ) → StandsFor p had g → OverflowsAt p delta stage → MadeOf p (had ++ delta) Overflow
  lost had delta g stage a over =
      subst (λ (r : Ran). MadeBy p r Overflow) (sym (ran_append os alone had delta ∙ ap (λ (r : Ran). joined r (ran_by p delta)) a.came_so)) (lost_by a.left (ran_by p delta) stage over)

  -- ---- what rows come to

  stands_so : (rows : List Row) (r : Ran) (g : Grouping) → ran_by p rows ≡ r → ArriveAs es gs cs alone r (arrived.Groups g) → StandsFor p rows g
  stands_so rows (came left) g is of = record { left = left; came_so = is; groups = of }
  stands_so rows (failed n) g is of = absurd of

  pub arrived_groups : (rows : List Row) (a : Arrived) (g : Grouping) → Arrives p rows a → a ≡ arrived.Groups g → StandsFor p rows g
  arrived_groups rows a g arrives is = stands_so rows (ran_by p rows) g refl (subst (Arrives p rows) is arrives)

  over_so : (r : Ran) (stage : ℕ) → ArriveAs es gs cs alone r arrived.Overflow → stage ≡ (last_of p.steps).stage → FailsAt p r stage
  over_so (came left) stage over at = (over, at)
  over_so (failed n) stage over at = absurd over

  pub arrived_overflow : (rows : List Row) (a : Arrived) (stage : ℕ) → Arrives p rows a → a ≡ arrived.Overflow → stage ≡ (last_of p.steps).stage → OverflowsAt p rows stage
  arrived_overflow rows a stage arrives is at = over_so (ran_by p rows) stage (subst (Arrives p rows) is arrives) at

  failed_so : (r : Ran) (n : ℕ) → ArriveAs es gs cs alone r (arrived.Failed n) → r ≡ failed n
  failed_so (came left) n fails = absurd fails
  failed_so (failed m) n fails = ap failed (sym fails)

  pub arrived_failure : (rows : List Row) (a : Arrived) (n stage : ℕ) → Arrives p rows a → a ≡ arrived.Failed n → stage ≡ stage_at (behind_source p.steps) n → OverflowsAt p rows stage
  arrived_failure rows a n stage arrives is at = subst (λ (r : Ran). FailsAt p r stage) (sym (failed_so (ran_by p rows) n (subst (Arrives p rows) is arrives))) at

  pub arrived_within : (rows : List Row) (a : Arrived) (n : ℕ) (steps : List Step) → map stepping_of steps ≡ behind_source p.steps → Arrives p rows a → a ≡ arrived.Failed n → n < length steps
  arrived_within rows a n steps behind arrives is =
      failed_in_steps steps alone rows n
      (ap (λ (ss : List Stepping). ran (operators_of ss) alone rows) behind ∙ failed_so (ran_by p rows) n (subst (Arrives p rows) is arrives))

  -- ---- as the code has them

  module _ (s : Stepping) (at : s ≡ last_of p.steps) (ks : List Term) (as_given : List Aggregating) (fs : List Field) (keys : ks ≡ keys_in s.doing) (aggregates : as_given ≡ aggregates_in s.doing) (columns : fs ≡ s.columns) where
    keys_are : ks ≡ es
    keys_are = keys ∙ ap (λ (t : Stepping). keys_in t.doing) at

    aggregates_are : as_given ≡ gs
    aggregates_are = aggregates ∙ ap (λ (t : Stepping). aggregates_in t.doing) at

    columns_are : fs ≡ cs
    columns_are = columns ∙ ap (λ (t : Stepping). t.columns) at

    pub arrives_so : (ps : List Rowwise) (r : Ran) (rows : List Row) (q : Result Arrived AllocError) → ps ≡ os → r ≡ ran ps alone rows → IfOk q (ArriveAs ks as_given fs alone r) → IfOk q (Arrives p rows)
    arrives_so ps r rows q by so arrives =
        let first = subst (λ (z : Ran). IfOk q (ArriveAs ks as_given fs alone z)) (so ∙ ap (λ (zs : List Rowwise). ran zs alone rows) by) arrives in
        let second = subst (λ (zs : List Term). IfOk q (ArriveAs zs as_given fs alone (ran_by p rows))) keys_are first in
        let third = subst (λ (zs : List Aggregating). IfOk q (ArriveAs es zs fs alone (ran_by p rows))) aggregates_are second in
        subst (λ (zs : List Field). IfOk q (ArriveAs es gs zs alone (ran_by p rows))) columns_are third

    pub columns_so : IsViewBody p → (n : ℕ) → n ≡ length ks → length fs ≡ n + all_made as_given
    columns_so b n long =
        ap length columns_are ∙ body_columns p b ∙ ap (λ (m : ℕ). m + all_made gs) (ap length (sym keys_are) ∙ sym long) ∙ ap (λ (zs : List Aggregating). n + all_made zs) (sym aggregates_are)

    -- the columns of the aggregates
    pub left_so : IsViewBody p → (n : ℕ) (rest : List Field) → n ≡ length ks → rest ≡ take (length fs - n) (drop n fs) → length rest ≡ all_made as_given
    left_so b n rest long is =
        let a = columns_so b n long in
        let d = length-drop n fs in
        let e = ap length (is ∙ columns_behind fs n) in
        omega (arith, a, d, e)

    pub starts_so : (n : ℕ) (rest : List Field) (made : List Aggregated) (g : Grouping) → n ≡ length ks → rest ≡ take (length fs - n) (drop n fs) → made ≡ under as_given (map ty_of rest) → Starts n made g → StandsFor p [] g
    starts_so n rest made g long is are starts =
        let width : n ≡ length es = long ∙ ap length keys_are in
        let left : rest ≡ drop (length es) cs = is ∙ columns_behind fs n ∙ ap (drop n) columns_are ∙ ap (λ (m : ℕ). drop m cs) width in
        let all : made ≡ under gs ts = are ∙ ap (λ (zs : List Field). under as_given (map ty_of zs)) left ∙ ap (λ (zs : List Aggregating). under zs ts) aggregates_are in
        stands_none g (subst (λ (m : ℕ). Starts m (under gs ts) g) width (subst (λ (zs : List Aggregated). Starts n zs g) all starts))
