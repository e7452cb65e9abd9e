-- What is made of the first in an order of rows that came.
use Rattle.std.proofs.Common.{◌≡◌, ℕ, true, List, refl, subst}
use Rattle.kq_value.specs.Computed.{Computed, Is, Overflow}
use Rattle.kq_run_gather.specs.Leading.{LeadsTo}
use Rattle.kq_run_gather.specs.declared.leading.Leading.{Leading}
use Rattle.kq_run_gather.specs.declared.leading.Leading.TheVariants as leading
use Rattle.kq_run_gather.specs.Pipelines.{CollectsTo}
use Rattle.kq_run_gather.specs.declared.collecting.Collected.{Collected}
use Rattle.kq_run_gather.specs.declared.collecting.Collected.TheVariants as collected
use Rattle.kq_run_gather.specs.kq_eval_row.Val.{Surroundings}
use Rattle.kq_run_gather.specs.kq_run_row_operators.Ran.{Ran, came, failed}
use Rattle.kq_run_sort.specs.Orders.{Topped}
use Rattle.kq_plan.specs.Plans.{Sorting}
use Rattle.kq_run_plan.specs.declared.outcome.Outcome.{Outcome}
use Rattle.kq_run_plan.specs.declared.outcome.Outcome.TheVariants as outcome
use Rattle.kq_run_plan.specs.declared.sinks.Ended.{Ended}
use Rattle.kq_run_plan.specs.declared.sinks.Ended.TheVariants as ended
use Rattle.kq_run_plan.specs.Ended.{EndsAs}
use Rattle.kq_run_plan.specs.Gives.{TopsTo}
use Rattle.kq_run_plan.specs.Operators.{in_stage}
use Rattle.kq_run_plan.specs.Outcomes.{Row}

module _ (n : ℕ) (k : Sorting) (s : Surroundings) (stage : ℕ) where
  abbrev Tops : Ran → Ended → Type 0
  Tops = EndsAs (λ all. TopsTo n k s all stage)

  -- ---- by what leads

  led : (w : ℕ) (r : Ran) (first : List Row) (o : Outcome) → LeadsTo w n k s r (leading.Rows first) → o ≡ outcome.Table true first → Tops r (ended.Gave o)
  led w (came all) first o leads is_so = record { came = Is first; topped_so = leads.0; is = is_so }
  led w (failed m) first o leads is_so = absurd leads

  pub ends_led : (w : ℕ) (r : Ran) (l : Leading) (first : List Row) (o : Outcome) → LeadsTo w n k s r l → l ≡ leading.Rows first → o ≡ outcome.Table true first → Tops r (ended.Gave o)
  ends_led w r l first o leads kept is_so = led w r first o (subst (LeadsTo w n k s r) kept leads) is_so

  lost : (w : ℕ) (r : Ran) → LeadsTo w n k s r leading.Overflow → Tops r (ended.Gave (outcome.Overflow stage))
  lost w (came all) over = record { came = Overflow; topped_so = over; is = refl }
  lost w (failed m) over = absurd over

  pub ends_lost : (w : ℕ) (r : Ran) (l : Leading) → LeadsTo w n k s r l → l ≡ leading.Overflow → Tops r (ended.Gave (outcome.Overflow stage))
  ends_lost w r l over is = lost w r (subst (LeadsTo w n k s r) is over)

  fails : (w : ℕ) (r : Ran) (m : ℕ) → LeadsTo w n k s r (leading.Failed m) → Tops r (ended.Failed m)
  fails w (came all) m over = absurd over
  fails w (failed j) m over = over

  pub ends_failed : (w : ℕ) (r : Ran) (l : Leading) (m : ℕ) → LeadsTo w n k s r l → l ≡ leading.Failed m → Tops r (ended.Failed m)
  ends_failed w r l m leads is = fails w r m (subst (LeadsTo w n k s r) is leads)

  -- ---- by all that came, in the order

  sorted_so : (w : ℕ) (r : Ran) (all : List Row) (t : Computed (List Row)) (o : Outcome) → CollectsTo w r (collected.Rows all) → Topped n k s all t → o ≡ in_stage stage true t → Tops r (ended.Gave o)
  sorted_so w (came rows) all t o collects topped is_so = record { came = t; topped_so = subst (λ (rs : List Row). Topped n k s rs t) collects.0 topped; is = is_so }
  sorted_so w (failed m) all t o collects topped is_so = absurd collects

  pub ends_sorted : (w : ℕ) (r : Ran) (c : Collected) (all : List Row) (t : Computed (List Row)) (o : Outcome) → CollectsTo w r c → c ≡ collected.Rows all → Topped n k s all t → o ≡ in_stage stage true t → Tops r (ended.Gave o)
  ends_sorted w r c all t o collects is topped is_so = sorted_so w r all t o (subst (CollectsTo w r) is collects) topped is_so
