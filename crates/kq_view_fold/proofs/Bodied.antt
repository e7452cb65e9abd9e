-- The steps of a view's body.
use Rattle.std.proofs.Common.{◌≡◌, ◌≤◌, ◌+◌, ◌-◌, true, List, [], ◌∷◌, ◌++◌, drop, length, map, take, refl, ap, ◌∙◌, arith, length-append}
use Rattle.std.proofs.lemmas.Bool.{false≢true}
use Rattle.std.proofs.lemmas.List.{take_all}
use Rattle.kq_run_gather.proofs.Arguments.{types_left}
use Rattle.kq_run_gather.proofs.Columns.{last_columns}
use Rattle.kq_run_gather.specs.Bodies.{IsViewBody, aggregates_in, aggregates_of, behind_source, columns_made, is_summarize, keys_in, keys_of, known_alone, types_made}
use Rattle.kq_run_gather.specs.Grouping.{all_made}
use Rattle.kq_run_gather.specs.Steps.{HasColumns, last_of}
use Rattle.kq_plan.specs.declared.plan.Step.{Step}
use Rattle.kq_plan.specs.Plans.{Doing, Planned, Stepping, stepping_of, summarized}
use Rattle.kq_value.specs.declared.schema.Field.{Field}

pub last_end : (x s : Stepping) (xs : List Stepping) → last_of (x ∷ (xs ++ s ∷ [])) ≡ s
last_end x s [] = refl
last_end x s (y ∷ xs) = last_end y s xs

columns_by : (d : Doing) (cs : List Field) → is_summarize d ≡ true → HasColumns d cs → length cs ≡ length (keys_in d) + all_made (aggregates_in d)
columns_by (summarized i es gs) cs is has = has
columns_by d cs is has = absurd (false≢true is)

module _ (p : Planned) (b : IsViewBody p) where
  summarizes : is_summarize (last_of p.steps).doing ≡ true
  summarizes =
      ap (λ (ss : List Stepping). is_summarize (last_of ss).doing) b.body.steps
      ∙ ap (λ (s : Stepping). is_summarize s.doing) (last_end b.body.source b.body.last b.body.by_row) ∙ b.body.groups

  -- a column for each key, and those of the aggregates
  pub body_columns : length (columns_made p) ≡ length (keys_of p) + all_made (aggregates_of p)
  body_columns = columns_by (last_of p.steps).doing (last_of p.steps).columns summarizes (last_columns (known_alone b.columns) [] p.steps b.body.fits)

  pub types_long : length (types_made p) ≡ all_made (aggregates_of p)
  types_long = types_left (columns_made p) (length (keys_of p)) (all_made (aggregates_of p)) body_columns

  pub steps_many : 2 ≤ length p.steps
  steps_many =
      let a = ap length b.body.steps in
      let c = length-append b.body.by_row (b.body.last ∷ []) in
      omega (arith, a, c)

-- as the code has them
pub behind_is : (steps : List Step) → map stepping_of (take (length steps - 1) (drop 1 steps)) ≡ behind_source (map stepping_of steps)
behind_is [] = refl
behind_is (s ∷ steps) = ap (map stepping_of) (take_all (length (s ∷ steps) - 1) steps (omega arith))
