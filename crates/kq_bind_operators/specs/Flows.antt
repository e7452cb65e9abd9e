-- Plans as they grow: a step is added at the end, and names the steps whose rows it takes by their numbers.
use Rattle.std.specs.Prelude.{ℕ, ◌+◌, List, [], ◌∷◌, ◌++◌, length, Option, Some, None, slice_get}
use Rattle.kq_plan.specs.Plans.{Doing, Stepping}
use Rattle.kq_value.specs.declared.schema.Field.{Field}

-- the steps so far, and how many stages the text has had so far
pub record Progressing : Type 0 where
  pub steps : List Stepping
  pub stages : ℕ

-- the same, with the step whose rows go on
pub record Flowing : Type 0 where
  pub progress : Progressing
  pub input : ℕ

abbrev pub columns_of : Option Stepping → List Field
columns_of (Some s) = s.columns
columns_of None = []

-- the columns of a step
abbrev pub columns_at : List Stepping → ℕ → List Field
columns_at ss i = columns_of (slice_get ss i)

-- the columns of the rows that go on
abbrev pub columns : Flowing → List Field
columns w = columns_at w.progress.steps w.input

-- ---- steps

abbrev pub next_stage : Progressing → Progressing
next_stage p = record { steps = p.steps; stages = p.stages + 1 }

-- a step of this stage at the end, whose rows go on
abbrev pub added : Progressing → ℕ → Doing → List Field → Flowing
added p stage doing cs =
    record { progress = record { steps = p.steps ++ record { stage = stage; doing = doing; columns = cs } ∷ []; stages = p.stages }; input = length p.steps }

-- the next stage is this step
abbrev pub following : Progressing → Doing → List Field → Flowing
following p doing cs = added (next_stage p) (p.stages + 1) doing cs

-- the next stage takes the rows that go on
abbrev pub after : Flowing → (ℕ → Doing) → List Field → Flowing
after w doing cs = following w.progress (doing w.input) cs

-- the rows of an earlier step go on, at one stage more
abbrev pub again : Progressing → ℕ → Flowing
again p i = record { progress = next_stage p; input = i }
