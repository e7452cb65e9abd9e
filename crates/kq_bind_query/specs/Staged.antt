-- The stages of steps, which are numbered by the places in the text, among the steps, which come in the order of their evaluation.
use Rattle.std.specs.Prelude.{◌≡◌, ◌⊎◌, ℕ, suc, ◌+◌, ◌<◌, ◌≤◌, List, [], ◌∷◌, ◌++◌, All, Some, length, slice_get}
use Rattle.kq_plan.specs.Plans.{Filling, Doing, kept, mapped, cut, counted, sorted, topped, apart, summarized, joined, united, expanded, Stepping, Planned}

-- a step of this number is among so many
abbrev pub IsArmBefore : ℕ → Filling → Type 0
IsArmBefore n arm = arm.0 < n

-- what a step takes, where so many of the steps before it are earlier in the text too, and so many are its own, which stand behind it there: none but
-- joins and unions
-- have steps of their own, the left rows of a join are of an earlier step, and its right rows of the last of its own, if it has any
abbrev pub Takes : ℕ → ℕ → Doing → Type 0
Takes earlier own (kept i e) = (own ≡ 0) × (i < earlier)
Takes earlier own (mapped i es) = (own ≡ 0) × (i < earlier)
Takes earlier own (cut i n) = (own ≡ 0) × (i < earlier)
Takes earlier own (counted i) = (own ≡ 0) × (i < earlier)
Takes earlier own (sorted i ks) = (own ≡ 0) × (i < earlier)
Takes earlier own (topped i n k) = (own ≡ 0) × (i < earlier)
Takes earlier own (apart i is) = (own ≡ 0) × (i < earlier)
Takes earlier own (summarized i es gs) = (own ≡ 0) × (i < earlier)
Takes earlier own (expanded i e at t) = (own ≡ 0) × (i < earlier)
Takes earlier own (joined k i j on) = (i < earlier) × (j < earlier + own) × ((own ≡ 0) ⊎ (suc j ≡ earlier + own))
Takes earlier own (united arms) = All (IsArmBefore (earlier + own)) arms
Takes earlier own d = own ≡ 0

abbrev pub IsStageBelow : ℕ → Stepping → Type 0
IsStageBelow n s = s.stage < n

abbrev pub IsStageAbove : ℕ → Stepping → Type 0
IsStageAbove n s = n < s.stage

-- the steps before a step: the earlier ones have lower stages, and its own, as those of a join's right side, come last and have higher ones
pub record IsPlaced (before : List Stepping) (s : Stepping) : Type 0 where
  pub earlier : List Stepping
  pub own : List Stepping
  pub parts : before ≡ earlier ++ own
  pub lower : All (IsStageBelow s.stage) earlier
  pub higher : All (IsStageAbove s.stage) own
  pub takes : Takes (length earlier) (length own) s.doing

-- each step is placed among those before it
abbrev pub ArePlaced : List Stepping → List Stepping → Type 0
ArePlaced before [] = Unit {0}
ArePlaced before (s ∷ ss) = IsPlaced before s × ArePlaced (before ++ s ∷ []) ss

-- steps of one stage are one step
abbrev pub HaveOwnStages : List Stepping → Type 0
HaveOwnStages ss = (i j : ℕ) (s t : Stepping) → slice_get ss i ≡ Some s → slice_get ss j ≡ Some t → s.stage ≡ t.stage → i ≡ j

-- stages are numbered from 1 to so many
abbrev pub IsStage : ℕ → Stepping → Type 0
IsStage number s = (1 ≤ s.stage) × (s.stage ≤ number)

-- the stages of a plan for a text of so many
pub record IsStaged (number : ℕ) (p : Planned) : Type 0 where
  pub stages : All (IsStage number) p.steps
  pub own : HaveOwnStages p.steps
  pub placed : ArePlaced [] p.steps
  pub output : p.output < length p.steps
