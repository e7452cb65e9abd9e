-- A plan reads a world at its leaves alone: where another world may give as much there, the plan may give as much over it.
use Rattle.std.proofs.Common.{◌≡◌, ℕ, ℤ, List, [], ◌∷◌, ◌++◌, All}
use Rattle.std.proofs.lemmas.List.Elements.{All-head, All-tail}
use Rattle.kq_value.specs.Computed.{Computed}
use Rattle.kq_plan.specs.Plans.{Doing, Planned, Stepping, leaf, one_row, numbers, written, scalar, kept, mapped, cut, counted, sorted, topped, apart, summarized, joined, united, expanded}
use Rattle.kq_value.specs.declared.schema.Field.{Field}
use Rattle.kq_run_plan.specs.declared.outcome.Outcome.{Outcome}
use Rattle.kq_run_plan.specs.Gives.{Does, Follows, Gives, World}
use Rattle.kq_run_plan.specs.Outcomes.{Row, is_fault}
use Rattle.kq_run_plan.proofs.Agreed.{MatchBool-then}

-- whatever one world gives a leaf, another gives too; what is no leaf reads neither
abbrev pub ReadsIn : World → World → Doing → List Field → Type 0
ReadsIn w v (leaf k said) cs = (given : Computed (List Row)) → w said k cs given → v said k cs given
ReadsIn w v d cs = Unit {0}

-- the same of a step
abbrev pub StepReads : World → World → Stepping → Type 0
StepReads w v s = ReadsIn w v s.doing s.columns

does_wider : (w v : World) (now : ℤ) (before : List Stepping) (done : List Outcome) (stage : ℕ) (cs : List Field) (d : Doing) (o : Outcome) → ReadsIn w v d cs → Does w now before done stage cs d o → Does v now before done stage cs d o
does_wider w v now before done stage cs (leaf k said) o reads (given, may, is) = (given, reads given may, is)
does_wider w v now before done stage cs (one_row es) o reads does = does
does_wider w v now before done stage cs (numbers from to by) o reads does = does
does_wider w v now before done stage cs (written rows) o reads does = does
does_wider w v now before done stage cs (scalar e) o reads does = does
does_wider w v now before done stage cs (kept i e) o reads does = does
does_wider w v now before done stage cs (mapped i es) o reads does = does
does_wider w v now before done stage cs (cut i n) o reads does = does
does_wider w v now before done stage cs (counted i) o reads does = does
does_wider w v now before done stage cs (sorted i ks) o reads does = does
does_wider w v now before done stage cs (topped i n k) o reads does = does
does_wider w v now before done stage cs (apart i is) o reads does = does
does_wider w v now before done stage cs (summarized i es gs) o reads does = does
does_wider w v now before done stage cs (joined kind i j on) o reads does = does
does_wider w v now before done stage cs (united arms) o reads does = does
does_wider w v now before done stage cs (expanded i e at t) o reads does = does

follows_wider : (w v : World) (now : ℤ) (before : List Stepping) (done : List Outcome) (steps : List Stepping) (output : ℕ) (o : Outcome) → All (StepReads w v) steps → Follows w now before done steps output o → Follows v now before done steps output o
follows_wider w v now before done [] output o all is = is
follows_wider w v now before done (s ∷ steps) output o all (x, does, next) = (
  x,
  does_wider w v now before done s.stage s.columns s.doing x (All-head (StepReads w v) s steps all) does,
  MatchBool-then (o ≡ x) (is_fault x) (λ no_fault more. follows_wider w v now (before ++ s ∷ []) (done ++ x ∷ []) steps output o (All-tail (StepReads w v) s steps all) more) next,
)

-- what a plan gives over one world it gives over another that gives its leaves as much
pub Gives-wider : (p : Planned) (w v : World) (now : ℤ) (o : Outcome) → All (StepReads w v) p.steps → Gives p w now o → Gives p v now o
Gives-wider p w v now o all gives = follows_wider w v now [] [] p.steps p.output o all gives
