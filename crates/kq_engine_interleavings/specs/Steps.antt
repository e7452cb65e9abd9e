-- What a list of steps comes to.
use Rattle.std.specs.Prelude.{◌++◌, ◌≡◌, ◌<◌, slice_index_or, ◌≤◌, ◌+◌, ◌||◌, ◌⊎◌, ℕ, Bool, true, false, List, [], ◌∷◌, length, take, Option, Some, None, All, count_by, if◌then◌else◌}
use Rattle.std.specs.List.{flat_map}
use Rattle.kq_catalog_journal.specs.declared.event.By.{By}
use Rattle.kq_catalog_journal.specs.declared.event.Operation.{Operation}
use Rattle.kq_catalog_journal.specs.declared.limits.Limits.{Limits}
use Rattle.kq_catalog_journal.specs.History.{History, CommitAt, commits_at}
use Rattle.kq_catalog_journal.specs.Requests.{same_by}
use Rattle.kq_catalog.specs.Seen.{CatalogView, Sound}
use Rattle.kq_engine_interleavings.specs.declared.run.Running.{Running}
use Rattle.kq_engine_interleavings.specs.declared.run.Step.{Step}
use Rattle.kq_engine_interleavings.specs.declared.run.Step.TheVariants.{Begin, Finish}
use Rattle.kq_engine_interleavings.specs.declared.run.Told.{Told}
use Rattle.kq_engine_interleavings.specs.declared.prepared.Prepared.{Prepared}
use Rattle.kq_engine.specs.declared.work.Work.{Work}
use Rattle.kq_engine_prepare.specs.Fits.{Fits, MayMake, event_by, own_commit}
use Rattle.kq_engine_prepare.specs.Found.{IsReady, MayWantMemory}
use Rattle.kq_engine_prepare.specs.Merges.{NamesAll}
use Rattle.kq_reply.specs.declared.refusal.Refusal.TheVariants as refusals
use Rattle.kq_reply.specs.declared.reply.Reply.TheVariants as replies

-- prepared on a snapshot of this history
pub record IsPrepared (limits : Limits) (h : History) (prepared : Prepared) : Type 0 where
  pub at : prepared.place ≡ length h
  pub is_ready : IsReady limits h prepared.work.now prepared.work.command prepared.found

-- what `begin` gives
pub record BeginsWork (limits : Limits) (h : History) (work : Work) (prepared : Prepared) : Type 0 where
  pub prepared_here : IsPrepared limits h prepared
  pub same_work : prepared.work ≡ work

-- the work of a request id's first Begin
abbrev pub work_of : By → List Step → Option Work
work_of b [] = None
work_of b (Begin w ∷ steps) = if same_by w.by b then Some w else work_of b steps
work_of b (Finish c ∷ steps) = work_of b steps

abbrev pub has_finish : By → List Step → Bool
has_finish b [] = false
has_finish b (Begin w ∷ steps) = has_finish b steps
has_finish b (Finish c ∷ steps) = same_by c b || has_finish b steps

-- whether a Finish follows a request id's first Begin
abbrev pub is_finished : By → List Step → Bool
is_finished b [] = false
is_finished b (Begin w ∷ steps) = if same_by w.by b then has_finish b steps else is_finished b steps
is_finished b (Finish c ∷ steps) = is_finished b steps

-- the place that a request id's first Begin found, out of those that the steps found
abbrev pub place_of : By → List Step → List ℕ → Option ℕ
place_of b [] found = None
place_of b (Begin w ∷ steps) [] = None
place_of b (Begin w ∷ steps) (place ∷ found) = if same_by w.by b then Some place else place_of b steps found
place_of b (Finish c ∷ steps) [] = None
place_of b (Finish c ∷ steps) (place ∷ found) = place_of b steps found

abbrev pub request_of : Step → By
request_of (Begin w) = w.by
request_of (Finish b) = b

abbrev pub tells : By → Told → Bool
tells b t = same_by t.by b

-- the commits of the outcomes that made one
abbrev pub commits_told : List Told → List CommitAt
commits_told = flat_map (λ (t : Told). own_commit t.outcome.own t.outcome.place t.by)

-- a moment of a run: the steps taken, the place of the history that each of them found, the history, and the outcomes in the order of the steps that
-- gave them
pub record Moment : Type 0 where
  pub steps : List Step
  pub found : List ℕ
  pub history : History
  pub outcomes : List Told

abbrev pub start : Moment
start = record { steps = []; found = []; history = []; outcomes = [] }

-- no commit, at the place where its work began
pub record IsBare (t : Told) : Type 0 where
  pub not_own : t.outcome.own ≡ false
  pub place : t.outcome.place ≡ t.began

-- an outcome fits the history, for the work of its request id's first Begin, which found the place `began`; a merge that it tells is of all that were
-- picked since the work began and a fold up to all that stood there, one that no Finish asked for is bare, and want of memory is told only where the
-- command takes memory
pub record Tells (limits : Limits) (m : Moment) (t : Told) : Type 0 where
  pub work : Work
  pub asked : work_of t.by m.steps ≡ Some work
  pub found : place_of t.by m.steps m.found ≡ Some t.began
  pub fits : Fits limits m.history t.by work.command work.now t.outcome.place t.outcome.own t.outcome.reply
  pub since : t.began ≤ t.outcome.place
  pub names_all : NamesAll (take t.outcome.place m.history) t.began t.outcome.reply
  pub memory : t.outcome.reply ≡ replies.Refused refusals.Memory → MayWantMemory (take t.began m.history) (take t.outcome.place m.history) work.command
  pub finished : (is_finished t.by m.steps ≡ true) ⊎ IsBare t

-- what holds at each moment: its commits are those of the outcomes with `own`, no request id has two outcomes, and each that was finished has one
pub record Accounts (limits : Limits) (m : Moment) : Type 0 where
  pub each : All (Tells limits m) m.outcomes
  pub commits : commits_at m.history ≡ commits_told m.outcomes
  pub at_most_once : (b : By) → count_by (tells b) m.outcomes ≤ 1
  pub finished : (b : By) → is_finished b m.steps ≡ true → count_by (tells b) m.outcomes ≡ 1

-- a Begin makes no event, and gives nothing where its request id was begun before
abbrev pub ByStep : List Step → Step → Option Operation → List Told → Type 0
ByStep before (Begin w) made gave = (made ≡ None) × ((first : Work) → work_of w.by before ≡ Some first → gave ≡ [])
ByStep before (Finish b) made gave = Unit {0}

-- what a step gave tells of what it made: the operation is that of the work, beside the reply
abbrev pub TellsOf : Limits → Moment → List Step → Option Operation → Told → Type 0
TellsOf limits old steps made t = (work : Work) × (work_of t.by steps ≡ Some work) × MayMake limits old.history work.command t.outcome.reply made

-- a step leads to the next moment: it gives at most one outcome and makes at most one event, both of its request id, no event without an outcome, and
-- none that isn't its command's
pub record Leads (limits : Limits) (old : Moment) (s : Step) (new : Moment) : Type 0 where
  pub steps : new.steps ≡ old.steps ++ s ∷ []
  pub found : new.found ≡ old.found ++ length old.history ∷ []
  pub made : Option Operation
  pub history : new.history ≡ old.history ++ event_by (request_of s) made
  pub gave : List Told
  pub outcomes : new.outcomes ≡ old.outcomes ++ gave
  pub one : length gave ≤ 1
  pub requested : All (λ (t : Told). t.by ≡ request_of s) gave
  pub no_more : gave ≡ [] → made ≡ None
  pub makes : All (TellsOf limits old new.steps made) gave
  pub by_step : ByStep old.steps s made gave

-- these steps lead from one moment to another, and each moment on the way accounts for its steps
abbrev pub Runs : Limits → Moment → List Step → Moment → Type 0
Runs limits old [] new = old ≡ new
Runs limits old (s ∷ steps) new = (next : Moment) × Leads limits old s next × Accounts limits next × Runs limits next steps new

-- what a run comes to: a sound catalogue with the limits that were given, and the outcomes to which the steps lead from nothing
pub record IsTrace (limits : Limits) (steps : List Step) (catalog : CatalogView) (outcomes : List Told) : Type 0 where
  pub same_limits : catalog.limits ≡ limits
  pub sound : Sound catalog
  pub found : List ℕ
  pub runs : Runs limits start steps (record { steps = steps; found = found; history = catalog.history; outcomes = outcomes })

abbrev pub opens : By → Prepared → Bool
opens b p = same_by p.work.by b

-- prepared on a beginning of this history, for the work of its request id's first Begin, which found this place
pub record IsOpen (limits : Limits) (m : Moment) (p : Prepared) : Type 0 where
  pub prepared : IsPrepared limits (take p.place m.history) p
  pub asked : work_of p.work.by m.steps ≡ Some p.work
  pub found : place_of p.work.by m.steps m.found ≡ Some p.place

-- the prepared work may be finished on this catalogue
abbrev pub AreWaiting : CatalogView → List Prepared → Type 0
AreWaiting catalog open_ones = All (λ p. IsPrepared catalog.limits (take p.place catalog.history) p) open_ones

-- an element passes the test
abbrev pub IsAt : {X : Type 0} → (X → Bool) → List X → ℕ → Type 0
IsAt {X} test xs i = (i < length xs) × ((d : X) → test (slice_index_or xs i d) ≡ true)

abbrev pub one_if_some : Option Work → ℕ
one_if_some None = 0
one_if_some (Some w) = 1

-- what holds while a run goes on: a request id that was begun has its work waiting or an outcome, and none that was finished waits
pub record IsRun (limits : Limits) (steps : List Step) (catalog : CatalogView) (open_ones : List Prepared) (outcomes : List Told) : Type 0 where
  pub same_limits : catalog.limits ≡ limits
  pub found : List ℕ
  pub counted : length found ≡ length steps
  pub runs : Runs limits start steps (record { steps = steps; found = found; history = catalog.history; outcomes = outcomes })
  pub waiting : All (IsOpen limits (record { steps = steps; found = found; history = catalog.history; outcomes = outcomes })) open_ones
  pub each : All (Tells limits (record { steps = steps; found = found; history = catalog.history; outcomes = outcomes })) outcomes
  pub commits : commits_at catalog.history ≡ commits_told outcomes
  pub once : (b : By) → count_by (opens b) open_ones + count_by (tells b) outcomes ≡ one_if_some (work_of b steps)
  pub gone : (b : By) → is_finished b steps ≡ true → count_by (opens b) open_ones ≡ 0

-- one more step of a run leads from one state of it to another
abbrev pub RunGoesOn : Running → Step → Running → Type 0
RunGoesOn old step new = (limits : Limits) (done : List Step)
    → IsRun limits done old.catalog old.waiting.items old.outcomes.items → IsRun limits (done ++ step ∷ []) new.catalog new.waiting.items new.outcomes.items
