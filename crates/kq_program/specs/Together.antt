-- What sessions that are served together come to.
use Rattle.std.specs.Prelude.{◌≡◌, ◌+◌, ◌++◌, ℕ, ℤ, Bool, true, List, [], ◌∷◌, Some, All, sum_by}
use mathlib.Core.List.{IsPrefix}
use Rattle.kq_world.specs.Outside.{SourceView}
use Rattle.kq_world.specs.declared.outside.Parts.{Parts}
use Rattle.kq_catalog_journal.specs.declared.event.Event.{Event}
use Rattle.kq_catalog_journal.specs.declared.limits.Limits.{Limits}
use Rattle.kq_catalog_journal.specs.History.{History}
use Rattle.kq_workers.specs.kq_engine.Shared.{PassView}
use Rattle.kq_session.specs.declared.end.End.TheVariants.{Short}
use Rattle.kq_session.specs.Objects.{Objects, objects}
use Rattle.kq_session.specs.Session.{Explained, is_receipted, owns}
use Rattle.kq_session.specs.Exchanges.{Rises}
use Rattle.kq_session.specs.kq_export_interface.Due.{ExporterView, Holding, nothing_held}
use Rattle.kq_program.specs.Scripts.{ByScript}
use Rattle.kq_program.specs.Views.{OpenedView, EndedView}
use Rattle.kq_program.specs.Whole.{HaveWorked, is_caused}

-- an exporter that serves or not, and was asked for nothing yet
pub record IsUnasked (serves : Bool) (e : ExporterView) : Type 0 where
  pub serves_so : e.serves ≡ serves
  pub holds_nothing : e.holding ≡ nothing_held
  pub saw_nothing : e.seen ≡ []

-- the session of an actor, whose exporter holds this in the end, was served: the history explains it by its script, and its
-- faults have their causes
pub record IsServed (limits : Limits) (h : History) (actor : ℕ) (holding : Holding) (o : OpenedView) (s : EndedView) : Type 0 where
  pub named : s.name ≡ o.name
  pub explained : ByScript (Explained limits h actor holding) o.generate o.objects s.session
  pub source : Rises o.objects.source_faults s.session.objects.source_faults (s.session.status ≡ 3)
  pub sink : Rises o.objects.sink_faults s.session.objects.sink_faults (s.session.status ≡ 4)

-- a session that is to be served by the generated script of so many rows, its parts each by its own meanings
abbrev pub scripted : {S K C : Type 0} → (S → SourceView) → (S → ℕ) → (K → List ℕ) → (K → ℕ) → (C → List ℤ) → List ℕ → ℕ → Parts S K C → OpenedView
scripted told source_faults accepted sink_faults readings name rows parts = record { name = name; generate = Some rows; objects = objects told source_faults accepted sink_faults readings parts }

-- a session that ended before its first receipt, for want of memory
abbrev pub unserved : List ℕ → Objects → EndedView
unserved name objects = record { name = name; session = record { objects = objects; receipts = []; refused = Some 0; end = Short; status = 1 } }

-- from the n-th session on, each was served. The exporter of the first of them holds this in the end, and those of the others
-- hold nothing
abbrev pub AreServed : Limits → History → ℕ → Holding → List OpenedView → List EndedView → Type 0
AreServed limits h n holding [] [] = Unit {0}
AreServed limits h n holding [] (s ∷ ss) = ⊥
AreServed limits h n holding (o ∷ os) [] = ⊥
AreServed limits h n holding (o ∷ os) (s ∷ ss) = IsServed limits h n holding o s × AreServed limits h (n + 1) nothing_held os ss

-- how many commits the sessions' receipts tell
abbrev pub all_owns : List EndedView → ℕ
all_owns = sum_by (λ (s : EndedView). owns s.session.receipts)

-- a pass went through sessions: it has seen at least as much, the events made through it since have this cause, and the commits
-- among them are the sessions'; a worker's went through none
pub record Passed (cause : Event → Bool) (old new : PassView) (sessions : List EndedView) : Type 0 where
  pub events : History
  pub added : new.added ≡ old.added ++ events
  pub caused : All (λ (e : Event). cause e ≡ true) events
  pub of : new.of ≡ old.of
  pub worth : new.worth ≡ old.worth
  pub seen : IsPrefix old.seen new.seen
  pub made : new.made ≡ old.made + all_owns sessions

-- the session of an actor was served through a pass, and this is its exporter in the end, which was asked over no more than the
-- pass has seen
pub record ServedOne (limits : Limits) (old new : PassView) (actor : ℕ) (e : ExporterView) (o : OpenedView) (s : EndedView) : Type 0 where
  pub passed : Passed (is_receipted actor s.session.receipts) old new (s ∷ [])
  pub served : IsServed limits new.seen actor e.holding o s
  pub behind : IsPrefix e.seen new.seen

-- all sessions were served through a pass, the first with this exporter, and beside them so many workers went to work
pub record ServedAll (limits : Limits) (workers : ℕ) (old new : PassView) (e : ExporterView) (os : List OpenedView) (ss : List EndedView) : Type 0 where
  pub passed : Passed (is_caused workers ss) old new ss
  pub served : AreServed limits new.seen 0 e.holding os ss
  pub behind : IsPrefix e.seen new.seen

-- and these workers made just their own of the events
pub record ServedBeside (limits : Limits) (workers : ℕ) (old new : PassView) (e : ExporterView) (os : List OpenedView) (ss : List EndedView) : Type 0 where
  pub all : ServedAll limits workers old new e os ss
  pub worked : HaveWorked limits new.seen all.passed.events workers
