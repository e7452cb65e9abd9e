-- What a run comes to.
use Rattle.std.specs.Prelude.{◌≡◌, ◌≢◌, ◌<◌, ◌+◌, ◌⊎◌, ℕ, List, [], ◌∷◌, map, Option, Some, None, All, IsSome, nat_eq, if◌then◌else◌}
use Rattle.kq_world.specs.Outside.{Contents, Rose}
use Rattle.kq_catalog_journal.specs.declared.limits.Limits.{Limits}
use Rattle.kq_catalog_journal.specs.Limits.{AreFull}
use Rattle.kq_catalog_journal.specs.History.{History}
use Rattle.kq_workers.specs.kq_catalog.Seen.{CatalogView, hist, Sound}
use Rattle.kq_program_options.specs.Words.{Asked}
use Rattle.kq_export_ranges.specs.Exported.{IsExported}
use Rattle.kq_session.specs.kq_export_interface.Due.{Holding, nothing_held}
use Rattle.kq_export_run.specs.Held.{ExporterState, exports_in}
use Rattle.kq_session.specs.Complete.{IsComplete, IsUntroubled}
use Rattle.kq_session.specs.Objects.{Objects}
use Rattle.kq_session.specs.Session.{Explained}
use Rattle.kq_program.specs.Scripts.{ByScript, unfailed}
use Rattle.kq_program.specs.Views.{EndedView, Given, RunView, held_by}
use Rattle.kq_program.specs.Whole.{HaveWorked, Whole}
use Rattle.kq_program.specs.Words.{feeds_of, generate_of}

-- from the n-th session on, the history explains each by its script, its objects having told at first what is given. The
-- exporter of the first of them holds this in the end, and those of the others hold nothing
abbrev pub AreExplained : Limits → History → ℕ → Holding → List Given → List EndedView → Type 0
AreExplained limits h n holding [] [] = Unit {0}
AreExplained limits h n holding [] (s ∷ ss) = ⊥
AreExplained limits h n holding (g ∷ given) [] = ⊥
AreExplained limits h n holding (g ∷ given) (s ∷ ss) = ByScript (Explained limits h n holding) g.generate (unfailed g.contents) s.session × AreExplained limits h (n + 1) nothing_held given ss

-- the headline: the catalogue is sound, its commits are the sessions' and each of its events has its cause, there is session 0 and then one session
-- per feed,
-- the catalogue's one history explains each, and the artefacts hold what the exports of session 0 give over it
pub record Headline (workers : ℕ) (feeds : List (List ℕ)) (given : List Given) (c : CatalogView) (e : ExporterState) (sessions : List EndedView) : Type 0 where
  pub sound : Sound c
  pub whole : Whole workers (hist c) sessions
  pub named : map (λ (s : EndedView). s.name) sessions ≡ [] ∷ feeds
  pub explained : AreExplained c.limits (hist c) 0 (held_by e) given sessions
  pub exported : IsExported (hist c) (exports_in e) e.puts

-- the first status that isn't 0
abbrev pub first_status : List EndedView → ℕ
first_status [] = 0
first_status (s ∷ ss) = if nat_eq s.session.status 0 then first_status ss else s.session.status

-- the status tells of a fault of the source or of the sink exactly where it failed
pub record IsCaused (s : EndedView) : Type 0 where
  pub source : s.session.status ≡ 3 → 0 < s.session.objects.source_faults
  pub sink : s.session.status ≡ 4 → 0 < s.session.objects.sink_faults
  pub source_stays : s.session.status ≢ 3 → s.session.objects.source_faults ≡ 0
  pub sink_stays : s.session.status ≢ 4 → s.session.objects.sink_faults ≡ 0

-- a run that began its sessions
pub record RanSessions (workers : ℕ) (feeds : List (List ℕ)) (given : List Given) (status : ℕ) (c : CatalogView) (e : ExporterState) (sessions : List EndedView) : Type 0 where
  pub headline : Headline workers feeds given c e sessions
  pub workers_did : HaveWorked c.limits (hist c) (hist c) workers
  pub limits : AreFull c.limits
  pub status_is : status ≡ first_status sessions
  pub caused : All IsCaused sessions

-- the sessions were begun and left a catalogue and an exporter, or neither
abbrev pub RanBy : ℕ → List (List ℕ) → List Given → ℕ → Option CatalogView → Option ExporterState → List EndedView → Type 0
RanBy workers feeds given status None None sessions = (sessions ≡ []) × ((status ≡ 2) ⊎ (status ≡ 5) ⊎ (status ≡ 1))
RanBy workers feeds given status None (Some e) sessions = ⊥
RanBy workers feeds given status (Some c) None sessions = ⊥
RanBy workers feeds given status (Some c) (Some e) sessions = RanSessions workers feeds given status c e sessions

-- what the sessions are given: session 0, whose script may be generated, and then the feeds, whose scripts are their own
abbrev pub given_to_sessions : Option ℕ → Contents → (List ℕ → Contents) → List (List ℕ) → List Given
given_to_sessions generate first of_feed feeds = record { generate = generate; contents = first } ∷ map (λ (name : List ℕ). record { generate = None; contents = of_feed name }) feeds

-- a run with so many workers, which has a catalogue and an exporter exactly where it began its sessions
abbrev pub RunsProgram : ℕ → Option ℕ → List (List ℕ) → Contents → (List ℕ → Contents) → RunView → Type 0
RunsProgram workers generate feeds first of_feed run = RanBy workers feeds (given_to_sessions generate first of_feed feeds) run.status run.catalog run.export run.sessions

-- ---- completeness

-- nothing troubled a session. A generated script can't fail and has fewer bytes than a session takes, so that only the
-- sink can trouble a session that has one
abbrev pub IsUntroubledBy : Option ℕ → Objects → Objects → Type 0
IsUntroubledBy None before now = IsUntroubled before now
IsUntroubledBy (Some n) before now = ¬ Rose before.sink_faults now.sink_faults

-- nothing troubled the sessions, whose sources and sinks had not failed at first
abbrev pub AreUntroubled : List Given → List EndedView → Type 0
AreUntroubled [] [] = Unit {0}
AreUntroubled [] (s ∷ ss) = ⊥
AreUntroubled (g ∷ given) [] = ⊥
AreUntroubled (g ∷ given) (s ∷ ss) = IsUntroubledBy g.generate (unfailed g.contents) s.session.objects × AreUntroubled given ss

-- from the n-th session on, each is complete by its script, where the exporter of the first of them holds this in the end
abbrev pub AreComplete : Limits → History → ℕ → Holding → List Given → List EndedView → Type 0
AreComplete limits h n holding [] [] = Unit {0}
AreComplete limits h n holding [] (s ∷ ss) = ⊥
AreComplete limits h n holding (g ∷ given) [] = ⊥
AreComplete limits h n holding (g ∷ given) (s ∷ ss) = ByScript (IsComplete limits h n holding) g.generate (unfailed g.contents) s.session × AreComplete limits h (n + 1) nothing_held given ss

-- the sessions, where they were begun
abbrev pub AreCompleteBy : Option CatalogView → Option ExporterState → List Given → List EndedView → Type 0
AreCompleteBy None export given sessions = Unit {0}
AreCompleteBy (Some c) None given sessions = ⊥
AreCompleteBy (Some c) (Some e) given sessions = AreComplete c.limits (hist c) 0 (held_by e) given sessions

-- the run ended with 0 or 1, and each of its sessions is complete
pub record IsCompleteRun (given : List Given) (run : RunView) : Type 0 where
  pub status : (run.status ≡ 0) ⊎ (run.status ≡ 1)
  pub sessions : AreCompleteBy run.catalog run.export given run.sessions

-- where the words have the form, the World failed in no opening and nothing troubled a session, the run is complete
abbrev pub CompletesRun : Option Asked → ℕ → ℕ → Contents → (List ℕ → Contents) → RunView → Type 0
CompletesRun said count_before count_now first of_feed run =
    let given = given_to_sessions (generate_of said) first of_feed (feeds_of said) in
    IsSome said → ¬ Rose count_before count_now → (IsSome run.catalog → AreUntroubled given run.sessions) → IsCompleteRun given run
