-- A session by its own or a generated script.
use Rattle.std.proofs.Common.{◌≡◌, ℕ, Bool, true, false, List, [], Option, Some, None, refl, sym, subst, arith, inl, inr, add-zero, append-nil}
use Rattle.std.proofs.lemmas.List.Elements.{All-nil}
use Rattle.std.proofs.lemmas.List.Sums.{sum_by-cons}
use mathlib.Core.List.{IsPrefix}
use Rattle.kq_lock.proofs.Beginnings.{IsPrefix-refl}
use Rattle.kq_world.specs.Outside.{Contents, SourceView}
use Rattle.kq_world.proofs.Faults.{same-later}
use Rattle.kq_catalog_journal.specs.declared.event.Event.{Event}
use Rattle.kq_catalog_journal.specs.declared.limits.Limits.{Limits}
use Rattle.kq_catalog_journal.specs.History.{History}
use Rattle.kq_workers.specs.kq_engine.Shared.{PassView}
use Rattle.kq_session.specs.declared.end.End.{End}
use Rattle.kq_session.specs.Ends.{status_of}
use Rattle.kq_session.specs.Objects.{Objects, SessionView}
use Rattle.kq_session.specs.Session.{SessionEnds, Explained, IsShortFor, PassGoesOn, is_receipted, owns}
use Rattle.kq_session.specs.Blocks.{GoesOn}
use Rattle.kq_session.specs.Exchanges.{Rises}
use Rattle.kq_session.proofs.Serving.{SessionEnds-none}
use Rattle.kq_session.specs.kq_export_interface.Due.{ExporterView, Holding}
use Rattle.kq_script_generated.specs.Commands.{script}
use Rattle.kq_script_generated.specs.Source.{ScriptState, script_read, script_told, script_unread}
use Rattle.kq_script_generated.proofs.Reading.{told-since}
use Rattle.kq_program.specs.Scripts.{ByScript, as_reading, unfailed, with_source}
use Rattle.kq_program.specs.Together.{IsUnasked, ServedOne, all_owns, unserved}
use Rattle.kq_program.specs.Views.{EndedView, OpenedView}

-- what follows for a session whatever its source, follows for one by its script
pub ByScript-map : (P Q : Contents → SessionView → Type 0) → ((before : Contents) (s : SessionView) → P before s → Q before s) → (generate : Option ℕ) (before : Objects) (s : SessionView) → ByScript P generate before s → ByScript Q generate before s
ByScript-map P Q follows None before s holds = follows before.contents s holds
ByScript-map P Q follows (Some n) before s holds = record {
  source = holds.source;
  source_faults = holds.source_faults;
  at = holds.at;
  ended = holds.ended;
  holds = follows (with_source (script_unread n) before.contents) (as_reading (script_read n holds.at holds.ended) s) holds.holds;
}

-- a session by the script that it was given, whose objects had not failed yet
pub ByScript-given : (P : Contents → SessionView → Type 0) (o : OpenedView) (generate : Option ℕ) (contents : Contents) (s : SessionView) → o.generate ≡ generate → o.objects.contents ≡ contents → o.objects.source_faults ≡ 0 → o.objects.sink_faults ≡ 0 → ByScript P o.generate o.objects s → ByScript P generate (unfailed contents) s
ByScript-given P o generate contents s is told source sink holds =
    let same : o.objects ≡ unfailed contents = λ i. record { contents = told i; source_faults = source i; sink_faults = sink i } in
    subst (λ (b : Objects). ByScript P generate b s) same (subst (λ (g : Option ℕ). ByScript P g o.objects s) is holds)

-- how a session ended, by its script
pub explained-end : (limits : Limits) (h : History) (actor : ℕ) (holding : Holding) (generate : Option ℕ) (before : Objects) (s : SessionView) → ByScript (Explained limits h actor holding) generate before s → (end : End) × (s.status ≡ status_of end s.receipts)
explained-end limits h actor holding None before s explained = (s.end, explained.by_end)
explained-end limits h actor holding (Some n) before s scripted = (s.end, scripted.holds.by_end)

-- ---- a session that is served by its own script

pub ServedOne-own : (limits : Limits) (old new : PassView) (actor : ℕ) (was e : ExporterView) (name : List ℕ) (before : Objects) (s : SessionView) → PassGoesOn actor old new s.receipts → Explained limits new.seen actor e.holding before.contents s
    → GoesOn new.seen was e → Rises before.source_faults s.objects.source_faults (s.status ≡ 3) → Rises before.sink_faults s.objects.sink_faults (s.status ≡ 4)
    → ServedOne limits old new actor e (record { name = name; generate = None; objects = before }) (record { name = name; session = s })
ServedOne-own limits old new actor was e name before s goes_on explained exporter source sink =
    let total = sum_by-cons (λ (x : EndedView). owns x.session.receipts) (record { name = name; session = s }) [] in
    let none : all_owns [] ≡ 0 = refl in
    record {
      passed = record { events = goes_on.events; added = goes_on.added; caused = goes_on.receipted; of = goes_on.of; worth = goes_on.worth; seen = goes_on.seen; made = omega (arith, goes_on.made, total, none) };
      served = record { named = refl; explained = explained; source = source; sink = sink };
      behind = exporter.behind;
    }

-- ---- a session that is served by a generated script

stays_as : (before now : ℕ) (fault : Type 0) → now ≡ before → (fault → ⊥) → Rises before now fault
stays_as before now fault same never = record { never_falls = same-later before now same; rose = λ f. absurd (never f); stays = λ other. same }

-- a count that can't rise is never that of a fault
no_fault : (fault : Type 0) → Rises 0 0 fault → fault → ⊥
no_fault fault rises f = elim (rises.rose f) [ inl less ↦ omega (arith, less) | inr full ↦ omega (arith, full.0) ]

-- a session that is to be served by it
abbrev pub by_script : List ℕ → ℕ → Objects → OpenedView
by_script name n before = record { name = name; generate = Some n; objects = before }

-- it was read in place of the session's own source
pub ServedOne-script : (limits : Limits) (old new : PassView) (actor n : ℕ) (was e : ExporterView) (name : List ℕ) (first now : ScriptState) (before : Objects) (s : SessionView)
    → first ≡ record { text = script n; at = 0; ended = false } → SessionEnds limits new.seen actor (with_source (script_told first) before.contents) (with_source (script_told now) s.objects.contents) s.receipts e.holding s.end → s.status ≡ status_of s.end s.receipts → IsShortFor s.end s.refused s.receipts
    → PassGoesOn actor old new s.receipts → GoesOn new.seen was e → s.objects.contents.source ≡ before.contents.source → s.objects.source_faults ≡ before.source_faults → Rises 0 0 (s.status ≡ 3) → Rises before.sink_faults s.objects.sink_faults (s.status ≡ 4)
    → ServedOne limits old new actor e (by_script name n before) (record { name = name; session = s })
ServedOne-script limits old new actor n was e name first now before s is_first so by_end short goes_on exporter source faults fault sink =
    let unread = with_source (script_unread n) before.contents in
    let from_first = subst (λ (f : ScriptState). SessionEnds limits new.seen actor (with_source (script_told f) before.contents) (with_source (script_told now) s.objects.contents) s.receipts e.holding s.end) is_first so in
    let total = sum_by-cons (λ (x : EndedView). owns x.session.receipts) (record { name = name; session = s }) [] in
    let none : all_owns [] ≡ 0 = refl in
    let told = told-since n now from_first.bytes from_first.gave in
    record {
      passed = record { events = goes_on.events; added = goes_on.added; caused = goes_on.receipted; of = goes_on.of; worth = goes_on.worth; seen = goes_on.seen; made = omega (arith, goes_on.made, total, none) };
      served = record {
        named = refl;
        explained = record {
          source = source;
          source_faults = faults;
          at = now.at;
          ended = now.ended;
          holds = record { ends = subst (λ (v : SourceView). SessionEnds limits new.seen actor unread (with_source v s.objects.contents) s.receipts e.holding s.end) told from_first; by_end = by_end; short = short };
        };
        source = stays_as before.source_faults s.objects.source_faults (s.status ≡ 3) faults (no_fault (s.status ≡ 3) fault);
        sink = sink;
      };
      behind = exporter.behind;
    }

-- there was no room for it
pub ServedOne-unserved : (limits : Limits) (pass : PassView) (actor n : ℕ) (serves : Bool) (e : ExporterView) (name : List ℕ) (before : Objects) → IsUnasked serves e → ServedOne limits pass pass actor e (by_script name n before) (unserved name before)
ServedOne-unserved limits pass actor n serves e name before unasked =
    let unread = with_source (script_unread n) before.contents in
    record {
      passed = record { events = []; added = sym (append-nil pass.added); caused = All-nil (λ (x : Event). is_receipted actor [] x ≡ true); of = refl; worth = refl; seen = IsPrefix-refl pass.seen; made = sym (add-zero pass.made) };
      served = record {
        named = refl;
        explained = record {
          source = refl;
          source_faults = refl;
          at = 0;
          ended = false;
          holds = record {
            ends = SessionEnds-none limits actor pass.seen unread e.holding unasked.holds_nothing;
            by_end = refl;
            short = refl;
          };
        };
        source = stays_as before.source_faults before.source_faults (1 ≡ 3) refl (λ f. omega (arith, f));
        sink = stays_as before.sink_faults before.sink_faults (1 ≡ 4) refl (λ f. omega (arith, f));
      };
      behind = subst (λ (h : History). IsPrefix h pass.seen) (sym unasked.saw_nothing) (pass.seen, refl);
    }
