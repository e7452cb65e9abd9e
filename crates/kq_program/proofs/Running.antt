-- A run of all sessions.
use Rattle.std.proofs.Common.{◌≡◌, ◌≢◌, ◌<◌, ◌+◌, ◌++◌, ℕ, Bool, true, false, cond, not, count_by, List, [], ◌∷◌, length, map, Option, None, All, nat_eq, refl, ap, sym, ◌∙◌, subst, arith, inl, inr}
use Rattle.std.proofs.lemmas.List.Elements.{All-cons, All-head, All-nil, All-tail}
use Rattle.std.proofs.lemmas.List.Sums.{sum_by-cons}
use mathlib.Core.List.{IsPrefix}
use Rattle.kq_lock.proofs.Beginnings.{IsPrefix-trans}
use Rattle.kq_world.specs.Outside.{Contents, Rose}
use Rattle.kq_catalog_journal.specs.declared.event.Event.{Event}
use Rattle.kq_catalog_journal.specs.declared.limits.Limits.{Limits}
use Rattle.kq_catalog_journal.specs.Limits.{AreFull}
use Rattle.kq_catalog_journal.specs.History.{History, cursor}
use Rattle.kq_workers.specs.kq_catalog.Seen.{CatalogView, hist, Sound}
use Rattle.kq_workers.specs.kq_engine.Shared.{PassView}
use Rattle.kq_export_ranges.specs.Exported.{IsExported}
use Rattle.kq_export_ranges.proofs.Exported.{IsExported-later}
use Rattle.kq_session.specs.kq_export_interface.Due.{ExporterView, Holding, nothing_held}
use Rattle.kq_export_run.specs.Held.{ExporterState, exports_in, told_of}
use Rattle.kq_session.specs.declared.end.End.{End}
use Rattle.kq_session.specs.declared.end.End.TheVariants.{Finished, Short, SourceFault, SinkFault, InputLimit}
use Rattle.kq_session.specs.declared.receipt.Receipt.{Receipt}
use Rattle.kq_session.specs.Ends.{status_of, wants_memory}
use Rattle.kq_session.specs.Session.{Explained}
use Rattle.kq_program.specs.Headline.{RanSessions, AreExplained, IsCaused, first_status, given_to_sessions}
use Rattle.kq_program.specs.Opening.{AreOpened}
use Rattle.kq_program.specs.Together.{IsServed, AreServed, ServedAll, ServedBeside}
use Rattle.kq_program.specs.Views.{EndedView, Given, OpenedView, held_by}
use Rattle.kq_program.specs.Whole.{HaveWorked, is_caused}
use Rattle.kq_program.proofs.Beside.{HaveWorked-all}
use Rattle.kq_program.proofs.Scripting.{ByScript-given, explained-end}
use Rattle.kq_program.proofs.Serving.{AreServed-later}
use Rattle.kq_program.proofs.Wholes.{AreServed-owned, Whole-owned}

-- ---- events

abbrev failing : Bool → ℕ
failing b = cond (not b) 1 0

none_fails : (test : Event → Bool) (h : History) → All (λ (e : Event). test e ≡ true) h → count_by (λ (e : Event). not (test e)) h ≡ 0
none_fails test [] all = refl
none_fails test (e ∷ h) all =
    let here : failing (test e) ≡ 0 = ap failing (All-head (λ (x : Event). test x ≡ true) e h all) in
    let rest = none_fails test h (All-tail (λ (x : Event). test x ≡ true) e h all) in
    omega (arith, sum_by-cons (λ (x : Event). failing (test x)) e h, here, rest)

all_pass : (test : Event → Bool) (h : History) → count_by (λ (e : Event). not (test e)) h ≡ 0 → All (λ (e : Event). test e ≡ true) h
all_pass test [] none = All-nil (λ (e : Event). test e ≡ true)
all_pass test (e ∷ h) none =
    let cons = sum_by-cons (λ (x : Event). failing (test x)) e h in
    All-cons (λ (x : Event). test x ≡ true) e h (passes (test e) refl (omega (arith, cons, none))) (all_pass test h (omega (arith, cons, none)))
  where
    passes : (b : Bool) → test e ≡ b → failing (test e) ≡ 0 → test e ≡ true
    passes true is zero = is
    passes false is zero = let one : failing (test e) ≡ 1 = ap failing is in absurd (omega (arith, one, zero))

-- what is so of all events that were added is so of each of the history, which has just these
all_caused : (test : Event → Bool) (h added : History) → ((t : Event → Bool) → count_by t h ≡ count_by t added) → All (λ (e : Event). test e ≡ true) added → All (λ (e : Event). test e ≡ true) h
all_caused test h added counts all = all_pass test h (counts (λ (e : Event). not (test e)) ∙ none_fails test added all)

-- ---- all sessions

-- what a feed is given
abbrev own_script : (List ℕ → Contents) → List ℕ → Given
own_script told name = record { generate = None; contents = told name }

explained_all : (limits : Limits) (h : History) (n : ℕ) (told : List ℕ → Contents) (names : List (List ℕ)) (os : List OpenedView) (ss : List EndedView) → AreOpened told names os → AreServed limits h n nothing_held os ss → AreExplained limits h n nothing_held (map (own_script told) names) ss
explained_all limits h n told [] [] [] opened served = tt
explained_all limits h n told [] [] (s ∷ ss) opened served = absurd served
explained_all limits h n told [] (o ∷ os) ss opened served = absurd opened
explained_all limits h n told (name ∷ names) [] ss opened served = absurd opened
explained_all limits h n told (name ∷ names) (o ∷ os) [] opened served = absurd served
explained_all limits h n told (name ∷ names) (o ∷ os) (s ∷ ss) opened served =
    let here = opened.0 in
    (ByScript-given (Explained limits h n nothing_held) o None (told name) s.session here.own here.contents here.source here.sink served.0.explained, explained_all limits h (n + 1) told names os ss opened.1 served.1)

named_all : (limits : Limits) (h : History) (n : ℕ) (told : List ℕ → Contents) (names : List (List ℕ)) (os : List OpenedView) (ss : List EndedView) → AreOpened told names os → AreServed limits h n nothing_held os ss → map (λ (s : EndedView). s.name) ss ≡ names
named_all limits h n told [] [] [] opened served = refl
named_all limits h n told [] [] (s ∷ ss) opened served = absurd served
named_all limits h n told [] (o ∷ os) ss opened served = absurd opened
named_all limits h n told (name ∷ names) [] ss opened served = absurd opened
named_all limits h n told (name ∷ names) (o ∷ os) [] opened served = absurd served
named_all limits h n told (name ∷ names) (o ∷ os) (s ∷ ss) opened served =
    let here = served.0.named ∙ opened.0.named in
    let rest = named_all limits h (n + 1) told names os ss opened.1 served.1 in λ i. here i ∷ rest i

some_fault : (now : ℕ) → Rose 0 now → 0 < now
some_fault now rose = elim rose [ inl more ↦ more | inr end ↦ absurd (omega (arith, end.0)) ]

caused_one : (limits : Limits) (h : History) (n : ℕ) (x : Holding) (o : OpenedView) (s : EndedView) → o.objects.source_faults ≡ 0 → o.objects.sink_faults ≡ 0 → IsServed limits h n x o s → IsCaused s
caused_one limits h n x o s source sink served = record {
  source = λ e. some_fault s.session.objects.source_faults (subst (λ (k : ℕ). Rose k s.session.objects.source_faults) source (served.source.rose e));
  sink = λ e. some_fault s.session.objects.sink_faults (subst (λ (k : ℕ). Rose k s.session.objects.sink_faults) sink (served.sink.rose e));
  source_stays = λ other. served.source.stays other ∙ source;
  sink_stays = λ other. served.sink.stays other ∙ sink;
}

caused_all : (limits : Limits) (h : History) (n : ℕ) (told : List ℕ → Contents) (names : List (List ℕ)) (os : List OpenedView) (ss : List EndedView) → AreOpened told names os → AreServed limits h n nothing_held os ss → All IsCaused ss
caused_all limits h n told [] [] [] opened served = All-nil IsCaused
caused_all limits h n told [] [] (s ∷ ss) opened served = absurd served
caused_all limits h n told [] (o ∷ os) ss opened served = absurd opened
caused_all limits h n told (name ∷ names) [] ss opened served = absurd opened
caused_all limits h n told (name ∷ names) (o ∷ os) [] opened served = absurd served
caused_all limits h n told (name ∷ names) (o ∷ os) (s ∷ ss) opened served = All-cons IsCaused s ss (caused_one limits h n nothing_held o s opened.0.source opened.0.sink served.0) (caused_all limits h (n + 1) told names os ss opened.1 served.1)

-- what the artefacts hold over what a pass has seen, they hold over the history of the catalogue
exported_later : (seen h : History) (x : ExporterState) → IsPrefix x.seen seen → IsPrefix seen h → IsExported x.seen (exports_in x) x.puts → IsExported h (exports_in x) x.puts
exported_later seen h x behind later exported = IsExported-later x.seen h (exports_in x) x.puts (IsPrefix-trans x.seen seen h behind later) exported

pub RanSessions-all : (workers : ℕ) (c : CatalogView) (x : ExporterState) (limits : Limits) (old new : PassView) (o : OpenedView) (os : List OpenedView) (ss : List EndedView) (generate : Option ℕ) (first : Contents) (told : List ℕ → Contents) (names : List (List ℕ)) (status : ℕ)
    → o.name ≡ [] → o.generate ≡ generate → o.objects.contents ≡ first → o.objects.source_faults ≡ 0 → o.objects.sink_faults ≡ 0 → AreOpened told names os → ServedBeside limits workers old new (told_of x) (o ∷ os) ss → old.made ≡ 0 → old.added ≡ []
    → Sound c → IsExported x.seen (exports_in x) x.puts → AreFull limits → c.limits ≡ limits → IsPrefix new.seen (hist c) → ((test : Event → Bool) → count_by test (hist c) ≡ count_by test new.added) → cursor (hist c) ≡ new.made → status ≡ first_status ss
    → RanSessions workers names (given_to_sessions generate first told names) status c x ss
RanSessions-all workers c x limits old new o os [] generate first told names status name script contents source sink opened beside none nothing sound exported full same seen counts made is_status = absurd beside.all.served
RanSessions-all workers c x limits old new o os (s ∷ ss) generate first told names status name script contents source sink opened beside none nothing sound exported full same seen counts made is_status =
    let all = beside.all in
    let h = hist c in
    let held = held_by x in
    let served = AreServed-later limits new.seen h 0 held (o ∷ os) (s ∷ ss) seen all.served in
    let given = given_to_sessions generate first told names in
    let explained : AreExplained limits h 0 held given (s ∷ ss) = (ByScript-given (Explained limits h 0 held) o generate first s.session script contents source sink served.0.explained, explained_all limits h 1 told names os ss opened served.1) in
    let here = served.0.named ∙ name in
    let every : (test : Event → Bool) → count_by test h ≡ count_by test all.passed.events = λ test. counts test ∙ ap (count_by test) (all.passed.added ∙ ap (λ (l : History). l ++ all.passed.events) nothing) in
    let others = named_all limits h 1 told names os ss opened served.1 in
    record {
      headline = record {
        sound = sound;
        whole = Whole-owned workers h (s ∷ ss) (AreServed-owned limits h 0 held (o ∷ os) (s ∷ ss) served) (omega (arith, all.passed.made, none, made)) (all_caused (is_caused workers (s ∷ ss)) h all.passed.events every all.passed.caused);
        named = λ i. here i ∷ others i;
        explained = subst (λ (l : Limits). AreExplained l h 0 held given (s ∷ ss)) (sym same) explained;
        exported = exported_later new.seen h x all.behind seen exported;
      };
      workers_did = subst (λ (l : Limits). HaveWorked l h h workers) (sym same) (HaveWorked-all limits new.seen h all.passed.events workers seen every beside.worked);
      limits = subst AreFull (sym same) full;
      status_is = is_status;
      caused = All-cons IsCaused s ss (caused_one limits h 0 held o s source sink served.0) (caused_all limits h 1 told names os ss opened served.1);
    }

-- ---- the status

-- a session's status, which says nothing of the words and the feeds
IsOwn : ℕ → Type 0
IsOwn status = (status ≢ 2) × (status ≢ 5)

own_0 : IsOwn 0
unfolding IsOwn
own_0 = (λ e. omega (arith, e), λ e. omega (arith, e))

own_1 : IsOwn 1
unfolding IsOwn
own_1 = (λ e. omega (arith, e), λ e. omega (arith, e))

own_3 : IsOwn 3
unfolding IsOwn
own_3 = (λ e. omega (arith, e), λ e. omega (arith, e))

own_4 : IsOwn 4
unfolding IsOwn
own_4 = (λ e. omega (arith, e), λ e. omega (arith, e))

own_6 : IsOwn 6
unfolding IsOwn
own_6 = (λ e. omega (arith, e), λ e. omega (arith, e))

own_if : (b : Bool) (m n : ℕ) → IsOwn m → IsOwn n → IsOwn (cond b m n)
own_if true m n first second = first
own_if false m n first second = second

status_own : (end : End) (receipts : List Receipt) → IsOwn (status_of end receipts)
status_own Finished receipts = own_if (wants_memory receipts) 1 0 own_1 own_0
status_own Short receipts = own_1
status_own SourceFault receipts = own_3
status_own SinkFault receipts = own_4
status_own InputLimit receipts = own_6

own_first : (limits : Limits) (h : History) (n : ℕ) (x : Holding) (os : List OpenedView) (ss : List EndedView) → AreServed limits h n x os ss → IsOwn (first_status ss)
own_first limits h n x [] [] served = own_0
own_first limits h n x [] (s ∷ ss) served = absurd served
own_first limits h n x (o ∷ os) [] served = absurd served
own_first limits h n x (o ∷ os) (s ∷ ss) served =
    let end = explained-end limits h n x o.generate o.objects s.session served.0.explained in
    let here = subst IsOwn (sym end.1) (status_own end.0 s.session.receipts) in
    own_if (nat_eq s.session.status 0) (first_status ss) s.session.status (own_first limits h (n + 1) nothing_held os ss served.1) here

pub first-of-sessions : (limits : Limits) (workers : ℕ) (old new : PassView) (x : ExporterView) (os : List OpenedView) (ss : List EndedView) (status : ℕ) → ServedAll limits workers old new x os ss → status ≡ first_status ss → (status ≢ 2) × (status ≢ 5)
unfolding IsOwn
first-of-sessions limits workers old new x os ss status all is =
    subst IsOwn (sym is) (own_first limits new.seen 0 x.holding os ss all.served)

-- ---- the feeds

pub AreOpened-length : (told : List ℕ → Contents) (names : List (List ℕ)) (os : List OpenedView) → AreOpened told names os → length os ≡ length names
AreOpened-length told [] [] opened = refl
AreOpened-length told [] (o ∷ os) opened = absurd opened
AreOpened-length told (name ∷ names) [] opened = absurd opened
AreOpened-length told (name ∷ names) (o ∷ os) opened = let rest = AreOpened-length told names os opened.1 in omega (arith, rest)
