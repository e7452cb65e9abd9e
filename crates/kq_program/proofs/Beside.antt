-- Workers beside sessions, and which of the events are theirs.
use Rattle.std.proofs.Common.{◌≡◌, ◌<◌, ◌≤◌, ◌+◌, ◌-◌, ◌++◌, ◌&&◌, ◌||◌, ℕ, Bool, true, false, cond, count_by, nat_eq, nat_lt, All, List, [], ◌∷◌, length, refl, ap, sym, ◌∙◌, subst, arith}
use Rattle.std.proofs.lemmas.Bool.{eqb-true, ltb-false, ltb-true, ne_eqb}
use Rattle.std.proofs.lemmas.List.Elements.{All-head, All-nil, All-tail, All-weaker}
use Rattle.std.proofs.lemmas.List.Sums.{sum_by-append, sum_by-cons}
use mathlib.Core.List.{IsPrefix}
use Rattle.kq_lock.specs.Passes.{TurnId}
use Rattle.kq_lock.proofs.Beginnings.{IsPrefix-trans}
use Rattle.kq_catalog_journal.specs.declared.event.Event.{Event}
use Rattle.kq_catalog_journal.specs.declared.limits.Limits.{Limits}
use Rattle.kq_catalog_journal.specs.History.{History, commits_of}
use Rattle.kq_workers.specs.kq_engine.Shared.{PassView}
use Rattle.kq_workers.specs.Rounds.{is_upkeep}
use Rattle.kq_session.specs.Session.{is_receipted}
use Rattle.kq_session.specs.kq_export_interface.Due.{ExporterView}
use Rattle.kq_program.specs.Together.{Passed, ServedAll, ServedBeside}
use Rattle.kq_program.specs.Views.{OpenedView, EndedView}
use Rattle.kq_program.specs.Whole.{HasWorked, HaveWorked, RestsOrWorks, is_caused, is_of_actor, is_of_sessions, is_of_workers}
use Rattle.kq_program.proofs.Serving.{AreServed-length, ServedAll-worker, ServedAll-worker-events}

-- ---- counts

count_none : (p : Event → Bool) (h : History) → All (λ (e : Event). p e ≡ false) h → count_by p h ≡ 0
count_none p [] all = refl
count_none p (e ∷ h) all =
    let here : cond {A = ℕ} (p e) 1 0 ≡ 0 = ap (λ (b : Bool). cond {A = ℕ} b 1 0) (All-head (λ (x : Event). p x ≡ false) e h all) in
    let rest = count_none p h (All-tail (λ (x : Event). p x ≡ false) e h all) in
    omega (arith, sum_by-cons (λ (x : Event). cond {A = ℕ} (p x) 1 0) e h, here, rest)

count_same : (p q : Event → Bool) (h : History) → All (λ (e : Event). p e ≡ q e) h → count_by p h ≡ count_by q h
count_same p q [] all = refl
count_same p q (e ∷ h) all =
    let here : cond {A = ℕ} (p e) 1 0 ≡ cond {A = ℕ} (q e) 1 0 = ap (λ (b : Bool). cond {A = ℕ} b 1 0) (All-head (λ (x : Event). p x ≡ q x) e h all) in
    let rest = count_same p q h (All-tail (λ (x : Event). p x ≡ q x) e h all) in
    omega (arith, sum_by-cons (λ (x : Event). cond {A = ℕ} (p x) 1 0) e h, sum_by-cons (λ (x : Event). cond {A = ℕ} (q x) 1 0) e h, here, rest)

count_both : (p : Event → Bool) (g h : History) → count_by p (g ++ h) ≡ count_by p g + count_by p h
count_both p g h = sum_by-append (λ (x : Event). cond {A = ℕ} (p x) 1 0) g h

-- ---- whose an event is

and_first : (a b : Bool) → (a && b) ≡ true → a ≡ true
and_first true b e = refl
and_first false b e = absurd (cc)

and_second : (a b : Bool) → (a && b) ≡ true → b ≡ true
and_second true b e = e
and_second false b e = absurd (cc)

either : (P : Type 0) (a b : Bool) → (a ≡ true → P) → (b ≡ true → P) → (a || b) ≡ true → P
either P true b one other e = one refl
either P false b one other e = other e

sessions_below : (n : ℕ) (ss : List EndedView) (e : Event) → is_of_sessions n ss e ≡ true → e.by.actor < n + length ss
sessions_below n [] e is = absurd (cc)
sessions_below n (s ∷ ss) e is =
    either (e.by.actor < n + length (s ∷ ss)) (is_receipted n s.session.receipts e) (is_of_sessions (n + 1) ss e)
    (λ own. let same = eqb-true e.by.actor n (and_first (nat_eq e.by.actor n) _ own) in omega (arith, same))
    (λ later. let low = sessions_below (n + 1) ss e later in omega (arith, low)) is

workers_below : (workers : ℕ) (e : Event) → is_of_workers workers e ≡ true → e.by.actor < 8 + workers
workers_below workers e is = ltb-true e.by.actor (8 + workers) (and_first (nat_lt e.by.actor (8 + workers)) (nat_eq (length (commits_of e.operation)) 0) (and_second _ _ is))

caused_below : (workers : ℕ) (ss : List EndedView) → length ss ≤ 8 → (e : Event) → is_caused workers ss e ≡ true → e.by.actor < 8 + workers
caused_below workers ss few e is =
    either (e.by.actor < 8 + workers) (is_of_sessions 0 ss e) (is_of_workers workers e)
    (λ of. let low = sessions_below 0 ss e of in omega (arith, low, few)) (workers_below workers e) is

-- those of another actor
other_actor : (actor : ℕ) (test : Event → Bool) (e : Event) → (e.by.actor ≡ actor → ⊥) → is_of_actor actor test e ≡ false
other_actor actor test e differs = ap (λ (b : Bool). b && test e) (ne_eqb e.by.actor actor differs)

own_actor : (actor : ℕ) (test : Event → Bool) (e : Event) → is_upkeep actor e ≡ true → is_of_actor actor test e ≡ test e
own_actor actor test e own = ap (λ (b : Bool). b && test e) (and_first (nat_eq e.by.actor actor) _ own)

upkeep_actor : (actor : ℕ) (e : Event) → is_upkeep actor e ≡ true → e.by.actor ≡ actor
upkeep_actor actor e own = eqb-true e.by.actor actor (and_first (nat_eq e.by.actor actor) _ own)

-- ---- workers

pub ServedBeside-none : (limits : Limits) (old new : PassView) (x : ExporterView) (os : List OpenedView) (ss : List EndedView) → ServedAll limits 0 old new x os ss → ServedBeside limits 0 old new x os ss
ServedBeside-none limits old new x os ss all = record { all = all; worked = λ n below. absurd (omega (arith, below)) }

module _ (limits : Limits) (others actor : ℕ) (is_actor : actor ≡ 8 + others) (ss : List EndedView) (few : length ss ≤ 8) (rest_events own : History)
    (caused : All (λ (e : Event). is_caused others ss e ≡ true) rest_events) (upkeep : All (λ (e : Event). is_upkeep actor e ≡ true) own) where
  -- an earlier worker made none of the last one's
  not_own : (n : ℕ) → n < others → (test : Event → Bool) → count_by (is_of_actor (8 + n) test) own ≡ 0
  not_own n below test =
      count_none (is_of_actor (8 + n) test) own
      (All-weaker (λ (e : Event). is_upkeep actor e ≡ true) (λ (e : Event). is_of_actor (8 + n) test e ≡ false)
      (λ e mine. other_actor (8 + n) test e (λ same. let at = upkeep_actor actor e mine in omega (arith, at, same, below, is_actor))) own upkeep)

  -- nor did the last one make any of the others'
  not_others : (test : Event → Bool) → count_by (is_of_actor actor test) rest_events ≡ 0
  not_others test =
      count_none (is_of_actor actor test) rest_events
      (All-weaker (λ (e : Event). is_caused others ss e ≡ true) (λ (e : Event). is_of_actor actor test e ≡ false)
      (λ e is. other_actor actor test e (λ same. let low = caused_below others ss few e is in omega (arith, low, same, is_actor))) rest_events caused)

  just_own : (test : Event → Bool) → count_by (is_of_actor actor test) own ≡ count_by test own
  just_own test = count_same (is_of_actor actor test) test own (All-weaker (λ (e : Event). is_upkeep actor e ≡ true) (λ (e : Event). is_of_actor actor test e ≡ test e) (own_actor actor test) own upkeep)

  module _ (before h : History) (later : IsPrefix before h) where
    earlier : (n : ℕ) → n < others → HasWorked limits before rest_events (8 + n) → HasWorked limits h (rest_events ++ own) (8 + n)
    earlier n below one = record {
      old = one.old;
      new = one.new;
      did = one.did;
      seen = IsPrefix-trans one.new.seen before h one.seen later;
      own = one.own;
      added = one.added;
      just = λ test.
          let both = count_both (is_of_actor (8 + n) test) rest_events own in
          omega (arith, both, not_own n below test, one.just test);
    }

    last : (mine mine' : PassView) → RestsOrWorks limits actor mine mine' → IsPrefix mine'.seen h → mine'.added ≡ mine.added ++ own → HasWorked limits h (rest_events ++ own) actor
    last mine mine' did seen added = record {
      old = mine;
      new = mine';
      did = did;
      seen = seen;
      own = own;
      added = added;
      just = λ test.
          let both = count_both (is_of_actor actor test) rest_events own in
          omega (arith, both, not_others test, just_own test);
    }

    pub one_more : HaveWorked limits before rest_events others → HasWorked limits h (rest_events ++ own) actor → (n : ℕ) → n < others + 1 → HasWorked limits h (rest_events ++ own) (8 + n)
    one_more had mine n below = by (nat_lt n others) refl
      where
        by : (b : Bool) → nat_lt n others ≡ b → HasWorked limits h (rest_events ++ own) (8 + n)
        by true is = let low = ltb-true n others is in earlier n low (had n low)
        by false is = let low = ltb-false n others is in subst (HasWorked limits h (rest_events ++ own)) (omega (arith, low, below, is_actor)) mine

-- a worker beside them, which makes no commit
pub ServedBeside-worker : (limits : Limits) (workers others actor : ℕ) (of : TurnId) (old rest mine rest' mine' joined : PassView) (x : ExporterView) (os : List OpenedView) (ss : List EndedView)
    → length os ≤ 8 → old.of ≡ of → 2 ≤ old.worth → rest ≡ record old { worth = old.worth - 1 } → mine ≡ record old { worth = 1; added = []; made = 0; taken = [] }
    → workers ≡ others + 1 → actor ≡ 8 + others → ServedBeside limits others rest rest' x os ss → Passed (is_upkeep actor) mine mine' [] → RestsOrWorks limits actor mine mine'
    → joined.of ≡ of → IsPrefix rest'.seen joined.seen → IsPrefix mine'.seen joined.seen → joined.worth ≡ rest'.worth + mine'.worth → joined.added ≡ rest'.added ++ mine'.added → joined.made ≡ rest'.made + mine'.made
    → ServedBeside limits workers old joined x os ss
ServedBeside-worker limits workers others actor of old rest mine rest' mine' joined x os ss few of_old some is_rest is_mine is_workers is_actor rested worked did of_joined seen mine_seen worth added made =
    let all = rested.all in
    let as_many = AreServed-length limits rest'.seen 0 x.holding os ss all.served in
    let fewer : length ss ≤ 8 = omega (arith, few, as_many) in
    let events = all.passed.events in
    let mine_did = last limits others actor is_actor ss fewer events worked.events all.passed.caused worked.caused rest'.seen joined.seen seen mine mine' did mine_seen worked.added in
    record {
      all = ServedAll-worker limits workers others actor of old rest mine rest' mine' joined x os ss of_old some is_rest is_mine is_workers is_actor all worked of_joined seen worth added made;
      worked = λ n below.
          subst (λ (h : History). HasWorked limits joined.seen h (8 + n)) (sym (ServedAll-worker-events limits workers others actor of old rest mine rest' mine' joined x os ss of_old some is_rest is_mine is_workers is_actor all worked of_joined seen worth added made))
          (one_more limits others actor is_actor ss fewer events worked.events all.passed.caused worked.caused rest'.seen joined.seen seen rested.worked mine_did n (omega (arith, below, is_workers)));
    }

-- what workers did of the events that were added, they did of a history that has just these
pub HaveWorked-all : (limits : Limits) (seen h events : History) (workers : ℕ) → IsPrefix seen h → ((test : Event → Bool) → count_by test h ≡ count_by test events) → HaveWorked limits seen events workers → HaveWorked limits h h workers
HaveWorked-all limits seen h events workers later every had n below =
    let one = had n below in
    record {
      old = one.old;
      new = one.new;
      did = one.did;
      seen = IsPrefix-trans one.new.seen seen h one.seen later;
      own = one.own;
      added = one.added;
      just = λ test. every (is_of_actor (8 + n) test) ∙ one.just test;
    }
