-- Sessions that were served together.
use Rattle.std.proofs.Common.{◌≡◌, ◌<◌, ◌≤◌, ◌+◌, ◌-◌, ◌&&◌, ◌||◌, ℕ, Bool, true, false, nat_eq, nat_le, nat_lt, append_assoc, List, [], ◌∷◌, ◌++◌, length, refl, ap, sym, ◌∙◌, subst, arith, add-zero}
use Rattle.std.proofs.lemmas.Bool.Decides.{nat_tests}
use Rattle.std.proofs.lemmas.List.Elements.{All-append, All-weaker}
use Rattle.std.proofs.lemmas.List.Sums.{sum_by-append}
use mathlib.Core.List.{IsPrefix}
use Rattle.kq_lock.specs.Passes.{TurnId}
use Rattle.kq_lock.proofs.Beginnings.{IsPrefix-trans}
use Rattle.kq_catalog_journal.specs.declared.event.Event.{Event}
use Rattle.kq_catalog_journal.specs.declared.limits.Limits.{Limits}
use Rattle.kq_catalog_journal.specs.History.{History, commits_of}
use Rattle.kq_workers.specs.kq_engine.Shared.{PassView}
use Rattle.kq_session.specs.Session.{Explained, is_receipted, owns}
use Rattle.kq_session.proofs.Serving.{Explained-later}
use Rattle.kq_session.specs.Blocks.{serves_to}
use Rattle.kq_session.specs.kq_export_interface.Due.{ExporterView, Holding, none_told, nothing_held}
use Rattle.kq_program.specs.Together.{IsUnasked, IsServed, AreServed, Passed, ServedOne, ServedAll, all_owns}
use Rattle.kq_program.specs.Views.{OpenedView, EndedView}
use Rattle.kq_program.specs.Whole.{is_caused, is_of_sessions, is_of_workers}
use Rattle.kq_workers.specs.Rounds.{is_upkeep}
use Rattle.kq_program.proofs.Scripting.{ByScript-map}

IsServed-later : (limits : Limits) (h new : History) (actor : ℕ) (x : Holding) (o : OpenedView) (s : EndedView) → IsPrefix h new → IsServed limits h actor x o s → IsServed limits new actor x o s
IsServed-later limits h new actor x o s later served = record {
  named = served.named;
  explained = ByScript-map (Explained limits h actor x) (Explained limits new actor x) (λ before t. Explained-later limits h new actor x before t later) o.generate o.objects s.session served.explained;
  source = served.source;
  sink = served.sink;
}

pub AreServed-later : (limits : Limits) (h new : History) (n : ℕ) (x : Holding) (os : List OpenedView) (ss : List EndedView) → IsPrefix h new → AreServed limits h n x os ss → AreServed limits new n x os ss
AreServed-later limits h new n x [] [] later served = tt
AreServed-later limits h new n x [] (s ∷ ss) later served = absurd served
AreServed-later limits h new n x (o ∷ os) [] later served = absurd served
AreServed-later limits h new n x (o ∷ os) (s ∷ ss) later served = (IsServed-later limits h new n x o s later served.0, AreServed-later limits h new (n + 1) nothing_held os ss later served.1)

-- a feed more
feeds_push : (limits : Limits) (h : History) (n : ℕ) (os : List OpenedView) (ss : List EndedView) (o : OpenedView) (s : EndedView) → AreServed limits h n nothing_held os ss → IsServed limits h (n + length os) nothing_held o s → AreServed limits h n nothing_held (os ++ o ∷ []) (ss ++ s ∷ [])
feeds_push limits h n [] [] o s served last = (subst (λ (k : ℕ). IsServed limits h k nothing_held o s) (add-zero n) last, tt)
feeds_push limits h n [] (q ∷ ss) o s served last = absurd served
feeds_push limits h n (p ∷ os) [] o s served last = absurd served
feeds_push limits h n (p ∷ os) (q ∷ ss) o s served last =
    let same : n + length (p ∷ os) ≡ n + 1 + length os = omega arith in
    (served.0, feeds_push limits h (n + 1) os ss o s served.1 (subst (λ (k : ℕ). IsServed limits h k nothing_held o s) same last))

-- a feed more, beside session 0
AreServed-push : (limits : Limits) (h : History) (x : Holding) (p : OpenedView) (os : List OpenedView) (ss : List EndedView) (o : OpenedView) (s : EndedView) → AreServed limits h 0 x (p ∷ os) ss → IsServed limits h (length (p ∷ os)) nothing_held o s → AreServed limits h 0 x ((p ∷ os) ++ o ∷ []) (ss ++ s ∷ [])
AreServed-push limits h x p os [] o s served last = absurd served
AreServed-push limits h x p os (q ∷ ss) o s served last =
    let same : length (p ∷ os) ≡ 1 + length os = omega arith in
    (served.0, feeds_push limits h 1 os ss o s served.1 (subst (λ (k : ℕ). IsServed limits h k nothing_held o s) same last))

-- there are as many sessions as there were before
pub AreServed-length : (limits : Limits) (h : History) (n : ℕ) (x : Holding) (os : List OpenedView) (ss : List EndedView) → AreServed limits h n x os ss → length ss ≡ length os
AreServed-length limits h n x [] [] served = refl
AreServed-length limits h n x [] (s ∷ ss) served = absurd served
AreServed-length limits h n x (o ∷ os) [] served = absurd served
AreServed-length limits h n x (o ∷ os) (s ∷ ss) served = let rest = AreServed-length limits h (n + 1) nothing_held os ss served.1 in omega (arith, rest)

-- ---- exporters

above_zero : (actor : ℕ) → 0 < actor → nat_eq actor 0 ≡ false
above_zero actor above = grind (arith, nat_tests, above)

-- that of a feed
pub IsUnasked-none : (actor : ℕ) → 0 < actor → IsUnasked (serves_to actor) none_told
IsUnasked-none actor above = record { serves_so = sym (above_zero actor above); holds_nothing = refl; saw_nothing = refl }

-- ---- events

-- what was added through both passes that were joined
joined_added : (old rest mine rest' mine' joined first second : History) → rest ≡ old → mine ≡ [] → rest' ≡ rest ++ first → mine' ≡ mine ++ second → joined ≡ rest' ++ mine' → joined ≡ old ++ (first ++ second)
joined_added old rest mine rest' mine' joined first second is_rest is_mine first_added second_added both =
    let rest_is : rest' ≡ old ++ first = first_added ∙ ap (λ (h : History). h ++ first) is_rest in
    let mine_is : mine' ≡ second = second_added ∙ ap (λ (h : History). h ++ second) is_mine in
    both ∙ ap (λ (h : History). h ++ mine') rest_is ∙ ap (λ (h : History). (old ++ first) ++ h) mine_is ∙ append_assoc old first second

or_first : (a b : Bool) → a ≡ true → (a || b) ≡ true
or_first true b e = refl
or_first false b e = absurd (cc)

or_second : (a b : Bool) → b ≡ true → (a || b) ≡ true
or_second true b e = refl
or_second false b e = e

or_weaker : (a b c : Bool) → (b ≡ true → c ≡ true) → (a || b) ≡ true → (a || c) ≡ true
or_weaker true b c f e = refl
or_weaker false b c f e = f e

or_changed : (a b c : Bool) → (a ≡ true → c ≡ true) → (a || b) ≡ true → (c || b) ≡ true
or_changed true b c f e = or_first c b (f refl)
or_changed false b c f e = or_second c b e

sessions_front : (n : ℕ) (ss : List EndedView) (s : EndedView) (e : Event) → is_of_sessions n ss e ≡ true → is_of_sessions n (ss ++ s ∷ []) e ≡ true
sessions_front n [] s e is = absurd (cc)
sessions_front n (x ∷ ss) s e is = or_weaker (is_receipted n x.session.receipts e) (is_of_sessions (n + 1) ss e) (is_of_sessions (n + 1) (ss ++ s ∷ []) e) (sessions_front (n + 1) ss s e) is

sessions_last : (n : ℕ) (ss : List EndedView) (s : EndedView) (e : Event) → is_receipted (n + length ss) s.session.receipts e ≡ true → is_of_sessions n (ss ++ s ∷ []) e ≡ true
sessions_last n [] s e is = or_first (is_receipted n s.session.receipts e) false (subst (λ (k : ℕ). is_receipted k s.session.receipts e ≡ true) (add-zero n) is)
sessions_last n (x ∷ ss) s e is =
    let same : n + length (x ∷ ss) ≡ n + 1 + length ss = omega arith in
    or_second (is_receipted n x.session.receipts e) (is_of_sessions (n + 1) (ss ++ s ∷ []) e) (sessions_last (n + 1) ss s e (subst (λ (k : ℕ). is_receipted k s.session.receipts e ≡ true) same is))

-- what had its cause has it among more sessions
caused_front : (workers : ℕ) (ss : List EndedView) (s : EndedView) (e : Event) → is_caused workers ss e ≡ true → is_caused workers (ss ++ s ∷ []) e ≡ true
caused_front workers ss s e is = or_changed (is_of_sessions 0 ss e) (is_of_workers workers e) (is_of_sessions 0 (ss ++ s ∷ []) e) (sessions_front 0 ss s e) is

caused_last : (workers actor : ℕ) (ss : List EndedView) (s : EndedView) → actor ≡ length ss → (e : Event) → is_receipted actor s.session.receipts e ≡ true → is_caused workers (ss ++ s ∷ []) e ≡ true
caused_last workers actor ss s at e is =
    let place : actor ≡ 0 + length ss = omega (arith, at) in
    or_first (is_of_sessions 0 (ss ++ s ∷ []) e) (is_of_workers workers e) (sessions_last 0 ss s e (subst (λ (k : ℕ). is_receipted k s.session.receipts e ≡ true) place is))

and_parts : (a b : Bool) → (a && b) ≡ true → (a ≡ true) × (b ≡ true)
and_parts true b e = (refl, e)
and_parts false b e = absurd (cc)

and_both : (a b : Bool) → a ≡ true → b ≡ true → (a && b) ≡ true
and_both true b e f = f
and_both false b e f = e

lower : (a workers others : ℕ) → workers ≡ others + 1 → nat_lt a (8 + others) ≡ true → nat_lt a (8 + workers) ≡ true
lower a workers others is below = grind (arith, nat_tests, is, below)

-- or among more workers
caused_before : (workers others : ℕ) (ss : List EndedView) → workers ≡ others + 1 → (e : Event) → is_caused others ss e ≡ true → is_caused workers ss e ≡ true
caused_before workers others ss is e caused = or_weaker (is_of_sessions 0 ss e) (is_of_workers others e) (is_of_workers workers e) more caused
  where
    more : is_of_workers others e ≡ true → is_of_workers workers e ≡ true
    more one =
        let parts = and_parts (nat_le 8 e.by.actor) (nat_lt e.by.actor (8 + others) && nat_eq (length (commits_of e.operation)) 0) one in
        let rest = and_parts (nat_lt e.by.actor (8 + others)) (nat_eq (length (commits_of e.operation)) 0) parts.1 in
        and_both (nat_le 8 e.by.actor) (nat_lt e.by.actor (8 + workers) && nat_eq (length (commits_of e.operation)) 0) parts.0
        (and_both (nat_lt e.by.actor (8 + workers)) (nat_eq (length (commits_of e.operation)) 0) (lower e.by.actor workers others is rest.0) rest.1)

above : (a actor others : ℕ) → actor ≡ 8 + others → nat_eq a actor ≡ true → nat_le 8 a ≡ true
above a actor others is same = grind (arith, nat_tests, is, same)

below : (a actor workers others : ℕ) → workers ≡ others + 1 → actor ≡ 8 + others → nat_eq a actor ≡ true → nat_lt a (8 + workers) ≡ true
below a actor workers others more is same = grind (arith, nat_tests, more, is, same)

-- a worker's own have their cause
caused_worker : (workers others actor : ℕ) (ss : List EndedView) → workers ≡ others + 1 → actor ≡ 8 + others → (e : Event) → is_upkeep actor e ≡ true → is_caused workers ss e ≡ true
caused_worker workers others actor ss more is e own =
    let parts = and_parts (nat_eq e.by.actor actor) (nat_eq (length (commits_of e.operation)) 0) own in
    or_second (is_of_sessions 0 ss e) (is_of_workers workers e)
    (and_both (nat_le 8 e.by.actor) (nat_lt e.by.actor (8 + workers) && nat_eq (length (commits_of e.operation)) 0) (above e.by.actor actor others is parts.0)
    (and_both (nat_lt e.by.actor (8 + workers)) (nat_eq (length (commits_of e.operation)) 0) (below e.by.actor actor workers others more is parts.0) parts.1))

-- ---- passes

pub empty_of : {X : Type 0} (xs : List X) → length xs ≡ 0 → xs ≡ []
empty_of [] e = refl
empty_of (x ∷ xs) e = absurd (omega (arith, e))

-- session 0 alone
pub ServedAll-first : (limits : Limits) (old new : PassView) (x : ExporterView) (o : OpenedView) (s : EndedView) → ServedOne limits old new 0 x o s → ServedAll limits 0 old new x (o ∷ []) (s ∷ [])
ServedAll-first limits old new x o s one = record {
  passed = record {
    events = one.passed.events;
    added = one.passed.added;
    caused = All-weaker (λ (e : Event). is_receipted 0 s.session.receipts e ≡ true) (λ (e : Event). is_caused 0 (s ∷ []) e ≡ true) (caused_last 0 0 [] s refl) one.passed.events one.passed.caused;
    of = one.passed.of;
    worth = one.passed.worth;
    seen = one.passed.seen;
    made = one.passed.made;
  };
  served = (one.served, tt);
  behind = one.behind;
}

-- one feed more, beside the others
pub ServedAll-push : (limits : Limits) (workers : ℕ) (of : TurnId) (old rest mine rest' mine' joined : PassView) (x : ExporterView) (p : OpenedView) (os : List OpenedView) (ss : List EndedView) (o : OpenedView) (s : EndedView) (actor : ℕ)
    → old.of ≡ of → 2 ≤ old.worth → rest ≡ record old { worth = old.worth - 1 } → mine ≡ record old { worth = 1; added = []; made = 0; taken = [] }
    → ServedAll limits workers rest rest' x (p ∷ os) ss → ServedOne limits mine mine' actor none_told o s → actor ≡ length (p ∷ os)
    → joined.of ≡ of → IsPrefix rest'.seen joined.seen → IsPrefix mine'.seen joined.seen → joined.worth ≡ rest'.worth + mine'.worth → joined.added ≡ rest'.added ++ mine'.added → joined.made ≡ rest'.made + mine'.made
    → ServedAll limits workers old joined x ((p ∷ os) ++ o ∷ []) (ss ++ s ∷ [])
ServedAll-push limits workers of old rest mine rest' mine' joined x p os ss o s actor of_old some is_rest is_mine others one is_last of_joined first second worth added made =
    let rest_seen : IsPrefix old.seen rest'.seen = subst (λ (h : History). IsPrefix h rest'.seen) (ap (λ (p : PassView). p.seen) is_rest) others.passed.seen in
    let rest_worth = ap (λ (p : PassView). p.worth) is_rest in
    let rest_made = ap (λ (p : PassView). p.made) is_rest in
    let mine_worth = ap (λ (p : PassView). p.worth) is_mine in
    let mine_made = ap (λ (p : PassView). p.made) is_mine in
    let total = sum_by-append (λ (x : EndedView). owns x.session.receipts) ss (s ∷ []) in
    record {
      passed = record {
        of = of_joined ∙ sym of_old;
        worth = omega (arith, some, worth, others.passed.worth, one.passed.worth, rest_worth, mine_worth);
        seen = IsPrefix-trans old.seen rest'.seen joined.seen rest_seen first;
        events = others.passed.events ++ one.passed.events;
        added = joined_added old.added rest.added mine.added rest'.added mine'.added joined.added others.passed.events one.passed.events (ap (λ (p : PassView). p.added) is_rest) (ap (λ (p : PassView). p.added) is_mine) others.passed.added one.passed.added added;
        caused = All-append (λ (e : Event). is_caused workers (ss ++ s ∷ []) e ≡ true) others.passed.events one.passed.events
            (All-weaker (λ (e : Event). is_caused workers ss e ≡ true) (λ (e : Event). is_caused workers (ss ++ s ∷ []) e ≡ true) (caused_front workers ss s) others.passed.events others.passed.caused)
            (All-weaker (λ (e : Event). is_receipted actor s.session.receipts e ≡ true) (λ (e : Event). is_caused workers (ss ++ s ∷ []) e ≡ true) (caused_last workers actor ss s (is_last ∙ sym (AreServed-length limits rest'.seen 0 x.holding (p ∷ os) ss others.served))) one.passed.events one.passed.caused);
        made = omega (arith, made, others.passed.made, one.passed.made, rest_made, mine_made, total);
      };
      served = AreServed-push limits joined.seen x.holding p os ss o s (AreServed-later limits rest'.seen joined.seen 0 x.holding (p ∷ os) ss first others.served)
          (subst (λ (k : ℕ). IsServed limits joined.seen k nothing_held o s) is_last (IsServed-later limits mine'.seen joined.seen actor nothing_held o s second one.served));
      behind = IsPrefix-trans x.seen rest'.seen joined.seen others.behind first;
    }

pub served_count : (limits : Limits) (workers : ℕ) (old new : PassView) (x : ExporterView) (o : OpenedView) (feeds : List OpenedView) (ss : List EndedView) → ServedAll limits workers old new x (o ∷ feeds) ss → length ss ≡ length feeds + 1
served_count limits workers old new x o feeds ss all =
    let same = AreServed-length limits new.seen 0 x.holding (o ∷ feeds) ss all.served in
    omega (arith, same)

pub ServedAll-more : (limits : Limits) (workers : ℕ) (of : TurnId) (old rest mine rest' mine' joined : PassView) (x : ExporterView) (o last : OpenedView) (whole feeds : List OpenedView) (sessions ss : List EndedView) (e : EndedView) (actor : ℕ)
    → whole ≡ feeds ++ last ∷ [] → sessions ≡ ss ++ e ∷ []
    → old.of ≡ of → 2 ≤ old.worth → rest ≡ record old { worth = old.worth - 1 } → mine ≡ record old { worth = 1; added = []; made = 0; taken = [] }
    → ServedAll limits workers rest rest' x (o ∷ feeds) ss → ServedOne limits mine mine' actor none_told last e → actor ≡ length feeds + 1
    → joined.of ≡ of → IsPrefix rest'.seen joined.seen → IsPrefix mine'.seen joined.seen → joined.worth ≡ rest'.worth + mine'.worth → joined.added ≡ rest'.added ++ mine'.added → joined.made ≡ rest'.made + mine'.made
    → ServedAll limits workers old joined x (o ∷ whole) sessions
ServedAll-more limits workers of old rest mine rest' mine' joined x o last whole feeds sessions ss e actor is_whole is_sessions of_old some is_rest is_mine others one is_last of_joined first_seen second_seen worth added made =
    let os : o ∷ whole ≡ (o ∷ feeds) ++ last ∷ [] = ap (λ (l : List OpenedView). o ∷ l) is_whole in
    let count : actor ≡ length (o ∷ feeds) = omega (arith, is_last) in
    let all = ServedAll-push limits workers of old rest mine rest' mine' joined x o feeds ss last e actor of_old some is_rest is_mine others one count of_joined first_seen second_seen worth added made in
    subst (λ (l : List OpenedView). ServedAll limits workers old joined x l sessions) (sym os) (subst (ServedAll limits workers old joined x ((o ∷ feeds) ++ last ∷ [])) (sym is_sessions) all)

-- a worker beside them, which makes no commit
pub ServedAll-worker : (limits : Limits) (workers others actor : ℕ) (of : TurnId) (old rest mine rest' mine' joined : PassView) (x : ExporterView) (os : List OpenedView) (ss : List EndedView)
    → old.of ≡ of → 2 ≤ old.worth → rest ≡ record old { worth = old.worth - 1 } → mine ≡ record old { worth = 1; added = []; made = 0; taken = [] }
    → workers ≡ others + 1 → actor ≡ 8 + others → ServedAll limits others rest rest' x os ss → Passed (is_upkeep actor) mine mine' []
    → joined.of ≡ of → IsPrefix rest'.seen joined.seen → joined.worth ≡ rest'.worth + mine'.worth → joined.added ≡ rest'.added ++ mine'.added → joined.made ≡ rest'.made + mine'.made
    → ServedAll limits workers old joined x os ss
ServedAll-worker limits workers others actor of old rest mine rest' mine' joined x os ss of_old some is_rest is_mine is_workers is_actor rested worked of_joined seen worth added made =
    let rest_seen : IsPrefix old.seen rest'.seen = subst (λ (h : History). IsPrefix h rest'.seen) (ap (λ (p : PassView). p.seen) is_rest) rested.passed.seen in
    let rest_worth = ap (λ (p : PassView). p.worth) is_rest in
    let rest_made = ap (λ (p : PassView). p.made) is_rest in
    let mine_worth = ap (λ (p : PassView). p.worth) is_mine in
    let mine_made = ap (λ (p : PassView). p.made) is_mine in
    let none : all_owns [] ≡ 0 = refl in
    record {
      passed = record {
        of = of_joined ∙ sym of_old;
        worth = omega (arith, some, worth, rested.passed.worth, worked.worth, rest_worth, mine_worth);
        seen = IsPrefix-trans old.seen rest'.seen joined.seen rest_seen seen;
        events = rested.passed.events ++ worked.events;
        added = joined_added old.added rest.added mine.added rest'.added mine'.added joined.added rested.passed.events worked.events (ap (λ (p : PassView). p.added) is_rest) (ap (λ (p : PassView). p.added) is_mine) rested.passed.added worked.added added;
        caused = All-append (λ (e : Event). is_caused workers ss e ≡ true) rested.passed.events worked.events
            (All-weaker (λ (e : Event). is_caused others ss e ≡ true) (λ (e : Event). is_caused workers ss e ≡ true) (caused_before workers others ss is_workers) rested.passed.events rested.passed.caused)
            (All-weaker (λ (e : Event). is_upkeep actor e ≡ true) (λ (e : Event). is_caused workers ss e ≡ true) (caused_worker workers others actor ss is_workers is_actor) worked.events worked.caused);
        made = omega (arith, made, rested.passed.made, worked.made, rest_made, mine_made, none);
      };
      served = AreServed-later limits rest'.seen joined.seen 0 x.holding os ss seen rested.served;
      behind = IsPrefix-trans x.seen rest'.seen joined.seen rested.behind seen;
    }

-- its events are those of the others, and then its own
pub ServedAll-worker-events : (limits : Limits) (workers others actor : ℕ) (of : TurnId) (old rest mine rest' mine' joined : PassView) (x : ExporterView) (os : List OpenedView) (ss : List EndedView)
    → (of_old : old.of ≡ of) → (some : 2 ≤ old.worth) → (is_rest : rest ≡ record old { worth = old.worth - 1 }) → (is_mine : mine ≡ record old { worth = 1; added = []; made = 0; taken = [] })
    → (is_workers : workers ≡ others + 1) → (is_actor : actor ≡ 8 + others) → (rested : ServedAll limits others rest rest' x os ss) → (worked : Passed (is_upkeep actor) mine mine' [])
    → (of_joined : joined.of ≡ of) → (seen : IsPrefix rest'.seen joined.seen) → (worth : joined.worth ≡ rest'.worth + mine'.worth) → (added : joined.added ≡ rest'.added ++ mine'.added) → (made : joined.made ≡ rest'.made + mine'.made)
    → (ServedAll-worker limits workers others actor of old rest mine rest' mine' joined x os ss of_old some is_rest is_mine is_workers is_actor rested worked of_joined seen worth added made).passed.events ≡ rested.passed.events ++ worked.events
unfolding ServedAll-worker
ServedAll-worker-events limits workers others actor of old rest mine rest' mine' joined x os ss of_old some is_rest is_mine is_workers is_actor rested worked of_joined seen worth added made = refl
