-- A run goes on by one step.
use Rattle.std.proofs.Common.{All, ◌≡◌, ◌≤◌, ◌<◌, ◌+◌, ℕ, ℤ, Bool, true, false, cond, List, [], ◌∷◌, ◌++◌, length, take, drop, Option, Some, None, ap, sym, ◌∙◌, subst, refl, arith, max, ◌⊎◌, inl, inr, count_by, slice_index_or, length-take, append-nil, suc}
use Rattle.std.specs.List.{remove}
use Rattle.std.proofs.lemmas.List.{take-append-le, take_all, flat_map_more, length_push}
use Rattle.std.proofs.lemmas.List.Elements.{All-nil, All-push, All-weaker, All-append, All-take, All-drop}
use Rattle.std.proofs.lemmas.List.Sums.{sum_by-remove, sum_by_push}
use Rattle.kq_catalog_journal.specs.declared.event.By.{By}
use Rattle.kq_catalog_journal.specs.declared.event.Operation.{Operation}
use Rattle.kq_catalog_journal.specs.declared.limits.Limits.{Limits}
use Rattle.kq_catalog_journal.specs.History.{History, commits_at}
use Rattle.kq_catalog_journal.specs.Requests.{same_by}
use Rattle.kq_catalog.specs.Seen.{CatalogView}
use Rattle.kq_engine_interleavings.specs.declared.run.Step.{Step}
use Rattle.kq_engine_interleavings.specs.declared.run.Step.TheVariants.{Begin, Finish}
use Rattle.kq_engine_interleavings.specs.declared.run.Told.{Told}
use Rattle.kq_engine.specs.declared.work.Outcome.{Outcome}
use Rattle.kq_engine_interleavings.specs.declared.prepared.Prepared.{Prepared}
use Rattle.kq_reply.specs.declared.reply.Reply.{Reply}
use Rattle.kq_engine.specs.declared.work.Work.{Work}
use Rattle.kq_engine_prepare.specs.declared.found.Found.{Found}
use Rattle.kq_engine_prepare.specs.declared.found.Found.TheVariants as readies
use Rattle.kq_engine_prepare.specs.Fits.{Fits, FitsNow, MayMake, event_by, own_commit}
use Rattle.kq_engine.specs.Acts.{Advances}
use Rattle.kq_engine_interleavings.specs.Steps.{IsPrepared}
use Rattle.kq_engine_prepare.specs.Found.{IsReady, MayWantMemory, TakesMemory, TakesToFinish}
use Rattle.kq_engine.specs.Acts.{WantsToFinish}
use Rattle.kq_engine_prepare.specs.Merges.{IsStill, NamesAll}
use Rattle.kq_engine_prepare.proofs.Telling.{still_requested, still_names}
use Rattle.kq_engine.proofs.Preparing.{ready_wants}
use Rattle.kq_catalog.specs.Intents.{commit_of}
use Rattle.kq_read_commands.specs.declared.command.Command.{Command}
use Rattle.kq_reply.specs.declared.refusal.Refusal.{Refusal}
use Rattle.kq_reply.specs.declared.refusal.Refusal.TheVariants as refusals
use Rattle.kq_reply.specs.declared.reply.Reply.TheVariants as replies
use Rattle.kq_engine_interleavings.specs.Steps.{work_of, place_of, is_finished, request_of, opens, tells, commits_told, Moment, start, IsBare, Tells, Accounts, ByStep, Leads, TellsOf, Runs, IsOpen, IsRun, IsAt, one_if_some}
use Rattle.kq_engine.proofs.Advancing.{Fits-append, Fits-end}
use Rattle.kq_engine_interleavings.proofs.Stepping.{same_by-true, same_by-itself, work_of-append, work_of-new, place_of-append, place_of-new, one-begin, one-finish, is_finished-begin, is_finished-finish, is_finished-begun, is_finished-append, is_finished-now}

abbrev moment : List Step → List ℕ → History → List Told → Moment
moment steps found h outcomes = record { steps = steps; found = found; history = h; outcomes = outcomes }

still_bare : (b : By) (xs ys : List Step) (t : Told) → (is_finished b xs ≡ true) ⊎ IsBare t → (is_finished b (xs ++ ys) ≡ true) ⊎ IsBare t
still_bare b xs ys t (inl e) = inl (is_finished-append b xs ys e)
still_bare b xs ys t (inr bare) = inr bare

-- more steps and more events leave an outcome as it is
Tells-later : (limits : Limits) (xs ys : List Step) (found more : List ℕ) (h new made : History) (os all : List Told) → new ≡ h ++ made → (t : Told) → Tells limits (moment xs found h os) t → Tells limits (moment (xs ++ ys) (found ++ more) new all) t
Tells-later limits xs ys found more h new made os all is t told = record {
  work = told.work;
  asked = work_of-append t.by xs ys told.work told.asked;
  found = place_of-append t.by xs ys found more t.began told.found;
  fits = subst (λ (n : History). Fits limits n t.by told.work.command told.work.now t.outcome.place t.outcome.own t.outcome.reply) (sym is) (Fits-append limits h made t.by told.work.command told.work.now t.outcome.place t.outcome.own t.outcome.reply told.fits);
  since = told.since;
  names_all = subst (λ (n : History). NamesAll n t.began t.outcome.reply) (sym (ap (take t.outcome.place) is ∙ take-append-le t.outcome.place h made told.fits.within)) told.names_all;
  memory = λ wants.
      let began : take t.began new ≡ take t.began h = ap (take t.began) is ∙ take-append-le t.began h made (omega (arith, told.since, told.fits.within)) in
      let place : take t.outcome.place new ≡ take t.outcome.place h = ap (take t.outcome.place) is ∙ take-append-le t.outcome.place h made told.fits.within in
      subst (λ (n : History). MayWantMemory (take t.began new) n told.work.command) (sym place) (subst (λ (n : History). MayWantMemory n (take t.outcome.place h) told.work.command) (sym began) (told.memory wants));
  finished = still_bare t.by xs ys t told.finished;
}

IsOpen-later : (limits : Limits) (xs ys : List Step) (found more : List ℕ) (h new made : History) (os all : List Told) → new ≡ h ++ made → (p : Prepared) → IsOpen limits (moment xs found h os) p → IsOpen limits (moment (xs ++ ys) (found ++ more) new all) p
IsOpen-later limits xs ys found more h new made os all is p open_one =
    let within : p.place ≤ length h = omega (arith, open_one.prepared.at, length-take p.place h) in
    let same : take p.place new ≡ take p.place h = ap (take p.place) is ∙ take-append-le p.place h made within in
    record {
      prepared = subst (λ (n : History). IsPrepared limits n p) (sym same) open_one.prepared;
      asked = work_of-append p.work.by xs ys p.work open_one.asked;
      found = place_of-append p.work.by xs ys found more p.place open_one.found;
    }

Runs-push : (limits : Limits) (old : Moment) (xs : List Step) (m : Moment) (s : Step) (next : Moment) → Runs limits old xs m → Leads limits m s next → Accounts limits next → Runs limits old (xs ++ s ∷ []) next
Runs-push limits old [] m s next runs leads accounts = (next, subst (λ (from : Moment). Leads limits from s next) (sym runs) leads, accounts, refl)
Runs-push limits old (x ∷ xs) m s next runs leads accounts = (runs.0, runs.1, runs.2, Runs-push limits runs.0 xs m s next runs.3 leads accounts)

few : (m : Option Work) (o t : ℕ) → o + t ≡ one_if_some m → t ≤ 1
few None o t e = omega arith
few (Some w) o t e = omega arith

all_told : (o t k : ℕ) → o + t ≡ k → o ≡ 0 → k ≡ 1 → t ≡ 1
all_told o t k e z one = omega arith

-- one more step
go_on : (limits : Limits) (xs : List Step) (s : Step) (old new : CatalogView) (open_ones left : List Prepared) (outcomes all : List Told) (made : Option Operation) (gave : List Told) (run : IsRun limits xs old open_ones outcomes) → new.limits ≡ old.limits → new.history ≡ old.history ++ event_by (request_of s) made → all ≡ outcomes ++ gave
    → length gave ≤ 1 → All (λ (t : Told). t.by ≡ request_of s) gave → (gave ≡ [] → made ≡ None) → All (TellsOf limits (moment xs run.found old.history outcomes) (xs ++ s ∷ []) made) gave → ByStep xs s made gave
    → All (IsOpen limits (moment (xs ++ s ∷ []) (run.found ++ length old.history ∷ []) new.history all)) left
    → All (Tells limits (moment (xs ++ s ∷ []) (run.found ++ length old.history ∷ []) new.history all)) all
    → commits_at new.history ≡ commits_told all
    → ((b : By) → count_by (opens b) left + count_by (tells b) all ≡ one_if_some (work_of b (xs ++ s ∷ [])))
    → ((b : By) → is_finished b (xs ++ s ∷ []) ≡ true → count_by (opens b) left ≡ 0)
    → IsRun limits (xs ++ s ∷ []) new left all
go_on limits xs s old new open_ones left outcomes all made gave run kept more told one requested no_more makes by_step waiting each commits once gone =
    let m : Moment = moment xs run.found old.history outcomes in
    let next : Moment = moment (xs ++ s ∷ []) (run.found ++ length old.history ∷ []) new.history all in
    let leads : Leads limits m s next = record { steps = refl; found = refl; made = made; history = more; gave = gave; outcomes = told; one = one; requested = requested; no_more = no_more; makes = makes; by_step = by_step } in
    let accounts : Accounts limits next = record {
      each = each;
      commits = commits;
      at_most_once = λ b. few (work_of b (xs ++ s ∷ [])) (count_by (opens b) left) (count_by (tells b) all) (once b);
      finished = λ b f. all_told (count_by (opens b) left) (count_by (tells b) all) _ (once b) (gone b f) (is_finished-begun b (xs ++ s ∷ []) f);
    } in
    record {
      same_limits = kept ∙ run.same_limits;
      found = run.found ++ length old.history ∷ [];
      counted = length_push run.found (length old.history) ∙ ap (λ (n : ℕ). n + 1) run.counted ∙ sym (length_push xs s);
      runs = Runs-push limits start xs m s next run.runs leads accounts;
      waiting = waiting;
      each = each;
      commits = commits;
      once = once;
      gone = gone;
    }

nothing_yet : (m : Option Work) → one_if_some m ≡ 0 → m ≡ None
nothing_yet None e = refl
nothing_yet (Some v) e = absurd (omega arith)

-- a step that does nothing
skip : (limits : Limits) (xs : List Step) (s : Step) (catalog : CatalogView) (open_ones : List Prepared) (outcomes : List Told) → IsRun limits xs catalog open_ones outcomes → ByStep xs s None [] → ((b : By) → one_if_some (work_of b (xs ++ s ∷ [])) ≡ one_if_some (work_of b xs)) → ((b : By) → is_finished b (xs ++ s ∷ []) ≡ true → count_by (opens b) open_ones ≡ 0) → IsRun limits (xs ++ s ∷ []) catalog open_ones outcomes
skip limits xs s catalog open_ones outcomes run by_step same none =
    let stays : catalog.history ≡ catalog.history ++ [] = sym (append-nil catalog.history) in
    go_on limits xs s catalog catalog open_ones open_ones outcomes outcomes None [] run refl stays (sym (append-nil outcomes))
    (omega arith) (All-nil (λ (t : Told). t.by ≡ request_of s)) (λ e. refl) (All-nil (TellsOf limits (moment xs run.found catalog.history outcomes) (xs ++ s ∷ []) None)) by_step
    (All-weaker _ _ (IsOpen-later limits xs (s ∷ []) run.found (length catalog.history ∷ []) catalog.history catalog.history [] outcomes outcomes stays) open_ones run.waiting)
    (All-weaker _ _ (Tells-later limits xs (s ∷ []) run.found (length catalog.history ∷ []) catalog.history catalog.history [] outcomes outcomes stays) outcomes run.each)
    run.commits (λ b. run.once b ∙ sym (same b)) none

begun_one : (s : Bool) (k n : ℕ) → n ≡ max k (cond s 1 0) → (s ≡ true → k ≡ 1) → n ≡ k
begun_one true k n is one = let k1 : k ≡ 1 = one refl in omega arith
begun_one false k n is one = omega arith

-- a request id that was begun before
pub skip_begin : (limits : Limits) (xs : List Step) (w : Work) (catalog : CatalogView) (open_ones : List Prepared) (outcomes : List Told) → 0 < count_by (opens w.by) open_ones + count_by (tells w.by) outcomes → IsRun limits xs catalog open_ones outcomes → IsRun limits (xs ++ Begin w ∷ []) catalog open_ones outcomes
skip_begin limits xs w catalog open_ones outcomes some run =
    skip limits xs (Begin w) catalog open_ones outcomes run (refl, λ first asked. refl)
    (λ b. begun_one (same_by w.by b) (one_if_some (work_of b xs)) _ (one-begin b xs w) (λ t. subst (λ (m : By). one_if_some (work_of m xs) ≡ 1) (same_by-true w.by b t) (just_one (work_of w.by xs) (subst (λ (n : ℕ). 0 < n) (run.once w.by) some))))
    (λ b f. run.gone b (sym (is_finished-begin b xs w) ∙ f))
  where
    just_one : (m : Option Work) → 0 < one_if_some m → one_if_some m ≡ 1
    just_one None l = absurd (omega arith)
    just_one (Some v) l = refl

-- a request id that is not open
pub skip_finish : (limits : Limits) (xs : List Step) (c : By) (catalog : CatalogView) (open_ones : List Prepared) (outcomes : List Told) → count_by (opens c) open_ones ≡ 0 → IsRun limits xs catalog open_ones outcomes → IsRun limits (xs ++ Finish c ∷ []) catalog open_ones outcomes
skip_finish limits xs c catalog open_ones outcomes none run =
    skip limits xs (Finish c) catalog open_ones outcomes run tt
    (λ b. one-finish b c xs)
    (λ b f. elim (is_finished-finish b c xs f) [ inl p ↦ run.gone b p | inr p ↦ subst (λ (m : By). count_by (opens m) open_ones ≡ 0) (same_by-true c b p.0) none ])

new_once : (s : Bool) (o t k n : ℕ) → o + t ≡ k → (s ≡ true → o + t ≡ 0) → n ≡ max k (cond s 1 0) → (o + cond s 1 0) + t ≡ n
new_once true o t k n e f is = let z : o + t ≡ 0 = f refl in omega arith
new_once false o t k n e f is = omega arith

new_told : (s : Bool) (o t k n : ℕ) → o + t ≡ k → (s ≡ true → o + t ≡ 0) → n ≡ max k (cond s 1 0) → o + (t + cond s 1 0) ≡ n
new_told s o t k n e f is = let h = new_once s o t k n e f is in omega (arith, h)

work_new : (b : By) (xs : List Step) (w : Work) → one_if_some (work_of b xs) ≡ 0 → same_by w.by b ≡ true → work_of b (xs ++ Begin w ∷ []) ≡ Some w
work_new b xs w zero is = rw (work_of-new b xs (Begin w ∷ []) (nothing (work_of b xs) zero), is) refl
  where
    nothing : (m : Option Work) → one_if_some m ≡ 0 → m ≡ None
    nothing None e = refl
    nothing (Some v) e = absurd (omega arith)

gone_new : (s : Bool) (o t k : ℕ) → o ≡ 0 → o + t ≡ k → k ≡ 1 → (s ≡ true → o + t ≡ 0) → o + cond s 1 0 ≡ 0
gone_new true o t k z e one f = let none : o + t ≡ 0 = f refl in absurd (omega arith)
gone_new false o t k z e one f = omega arith

none_at : (open_ones : List Prepared) (outcomes : List Told) (a b : By) → count_by (opens a) open_ones ≡ 0 → count_by (tells a) outcomes ≡ 0 → same_by a b ≡ true → count_by (opens b) open_ones + count_by (tells b) outcomes ≡ 0
none_at open_ones outcomes a b none_open none_told t = subst (λ (m : By). count_by (opens m) open_ones + count_by (tells m) outcomes ≡ 0) (same_by-true a b t) (omega (arith, none_open, none_told))

-- new work that was prepared
pub begin_open : (limits : Limits) (xs : List Step) (w : Work) (catalog : CatalogView) (open_ones : List Prepared) (outcomes : List Told) (p : Prepared) → count_by (opens w.by) open_ones ≡ 0 → count_by (tells w.by) outcomes ≡ 0 → p.work ≡ w → IsPrepared catalog.limits catalog.history p → IsRun limits xs catalog open_ones outcomes → IsRun limits (xs ++ Begin w ∷ []) catalog (open_ones ++ p ∷ []) outcomes
begin_open limits xs w catalog open_ones outcomes p none_open none_told same prepared run =
    let found = run.found ++ length catalog.history ∷ [] in
    let next : Moment = moment (xs ++ Begin w ∷ []) found catalog.history outcomes in
    go_on limits xs (Begin w) catalog catalog open_ones (open_ones ++ p ∷ []) outcomes outcomes None [] run refl stays (sym (append-nil outcomes))
    (omega arith) (All-nil (λ (t : Told). t.by ≡ w.by)) (λ e. refl) (All-nil (TellsOf limits (moment xs run.found catalog.history outcomes) (xs ++ Begin w ∷ []) None)) (refl, λ first asked. refl)
    (All-push (IsOpen limits next) open_ones p
    (All-weaker _ _ (IsOpen-later limits xs (Begin w ∷ []) run.found (length catalog.history ∷ []) catalog.history catalog.history [] outcomes outcomes stays) open_ones run.waiting)
    (record {
      prepared = subst (λ (n : History). IsPrepared limits n p) (sym (take_all p.place catalog.history (omega (arith, prepared.at)))) (subst (λ (l : Limits). IsPrepared l catalog.history p) run.same_limits prepared);
      asked = subst (λ (v : Work). work_of v.by (xs ++ Begin w ∷ []) ≡ Some v) (sym same) (work_new w.by xs w zero (same_by-itself w.by));
      found = subst (λ (v : Work). place_of v.by (xs ++ Begin w ∷ []) found ≡ Some p.place) (sym same) (subst (λ (n : ℕ). place_of w.by (xs ++ Begin w ∷ []) found ≡ Some n) (sym prepared.at) (place_of-new w.by xs run.found w (length catalog.history) run.counted (nothing_yet (work_of w.by xs) zero) (same_by-itself w.by)));
    }))
    (All-weaker _ _ (Tells-later limits xs (Begin w ∷ []) run.found (length catalog.history ∷ []) catalog.history catalog.history [] outcomes outcomes stays) outcomes run.each)
    run.commits
    (λ b. ap (λ (n : ℕ). n + count_by (tells b) outcomes) (pushed b) ∙ new_once (same_by w.by b) (count_by (opens b) open_ones) (count_by (tells b) outcomes) (one_if_some (work_of b xs)) _ (run.once b) (none_at open_ones outcomes w.by b none_open none_told) (one-begin b xs w))
    (λ b f.
    let g = sym (is_finished-begin b xs w) ∙ f in
    pushed b ∙ gone_new (same_by w.by b) (count_by (opens b) open_ones) (count_by (tells b) outcomes) (one_if_some (work_of b xs)) (run.gone b g) (run.once b) (is_finished-begun b xs g) (none_at open_ones outcomes w.by b none_open none_told))
  where
    stays : catalog.history ≡ catalog.history ++ []
    stays = sym (append-nil catalog.history)

    zero : one_if_some (work_of w.by xs) ≡ 0
    zero = sym (run.once w.by) ∙ omega (arith, none_open, none_told)

    pushed : (b : By) → count_by (opens b) (open_ones ++ p ∷ []) ≡ count_by (opens b) open_ones + cond (same_by w.by b) 1 0
    pushed b = sum_by_push (λ (x : Prepared). cond (opens b x) 1 0) open_ones p ∙ ap (λ (v : Work). count_by (opens b) open_ones + cond (same_by v.by b) 1 0) same

not_begun : (m : Option Work) (gave : List Told) → one_if_some m ≡ 0 → (first : Work) → m ≡ Some first → gave ≡ []
not_begun m gave none first asked = let one : one_if_some m ≡ 1 = ap one_if_some asked in absurd (omega arith)

-- new work that was refused on a snapshot
pub begin_refused : (limits : Limits) (xs : List Step) (w : Work) (catalog : CatalogView) (open_ones : List Prepared) (outcomes : List Told) (place : ℕ) (reply : Reply) → count_by (opens w.by) open_ones ≡ 0 → count_by (tells w.by) outcomes ≡ 0 → place ≡ length catalog.history → FitsNow catalog.limits catalog.history w.by w.command w.now false reply → IsStill reply → (reply ≡ replies.Refused refusals.Memory → TakesMemory catalog.history w.command) → IsRun limits xs catalog open_ones outcomes → IsRun limits (xs ++ Begin w ∷ []) catalog open_ones (outcomes ++ record { by = w.by; began = place; outcome = record { place = place; own = false; reply = reply } } ∷ [])
begin_refused limits xs w catalog open_ones outcomes place reply none_open none_told at_end fits still takes run =
    let t : Told = record { by = w.by; began = place; outcome = record { place = place; own = false; reply = reply } } in
    let zero : one_if_some (work_of w.by xs) ≡ 0 = sym (run.once w.by) ∙ omega (arith, none_open, none_told) in
    let stays : catalog.history ≡ catalog.history ++ [] = sym (append-nil catalog.history) in
    let found = run.found ++ length catalog.history ∷ [] in
    let all = outcomes ++ t ∷ [] in
    let next : Moment = moment (xs ++ Begin w ∷ []) found catalog.history all in
    go_on limits xs (Begin w) catalog catalog open_ones open_ones outcomes all None (t ∷ []) run refl stays refl
    (omega arith) (All-push (λ (u : Told). u.by ≡ w.by) [] t (All-nil (λ (u : Told). u.by ≡ w.by)) refl) (λ e. refl)
    (let tells_none : Told → Type 0 = TellsOf limits (moment xs run.found catalog.history outcomes) (xs ++ Begin w ∷ []) None in
    All-push tells_none [] t (All-nil tells_none) (w, work_new w.by xs w zero (same_by-itself w.by), tt))
    (refl, not_begun (work_of w.by xs) (t ∷ []) zero)
    (All-weaker _ _ (IsOpen-later limits xs (Begin w ∷ []) run.found (length catalog.history ∷ []) catalog.history catalog.history [] outcomes all stays) open_ones run.waiting)
    (All-push (Tells limits next) outcomes t
    (All-weaker _ _ (Tells-later limits xs (Begin w ∷ []) run.found (length catalog.history ∷ []) catalog.history catalog.history [] outcomes all stays) outcomes run.each)
    (record {
      work = w;
      asked = work_new w.by xs w zero (same_by-itself w.by);
      found = subst (λ (n : ℕ). place_of w.by (xs ++ Begin w ∷ []) found ≡ Some n) (sym at_end) (place_of-new w.by xs run.found w (length catalog.history) run.counted (nothing_yet (work_of w.by xs) zero) (same_by-itself w.by));
      fits = Fits-end limits catalog.history w.by w.command w.now place false reply at_end (subst (λ (l : Limits). FitsNow l catalog.history w.by w.command w.now false reply) run.same_limits fits) (still_requested catalog.history w.by reply still);
      since = omega arith;
      names_all = still_names (take place catalog.history) place reply still;
      memory = λ wants. inl (subst (λ (n : History). TakesMemory n w.command) (sym (take_all place catalog.history (omega (arith, at_end)))) (takes wants));
      finished = inr (record { not_own = refl; place = refl });
    }))
    (run.commits ∙ sym (append-nil (commits_told outcomes)) ∙ flat_map_more (λ (x : Told). own_commit x.outcome.own x.outcome.place x.by) [] outcomes t)
    (λ b. ap (λ (n : ℕ). count_by (opens b) open_ones + n) (sum_by_push (λ (x : Told). cond (tells b x) 1 0) outcomes t) ∙ new_told (same_by w.by b) (count_by (opens b) open_ones) (count_by (tells b) outcomes) (one_if_some (work_of b xs)) _ (run.once b) (none_at open_ones outcomes w.by b none_open none_told) (one-begin b xs w))
    (λ b f. run.gone b (sym (is_finished-begin b xs w) ∙ f))

moved : (s : Bool) (o o' t k : ℕ) → o' + cond s 1 0 ≡ o → o + t ≡ k → o' + (t + cond s 1 0) ≡ k
moved s o o' t k e f = omega arith

moved_gone : (s : Bool) (o o' t k : ℕ) → o' + cond s 1 0 ≡ o → o + t ≡ k → (o ≡ 0) ⊎ ((s ≡ true) × (k ≡ 1)) → o' ≡ 0
moved_gone true o o' t k e f (inl z) = omega arith
moved_gone true o o' t k e f (inr (q, one)) = omega arith
moved_gone false o o' t k e f (inl z) = omega arith
moved_gone false o o' t k e f (inr (q, one)) = cc

some_given : (t : Told) (made : Option Operation) → t ∷ [] ≡ [] → made ≡ None
some_given t made e = cc

-- open work is finished
pub finish_open : (limits : Limits) (xs : List Step) (c : By) (old new : CatalogView) (open_ones : List Prepared) (outcomes : List Told) (i : ℕ) (p : Prepared) (outcome : Outcome) → IsAt (opens c) open_ones i → p ≡ slice_index_or open_ones i p → new.limits ≡ old.limits → Advances old.limits old.history new.history p.work p.place outcome → WantsToFinish p.place new.history p.work.command p.found outcome → IsRun limits xs old open_ones outcomes → IsRun limits (xs ++ Finish c ∷ []) new (remove open_ones i) (outcomes ++ record { by = c; began = p.place; outcome = outcome } ∷ [])
finish_open limits xs c old new open_ones outcomes i p outcome is_at value kept step takes run =
    let t : Told = record { by = c; began = p.place; outcome = outcome } in
    let request : p.work.by ≡ c = same_by-true p.work.by c (ap (opens c) value ∙ is_at.1 p) in
    let open_one : IsOpen limits (moment xs run.found old.history outcomes) p = subst (IsOpen limits (moment xs run.found old.history outcomes)) (sym value) (run.waiting i p is_at.0) in
    let asked : work_of c xs ≡ Some p.work = subst (λ (m : By). work_of m xs ≡ Some p.work) request open_one.asked in
    let made = event_by p.work.by step.appends.made in
    let is = step.appends.appended in
    let requested_is : new.history ≡ old.history ++ event_by c step.appends.made = subst (λ (m : By). new.history ≡ old.history ++ event_by m step.appends.made) request is in
    let found = run.found ++ length old.history ∷ [] in
    let all = outcomes ++ t ∷ [] in
    let next : Moment = moment (xs ++ Finish c ∷ []) found new.history all in
    let P = IsOpen limits next in
    let later : All P open_ones = All-weaker _ _ (IsOpen-later limits xs (Finish c ∷ []) run.found (length old.history ∷ []) old.history new.history made outcomes all is) open_ones run.waiting in
    let left = λ (b : By). let e = sum_by-remove (λ (x : Prepared). cond (opens b x) 1 0) open_ones i p is_at.0 in subst (λ (q : Prepared). count_by (opens b) (remove open_ones i) + cond (opens b q) 1 0 ≡ count_by (opens b) open_ones) (sym value) e in
    let of = λ (b : By). subst (λ (m : By). count_by (opens b) (remove open_ones i) + cond (same_by m b) 1 0 ≡ count_by (opens b) open_ones) request (left b) in
    go_on limits xs (Finish c) old new open_ones (remove open_ones i) outcomes all step.appends.made (t ∷ []) run kept requested_is refl
    (omega arith) (All-push (λ (u : Told). u.by ≡ c) [] t (All-nil (λ (u : Told). u.by ≡ c)) refl) (some_given t step.appends.made)
    (let tells_made : Told → Type 0 = TellsOf limits (moment xs run.found old.history outcomes) (xs ++ Finish c ∷ []) step.appends.made in
    All-push tells_made [] t (All-nil tells_made)
    (p.work, work_of-append c xs (Finish c ∷ []) p.work asked, subst (λ (l : Limits). MayMake l old.history p.work.command outcome.reply step.appends.made) run.same_limits step.appends.may_make))
    tt
    (All-append P (take i open_ones) (drop (suc i) open_ones) (All-take P i open_ones later) (All-drop P (suc i) open_ones later))
    (All-push (Tells limits next) outcomes t
    (All-weaker _ _ (Tells-later limits xs (Finish c ∷ []) run.found (length old.history ∷ []) old.history new.history made outcomes all is) outcomes run.each)
    (record {
      work = p.work;
      asked = work_of-append c xs (Finish c ∷ []) p.work asked;
      found = place_of-append c xs (Finish c ∷ []) run.found (length old.history ∷ []) p.place (subst (λ (m : By). place_of m xs run.found ≡ Some p.place) request open_one.found);
      fits = subst (λ (m : By). Fits limits new.history m p.work.command p.work.now outcome.place outcome.own outcome.reply) request (subst (λ (l : Limits). Fits l new.history p.work.by p.work.command p.work.now outcome.place outcome.own outcome.reply) run.same_limits step.fits);
      since = step.since;
      names_all = step.names_all;
      memory = λ wants. subst (λ (n : History). MayWantMemory n (take outcome.place new.history) p.work.command) (sym (ap (take p.place) is ∙ take-append-le p.place old.history made (omega (arith, open_one.prepared.at, length-take p.place old.history)))) (ready_wants limits (take p.place old.history) p.place (take outcome.place new.history) p.work.now p.work.command p.found open_one.prepared.is_ready (takes wants));
      finished = inl (is_finished-now c xs p.work asked);
    }))
    (step.appends.commits ∙ ap (λ (m : By). commits_at old.history ++ own_commit outcome.own outcome.place m) request ∙ ap (λ l. l ++ own_commit outcome.own outcome.place c) run.commits ∙ flat_map_more (λ (x : Told). own_commit x.outcome.own x.outcome.place x.by) [] outcomes t)
    (λ b. ap (λ (n : ℕ). count_by (opens b) (remove open_ones i) + n) (sum_by_push (λ (x : Told). cond (tells b x) 1 0) outcomes t) ∙ moved (same_by c b) (count_by (opens b) open_ones) (count_by (opens b) (remove open_ones i)) (count_by (tells b) outcomes) _ (of b) (run.once b) ∙ sym (one-finish b c xs))
    (λ b f. moved_gone (same_by c b) (count_by (opens b) open_ones) (count_by (opens b) (remove open_ones i)) (count_by (tells b) outcomes) (one_if_some (work_of b xs)) (of b) (run.once b) (elim (is_finished-finish b c xs f) [ inl q ↦ inl (run.gone b q) | inr q ↦ inr q ]))

one_at_least : {X : Type 0} (test : X → Bool) (xs : List X) (i : ℕ) (d : X) → IsAt test xs i → 0 < count_by test xs
one_at_least {X} test xs i d is_at =
    let e = sum_by-remove (λ (x : X). cond (test x) 1 0) xs i d is_at.0 in
    let n : ℕ = cond (test (slice_index_or xs i d)) 1 0 in
    let one : n ≡ 1 = ap (λ (t : Bool). let m : ℕ = cond t 1 0 in m) (is_at.1 d) in
    omega (arith, e, one)

-- an element that passes is counted
pub count_by-at : {X : Type 0} (test : X → Bool) (xs : List X) (i : ℕ) → IsAt test xs i → 0 < count_by test xs
count_by-at test [] i is_at = absurd (omega (arith, is_at.0))
count_by-at test (x ∷ xs) i is_at = one_at_least test (x ∷ xs) i x is_at

pub same_refusal : (r s : Refusal) → replies.Refused r ≡ replies.Refused s → r ≡ s
same_refusal r s e = cc

-- nothing was done yet
pub IsRun-start : (limits : Limits) (catalog : CatalogView) (open_ones : List Prepared) (outcomes : List Told) → catalog.limits ≡ limits → catalog.history ≡ [] → open_ones ≡ [] → outcomes ≡ [] → IsRun limits [] catalog open_ones outcomes
IsRun-start limits catalog open_ones outcomes same empty none_open none_told = record {
  same_limits = same;
  found = [];
  counted = refl;
  runs = ap (λ (h : History). moment [] [] h []) (sym empty) ∙ ap (moment [] [] catalog.history) (sym none_told);
  waiting = subst (All (IsOpen limits (moment [] [] catalog.history outcomes))) (sym none_open) (All-nil (IsOpen limits (moment [] [] catalog.history outcomes)));
  each = subst (All (Tells limits (moment [] [] catalog.history outcomes))) (sym none_told) (All-nil (Tells limits (moment [] [] catalog.history outcomes)));
  commits = ap commits_at empty ∙ ap commits_told (sym none_told);
  once = λ b. ap (λ (ps : List Prepared). count_by (opens b) ps + count_by (tells b) outcomes) none_open ∙ ap (λ (os : List Told). 0 + count_by (tells b) os) none_told;
  gone = λ b f. ap (λ (ps : List Prepared). count_by (opens b) ps) none_open;
}
