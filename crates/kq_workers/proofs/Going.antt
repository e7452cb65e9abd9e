-- Chores and rounds, one after another.
use Rattle.std.proofs.Common.{◌≡◌, ◌||◌, ◌&&◌, All, Bool, true, false, ℕ, List, [], ◌∷◌, ◌++◌, length, nat_eq, Option, Some, None, refl, ap, sym, ◌∙◌, subst, append-nil, append_assoc}
use Rattle.std.proofs.lemmas.Bool.{eq-eqb}
use Rattle.std.proofs.lemmas.List.Elements.{All-append, All-cons, All-nil}
use mathlib.Core.List.{IsPrefix}
use Rattle.kq_lock.proofs.Beginnings.{IsPrefix-refl, IsPrefix-trans}
use Rattle.kq_catalog_journal.specs.declared.event.Event.{Event}
use Rattle.kq_catalog_journal.specs.declared.event.Operation.{Operation}
use Rattle.kq_catalog_journal.specs.declared.event.Operation.TheVariants as operation
use Rattle.kq_catalog_journal.specs.declared.limits.Limits.{Limits}
use Rattle.kq_catalog_journal.specs.History.{History, commits_of}
use Rattle.kq_reply.specs.declared.reply.Reply.{Reply}
use Rattle.kq_engine.specs.declared.upkeep.Upkeep.{Upkeep}
use Rattle.kq_engine.specs.declared.upkeep.Upkeep.TheVariants as upkeeps
use Rattle.kq_engine.specs.kq_engine_prepare.Fits.{event_by}
use Rattle.kq_engine.specs.Shared.{PassView}
use Rattle.kq_engine.specs.Upkeeps.{IsWanted, MakesOwn}
use Rattle.kq_workers.specs.declared.worker.Worker.{Worker}
use Rattle.kq_workers.specs.Rounds.{GoesRound, GoesRounds, HasRound, HasRounds, HasChores, Looks, TakesOne, TakesChore, TakesChores, Chore, Works, begun, is_upkeep, next, wants_memory}

-- ---- short

or_first : (a b : Bool) → (a || b) ≡ false → a ≡ false
or_first true b none = none
or_first false b none = refl

pub or_true : (a : Bool) → true ≡ (a || true)
or_true true = refl
or_true false = refl

pub or_false : (a : Bool) → a ≡ (a || false)
or_false true = refl
or_false false = refl

or_second : (a b : Bool) → (a || b) ≡ false → b ≡ false
or_second true b none = absurd (cc)
or_second false b none = none

-- ---- chores

chores_append : (limits : Limits) (actor : ℕ) (xs ys : List Chore) (a b c : Worker) → TakesChores limits actor xs a b → TakesChores limits actor ys b c → TakesChores limits actor (xs ++ ys) a c
chores_append limits actor [] ys a b c same rest = subst (λ (w : Worker). TakesChores limits actor ys w c) (sym same) rest
chores_append limits actor (t ∷ xs) ys a b c went rest = (went.0, went.1, chores_append limits actor xs ys went.0 b c went.2 rest)

pub HasChores-none : (limits : Limits) (actor : ℕ) (first : History) (w : Worker) → HasChores limits actor first w w
HasChores-none limits actor first w = record { chores = []; wanted = All-nil (λ (t : Chore). IsWanted first t.upkeep); taken = refl }

pub HasChores-one : (limits : Limits) (actor : ℕ) (first : History) (old new : Worker) (upkeep : Upkeep) → IsWanted first upkeep → TakesOne limits actor old new upkeep → HasChores limits actor first old new
HasChores-one limits actor first old new upkeep wanted one =
    let t : Chore = record { upkeep = upkeep; outcome = one.outcome } in
    record { chores = t ∷ []; wanted = All-cons (λ (x : Chore). IsWanted first x.upkeep) t [] wanted (All-nil (λ (x : Chore). IsWanted first x.upkeep)); taken = (new, one.chore, refl) }

pub HasChores-append : (limits : Limits) (actor : ℕ) (first : History) (a b c : Worker) → HasChores limits actor first a b → HasChores limits actor first b c → HasChores limits actor first a c
HasChores-append limits actor first a b c before later = record {
  chores = before.chores ++ later.chores;
  wanted = All-append (λ (t : Chore). IsWanted first t.upkeep) before.chores later.chores before.wanted later.wanted;
  taken = chores_append limits actor before.chores later.chores a b c before.taken later.taken;
}

chores_short : (limits : Limits) (actor : ℕ) (chores : List Chore) (old new : Worker) → TakesChores limits actor chores old new → new.short ≡ false → old.short ≡ false
chores_short limits actor [] old new same none = ap (λ (w : Worker). w.short) same ∙ none
chores_short limits actor (t ∷ chores) old new went none = or_first old.short _ (sym went.1.short ∙ chores_short limits actor chores went.0 new went.2 none)

-- where memory was wanting in no chore, it was wanting in none before
pub HasChores-short : (limits : Limits) (actor : ℕ) (first : History) (old new : Worker) → HasChores limits actor first old new → new.short ≡ false → old.short ≡ false
HasChores-short limits actor first old new has none = chores_short limits actor has.chores old new has.taken none

pub TakesOne-granted : (limits : Limits) (actor : ℕ) (old new : Worker) (upkeep : Upkeep) (one : TakesOne limits actor old new upkeep) → new.short ≡ false → wants_memory one.outcome.reply ≡ false
TakesOne-granted limits actor old new upkeep one none = or_second old.short _ (sym one.chore.short ∙ none)

-- ---- passes

one_upkeep : (actor n : ℕ) (made : Operation) → nat_eq (length (commits_of made)) 0 ≡ true → All (λ (e : Event). is_upkeep actor e ≡ true) (record { by = record { actor = actor; number = n }; operation = made } ∷ [])
one_upkeep actor n made keeps =
    let e : Event = record { by = record { actor = actor; number = n }; operation = made } in
    let own : is_upkeep actor e ≡ true = ap (λ (b : Bool). b && nat_eq (length (commits_of made)) 0) (eq-eqb actor actor refl) ∙ keeps in
    All-cons (λ (x : Event). is_upkeep actor x ≡ true) e [] own (All-nil (λ (x : Event). is_upkeep actor x ≡ true))

-- an upkeep's own event is a fold or a merge
own_upkeep : (actor n : ℕ) (upkeep : Upkeep) (reply : Reply) (made : Option Operation) → MakesOwn upkeep reply made → All (λ (e : Event). is_upkeep actor e ≡ true) (event_by (record { actor = actor; number = n }) made)
own_upkeep actor n upkeep reply None own = All-nil (λ (e : Event). is_upkeep actor e ≡ true)
own_upkeep actor n (upkeeps.Fold view) reply (Some (operation.Fold number to)) own = one_upkeep actor n (operation.Fold number to) refl
own_upkeep actor n (upkeeps.Merge table) reply (Some (operation.Merge number old new)) own = one_upkeep actor n (operation.Merge number old new) refl
own_upkeep actor n (upkeeps.Fold view) reply (Some (operation.Commit c)) own = absurd own
own_upkeep actor n (upkeeps.Fold view) reply (Some (operation.Merge number old new)) own = absurd own
own_upkeep actor n (upkeeps.Merge table) reply (Some (operation.Commit c)) own = absurd own
own_upkeep actor n (upkeeps.Merge table) reply (Some (operation.Fold number to)) own = absurd own

-- a pass that has seen at least as much, of the same lock and worth, through which an actor's folds and merges were made, and no commit
pub record Carries (actor : ℕ) (old new : PassView) : Type 0 where
  pub events : History
  pub added : new.added ≡ old.added ++ events
  pub upkeep : All (λ (e : Event). is_upkeep actor e ≡ true) events
  pub of : new.of ≡ old.of
  pub worth : new.worth ≡ old.worth
  pub made : new.made ≡ old.made
  pub seen : IsPrefix old.seen new.seen

Carries-same : (actor : ℕ) (old new : PassView) → old ≡ new → Carries actor old new
Carries-same actor old new same = record {
  events = [];
  added = ap (λ (p : PassView). p.added) (sym same) ∙ sym (append-nil old.added);
  upkeep = All-nil (λ (e : Event). is_upkeep actor e ≡ true);
  of = ap (λ (p : PassView). p.of) (sym same);
  worth = ap (λ (p : PassView). p.worth) (sym same);
  made = ap (λ (p : PassView). p.made) (sym same);
  seen = subst (λ (p : PassView). IsPrefix old.seen p.seen) same (IsPrefix-refl old.seen);
}

Carries-trans : (actor : ℕ) (a b c : PassView) → Carries actor a b → Carries actor b c → Carries actor a c
Carries-trans actor a b c first later = record {
  events = first.events ++ later.events;
  added = later.added ∙ ap (λ (h : History). h ++ later.events) first.added ∙ append_assoc a.added first.events later.events;
  upkeep = All-append (λ (e : Event). is_upkeep actor e ≡ true) first.events later.events first.upkeep later.upkeep;
  of = later.of ∙ first.of;
  worth = later.worth ∙ first.worth;
  made = later.made ∙ first.made;
  seen = IsPrefix-trans a.seen b.seen c.seen first.seen later.seen;
}

pub Carries-looks : (actor : ℕ) (old new : PassView) → Looks old new → Carries actor old new
Carries-looks actor old new looks = record {
  events = [];
  added = ap (λ (p : PassView). p.added) looks.pass ∙ sym (append-nil old.added);
  upkeep = All-nil (λ (e : Event). is_upkeep actor e ≡ true);
  of = ap (λ (p : PassView). p.of) looks.pass;
  worth = ap (λ (p : PassView). p.worth) looks.pass;
  made = ap (λ (p : PassView). p.made) looks.pass;
  seen = looks.seen;
}

chore_carries : (limits : Limits) (actor : ℕ) (old new : Worker) (t : Chore) → TakesChore limits actor old new t → Carries actor old.pass new.pass
chore_carries limits actor old new t chore =
    let up = chore.keeps.last.upholds in
    record {
      events = event_by (record { actor = actor; number = new.number }) up.made;
      added = chore.keeps.last.added;
      upkeep = own_upkeep actor new.number t.upkeep t.outcome.reply up.made up.own_event;
      of = chore.keeps.of;
      worth = chore.keeps.worth;
      made = chore.keeps.made;
      seen = chore.keeps.seen;
    }

chores_carry : (limits : Limits) (actor : ℕ) (chores : List Chore) (old new : Worker) → TakesChores limits actor chores old new → Carries actor old.pass new.pass
chores_carry limits actor [] old new same = Carries-same actor old.pass new.pass (ap (λ (w : Worker). w.pass) same)
chores_carry limits actor (t ∷ chores) old new went = Carries-trans actor old.pass went.0.pass new.pass (chore_carries limits actor old went.0 t went.1) (chores_carry limits actor chores went.0 new went.2)

pub HasChores-carries : (limits : Limits) (actor : ℕ) (first : History) (old new : Worker) → HasChores limits actor first old new → Carries actor old.pass new.pass
HasChores-carries limits actor first old new has = chores_carry limits actor has.chores old new has.taken

round_carries : (limits : Limits) (actor : ℕ) (chores : List Chore) (old new : Worker) → GoesRound limits actor chores old new → Carries actor old.pass new.pass
round_carries limits actor chores old new round = Carries-trans actor old.pass round.looked.pass new.pass (Carries-looks actor old.pass round.looked.pass round.looks) (chores_carry limits actor chores round.looked new round.chore)

rounds_carry : (limits : Limits) (actor : ℕ) (rounds : List (List Chore)) (old new : Worker) → GoesRounds limits actor rounds old new → Carries actor old.pass new.pass
rounds_carry limits actor [] old new same = Carries-same actor old.pass new.pass (ap (λ (w : Worker). w.pass) same)
rounds_carry limits actor (chores ∷ rounds) old new went = Carries-trans actor old.pass went.0.pass new.pass (round_carries limits actor chores old went.0 went.1) (rounds_carry limits actor rounds went.0 new went.2)

-- ---- rounds

-- the look was refused
pub HasRound-refused : (limits : Limits) (actor : ℕ) (old new : Worker) → Looks old.pass new.pass → new.refused.count ≡ next old.refused.count → new.number ≡ old.number → new.short ≡ true → HasRound limits actor old new
HasRound-refused limits actor old new looks counted number short = record {
  chores = [];
  went = record { looked = new; looks = looks; number = number; refused = true; counted = counted; short = short ∙ or_true old.short; none = λ e. refl; wanted = All-nil (λ (t : Chore). IsWanted new.pass.seen t.upkeep); chore = refl };
}

pub HasRound-chores : (limits : Limits) (actor : ℕ) (old looked new : Worker) → Looks old.pass looked.pass → looked.refused.count ≡ old.refused.count → looked.number ≡ old.number → looked.short ≡ old.short → HasChores limits actor looked.pass.seen looked new → HasRound limits actor old new
HasRound-chores limits actor old looked new looks counted number short has = record {
  chores = has.chores;
  went = record { looked = looked; looks = looks; number = number; refused = false; counted = counted; short = short ∙ or_false old.short; none = λ e. absurd (cc); wanted = has.wanted; chore = has.taken };
}

-- rounds that were gone so far
pub record SoFar (limits : Limits) (actor : ℕ) (old new : Worker) : Type 0 where
  pub rounds : List (List Chore)
  pub went : GoesRounds limits actor rounds old new

pub SoFar-carries : (limits : Limits) (actor : ℕ) (old new : Worker) → SoFar limits actor old new → Carries actor old.pass new.pass
SoFar-carries limits actor old new so_far = rounds_carry limits actor so_far.rounds old new so_far.went

rounds_push : (limits : Limits) (actor : ℕ) (rounds : List (List Chore)) (chores : List Chore) (a b c : Worker) → GoesRounds limits actor rounds a b → GoesRound limits actor chores b c → GoesRounds limits actor (rounds ++ chores ∷ []) a c
rounds_push limits actor [] chores a b c same round = (c, subst (λ (w : Worker). GoesRound limits actor chores w c) (sym same) round, refl)
rounds_push limits actor (first ∷ rounds) chores a b c went round = (went.0, went.1, rounds_push limits actor rounds chores went.0 b c went.2 round)

-- one round more
pub SoFar-push : (limits : Limits) (actor : ℕ) (a b c : Worker) → SoFar limits actor a b → HasRound limits actor b c → SoFar limits actor a c
SoFar-push limits actor a b c so_far has = record { rounds = so_far.rounds ++ has.chores ∷ []; went = rounds_push limits actor so_far.rounds has.chores a b c so_far.went has.went }

-- so there is one or more
pub HasRounds-push : (limits : Limits) (actor : ℕ) (a b c : Worker) → SoFar limits actor a b → HasRound limits actor b c → HasRounds limits actor a c
HasRounds-push limits actor a b c so_far has = by_rounds so_far.rounds so_far.went
  where
    by_rounds : (rounds : List (List Chore)) → GoesRounds limits actor rounds a b → HasRounds limits actor a c
    by_rounds [] same = record { first = has.chores; more = []; went = rounds_push limits actor [] has.chores a b c same has.went }
    by_rounds (first ∷ rounds) went = record { first = first; more = rounds ++ has.chores ∷ []; went = rounds_push limits actor (first ∷ rounds) has.chores a b c went has.went }

-- what became of the pass in all
pub Works-rounds : (limits : Limits) (actor : ℕ) (pass : PassView) (new : Worker) → HasRounds limits actor (begun pass) new → Works limits actor pass new.pass new.refused.count new.short
Works-rounds limits actor pass new has =
    let carries = rounds_carry limits actor (has.first ∷ has.more) (begun pass) new has.went in
    record {
      of = carries.of;
      worth = carries.worth;
      events = carries.events;
      added = carries.added;
      upkeep = carries.upkeep;
      made = carries.made;
      seen = carries.seen;
      first = has.first;
      rounds = has.more;
      last = new.number;
      went = has.went;
    }
