-- Sessions whose receipts tell as many commits as the history has tell just its commits.
use Rattle.std.proofs.Common.{◌≡◌, ◌<◌, ◌≤◌, ◌⊎◌, ℕ, ◌+◌, Bool, true, false, cond, List, [], ◌∷◌, ◌++◌, length, filter, Option, Some, None, All, nat_eq, nat_le, refl, ap, sym, ◌∙◌, subst, arith, inl, inr, add-zero}
use Rattle.std.proofs.lemmas.List.Sums.{sum_by-cons}
use Rattle.std.proofs.lemmas.List.Elements.{All-cons, All-nil}
use Rattle.std.proofs.lemmas.Bool.Decides.{nat_tests}
use Rattle.kq_catalog_journal.specs.declared.event.Event.{Event}
use Rattle.kq_catalog_journal.specs.declared.limits.Limits.{Limits}
use Rattle.kq_catalog_journal.specs.History.{History, CommitAt, cursor, commits_at}
use Rattle.kq_workers.specs.kq_engine.Fits.{own_commit}
use Rattle.kq_workers.specs.kq_engine.Shared.{commit_count}
use Rattle.kq_workers.proofs.kq_engine.Counting.{length-commits_at}
use Rattle.kq_workers.proofs.kq_engine.Owning.{IsIn, IsRising, commits_at-rising}
use Rattle.kq_session.specs.declared.receipt.Receipt.{Receipt}
use Rattle.kq_session.specs.Objects.{Objects, SessionView}
use Rattle.kq_session.specs.Session.{Explained, owns, own_commits}
use Rattle.kq_session.proofs.Owned.{Follows, AreIn, AreOwned, Explained-owned}
use Rattle.kq_session.specs.kq_export_interface.Due.{Holding, nothing_held}
use Rattle.kq_program.specs.Scripts.{ByScript}
use Rattle.kq_program.specs.Together.{AreServed, all_owns}
use Rattle.kq_program.specs.Views.{OpenedView, EndedView}
use Rattle.kq_program.specs.Whole.{Whole, AreOwn, is_caused}

rising_above : (q : ℕ) (ms : List CommitAt) (x : CommitAt) → IsRising q ms → IsIn x ms → q < x.place
rising_above q [] x rising here = absurd here
rising_above q (m ∷ ms) x rising (inl same) = let e = ap (λ (c : CommitAt). c.place) same in omega (arith, rising.0, e)
rising_above q (m ∷ ms) x rising (inr later) = let e = rising_above m.place ms x rising.1 later in omega (arith, rising.0, e)

rising_below : (p q : ℕ) (ms : List CommitAt) → p ≤ q → IsRising q ms → IsRising p ms
rising_below p q [] below rising = tt
rising_below p q (m ∷ ms) below rising = (omega (arith, below, rising.0), rising.1)

-- m stands before all of these
Before : CommitAt → ℕ → ℕ → Type 0
Before m q n = (m.place < q) ⊎ (m.by.number ≤ n)

mark_before : (m x : CommitAt) → m.by.number ≤ x.by.number → Before m x.place x.by.number
unfolding Before
mark_before m x le = inr le

place_before : (m x : CommitAt) → m.place < x.place → Before m x.place x.by.number
unfolding Before
place_before m x lt = inl lt

before_on : (m x : CommitAt) (q n : ℕ) → q ≤ x.place → n < x.by.number → Before m q n → Before m x.place x.by.number
unfolding Before
before_on m x q n low few (inl place) = inl (omega (arith, low, place))
before_on m x q n low few (inr number) = inr (omega (arith, few, number))

before_not : (m x : CommitAt) (q n : ℕ) → q ≤ x.place → n < x.by.number → Before m q n → x ≡ m → ⊥
unfolding Before
before_not m x q n low few (inl place) same = let e = ap (λ (c : CommitAt). c.place) same in omega (arith, low, place, e)
before_not m x q n low few (inr number) same = let e = ap (λ (c : CommitAt). c.by.number) same in omega (arith, few, number, e)

in_rest : (m x : CommitAt) (ms : List CommitAt) → (x ≡ m → ⊥) → (x ≡ m) ⊎ IsIn x ms → IsIn x ms
in_rest m x ms not (inl same) = absurd (not same)
in_rest m x ms not (inr later) = later

AreIn-rest : (m : CommitAt) (ms os : List CommitAt) (q n : ℕ) → Before m q n → Follows q n os → AreIn os (m ∷ ms) → AreIn os ms
AreIn-rest m ms [] q n before follows here = tt
AreIn-rest m ms (x ∷ os) q n before follows here =
    (in_rest m x ms (before_not m x q n follows.0 follows.1 before) here.0, AreIn-rest m ms os x.place x.by.number (before_on m x q n follows.0 follows.1 before) follows.2 here.1)

-- a list in another
record Within (ms os : List CommitAt) : Type 0 where
  pub short : length os ≤ length ms
  pub same : length os ≡ length ms → os ≡ ms

Within-same : (m o : CommitAt) (ms os : List CommitAt) → o ≡ m → Within ms os → Within (m ∷ ms) (o ∷ os)
Within-same m o ms os same rest = record {
  short = omega (arith, rest.short);
  same = λ e. let tail = rest.same (omega (arith, e)) in λ i. same i ∷ tail i;
}

Within-later : (m : CommitAt) (ms os : List CommitAt) → Within ms os → Within (m ∷ ms) os
Within-later m ms os rest = record {
  short = omega (arith, rest.short);
  same = λ e. absurd (omega (arith, e, rest.short));
}

within : (ms os : List CommitAt) (p q n : ℕ) → IsRising p ms → Follows q n os → AreIn os ms → Within ms os
within [] [] p q n rising follows here = record { short = omega arith; same = λ e. refl }
within [] (o ∷ os) p q n rising follows here = absurd here.0
within (m ∷ ms) [] p q n rising follows here = record { short = omega arith; same = λ e. absurd (omega (arith, e)) }
within (m ∷ ms) (o ∷ os) p q n rising follows here = elim here.0 [
  | inl same ↦
      let number = ap (λ (c : CommitAt). c.by.number) same in
      let rest = AreIn-rest m ms os o.place o.by.number (mark_before m o (omega (arith, number))) follows.2 here.1 in
      Within-same m o ms os same (within ms os m.place o.place o.by.number rising.1 follows.2 rest)
  | inr later ↦
      let above = rising_above m.place ms o rising.1 later in
      let rest = AreIn-rest m ms os o.place o.by.number (place_before m o above) follows.2 here.1 in
      Within-later m ms (o ∷ os) (within ms (o ∷ os) m.place q n rising.1 follows (later, rest))
]

-- ---- the commits of one actor

abbrev is_of : ℕ → CommitAt → Bool
is_of actor m = nat_eq m.by.actor actor

abbrev AreOf : ℕ → List CommitAt → Type 0
AreOf actor [] = Unit {0}
AreOf actor (m ∷ ms) = (m.by.actor ≡ actor) × AreOf actor ms

rising_if : (b : Bool) (q : ℕ) (m : CommitAt) (ms : List CommitAt) → q < m.place → IsRising m.place ms → IsRising q (cond b (m ∷ ms) ms)
rising_if true q m ms above rising = (above, rising)
rising_if false q m ms above rising = rising_below q m.place ms (omega (arith, above)) rising

rising_filter : (test : CommitAt → Bool) (q : ℕ) (ms : List CommitAt) → IsRising q ms → IsRising q (filter test ms)
rising_filter test q [] rising = tt
rising_filter test q (m ∷ ms) rising = rising_if (test m) q m (filter test ms) rising.0 (rising_filter test m.place ms rising.1)

in_if : (b : Bool) (x m : CommitAt) (ms : List CommitAt) → (x ≡ m → b ≡ true) → (x ≡ m) ⊎ IsIn x ms → IsIn x (cond b (m ∷ ms) ms)
in_if true x m ms passes here = here
in_if false x m ms passes (inl same) = absurd (false-true (passes same))
  where
    false-true : false ≡ true → ⊥
    false-true e = cc
in_if false x m ms passes (inr later) = later

in_filter : (test : CommitAt → Bool) (x : CommitAt) (ms : List CommitAt) → test x ≡ true → IsIn x ms → IsIn x (filter test ms)
in_filter test x [] passes here = absurd here
in_filter test x (m ∷ ms) passes (inl same) = in_if (test m) x m (filter test ms) (λ e. ap test (sym e) ∙ passes) (inl same)
in_filter test x (m ∷ ms) passes (inr later) = in_if (test m) x m (filter test ms) (λ e. ap test (sym e) ∙ passes) (inr (in_filter test x ms passes later))

AreIn-filter : (actor : ℕ) (os ms : List CommitAt) → AreOf actor os → AreIn os ms → AreIn os (filter (is_of actor) ms)
AreIn-filter actor [] ms of here = tt
AreIn-filter actor (o ∷ os) ms of here = (in_filter (is_of actor) o ms (is_so of.0) here.0, AreIn-filter actor os ms of.1 here.1)
  where
    is_so : {a b : ℕ} → a ≡ b → nat_eq a b ≡ true
    is_so e = grind (arith, nat_tests, e)

of_more : (own : Bool) (place actor number : ℕ) (more : List CommitAt) → AreOf actor more → AreOf actor (own_commit own place (record { actor = actor; number = number }) ++ more)
of_more true place actor number more rest = (refl, rest)
of_more false place actor number more rest = rest

of_receipts : (actor : ℕ) (receipts : List Receipt) → AreOf actor (own_commits actor receipts)
of_receipts actor [] = tt
of_receipts actor (r ∷ receipts) = of_more r.own r.place actor r.number (own_commits actor receipts) (of_receipts actor receipts)

length_more : (own : Bool) (place actor number : ℕ) (more : List CommitAt) → length (own_commit own place (record { actor = actor; number = number }) ++ more) ≡ commit_count own + length more
length_more true place actor number more = omega arith
length_more false place actor number more = omega arith

length-own_commits : (actor : ℕ) (receipts : List Receipt) → length (own_commits actor receipts) ≡ owns receipts
length-own_commits actor [] = refl
length-own_commits actor (r ∷ receipts) =
    length_more r.own r.place actor r.number (own_commits actor receipts)
    ∙ ap (λ (n : ℕ). commit_count r.own + n) (length-own_commits actor receipts)
    ∙ sym (sum_by-cons (λ (x : Receipt). commit_count x.own) r receipts)

-- the commits of an actor's receipts are within the actor's commits
own_within : (h : History) (actor : ℕ) (receipts : List Receipt) → AreOwned 0 0 (commits_at h) (own_commits actor receipts) → Within (filter (is_of actor) (commits_at h)) (own_commits actor receipts)
own_within h actor receipts owned = within (filter (is_of actor) (commits_at h)) (own_commits actor receipts) 0 0 0 (rising_filter (is_of actor) 0 (commits_at h) (commits_at-rising h)) owned.follows (AreIn-filter actor (own_commits actor receipts) (commits_at h) (of_receipts actor receipts) owned.in_it)

-- ---- the commits of all actors

-- of the actors from n on
abbrev is_from : ℕ → CommitAt → Bool
is_from n m = nat_le n m.by.actor

length_if : (b : Bool) (m : CommitAt) (ms : List CommitAt) → length (cond b (m ∷ ms) ms) ≡ commit_count b + length ms
length_if true m ms = omega arith
length_if false m ms = omega arith

one_of : (n a : ℕ) → commit_count (nat_eq a n) + commit_count (nat_le (n + 1) a) ≡ commit_count (nat_le n a)
one_of n a = grind (arith, nat_tests)

split_from : (n : ℕ) (ms : List CommitAt) → length (filter (is_of n) ms) + length (filter (is_from (n + 1)) ms) ≡ length (filter (is_from n) ms)
split_from n [] = refl
split_from n (m ∷ ms) = omega (
  arith,
  split_from n ms,
  one_of n m.by.actor,
  length_if (is_of n m) m (filter (is_of n) ms),
  length_if (is_from (n + 1) m) m (filter (is_from (n + 1)) ms),
  length_if (is_from n m) m (filter (is_from n) ms),
)

zero_below : (a : ℕ) → nat_le 0 a ≡ true
zero_below a = grind (arith, nat_tests)

keep_all : (b : Bool) (m : CommitAt) (fs ms : List CommitAt) → b ≡ true → fs ≡ ms → cond b (m ∷ fs) fs ≡ m ∷ ms
keep_all true m fs ms e same = ap (λ (l : List CommitAt). m ∷ l) same
keep_all false m fs ms e same = absurd cc

all_from : (ms : List CommitAt) → filter (is_from 0) ms ≡ ms
all_from [] = refl
all_from (m ∷ ms) = keep_all (is_from 0 m) m (filter (is_from 0) ms) ms (zero_below m.by.actor) (all_from ms)

none_from : (n : ℕ) (ms : List CommitAt) → length (filter (is_from n) ms) ≡ 0 → All (λ (m : CommitAt). m.by.actor < n) ms
none_from n [] e = All-nil (λ (m : CommitAt). m.by.actor < n)
none_from n (m ∷ ms) e =
    let here = length_if (is_from n m) m (filter (is_from n) ms) in
    All-cons (λ (x : CommitAt). x.by.actor < n) m ms (below (nat_le n m.by.actor) refl (omega (arith, here, e))) (none_from n ms (omega (arith, here, e)))
  where
    below : (b : Bool) → nat_le n m.by.actor ≡ b → commit_count b ≡ 0 → m.by.actor < n
    below true is zero = absurd (omega (arith, zero))
    below false is zero = grind (arith, nat_tests, is)

-- from the n-th session on, each one's receipts with `own` are commits of the history
abbrev AllOwned : History → ℕ → List EndedView → Type 0
AllOwned h n [] = Unit {0}
AllOwned h n (s ∷ ss) = AreOwned 0 0 (commits_at h) (own_commits n s.session.receipts) × AllOwned h (n + 1) ss

owned_few : (h : History) (n : ℕ) (ss : List EndedView) → AllOwned h n ss → all_owns ss ≤ length (filter (is_from n) (commits_at h))
owned_few h n [] owned = omega arith
owned_few h n (s ∷ ss) owned = omega (
  arith,
  owned_few h (n + 1) ss owned.1,
  split_from n (commits_at h),
  (own_within h n s.session.receipts owned.0).short,
  length-own_commits n s.session.receipts,
  sum_by-cons (λ (x : EndedView). owns x.session.receipts) s ss,
)

owned_just : (h : History) (n : ℕ) (ss : List EndedView) → AllOwned h n ss → all_owns ss ≡ length (filter (is_from n) (commits_at h)) → AreOwn h n ss × (length (filter (is_from (n + length ss)) (commits_at h)) ≡ 0)
owned_just h n [] owned all = (tt, subst (λ (k : ℕ). length (filter (is_from k) (commits_at h)) ≡ 0) (sym (add-zero n)) (sym all))
owned_just h n (s ∷ ss) owned all =
    let few = owned_few h (n + 1) ss owned.1 in
    let split = split_from n (commits_at h) in
    let one = own_within h n s.session.receipts owned.0 in
    let count = length-own_commits n s.session.receipts in
    let total = sum_by-cons (λ (x : EndedView). owns x.session.receipts) s ss in
    let rest = owned_just h (n + 1) ss owned.1 (omega (arith, few, split, one.short, count, total, all)) in
    let same : n + 1 + length ss ≡ n + length (s ∷ ss) = omega arith in
    ((sym (one.same (omega (arith, few, split, one.short, count, total, all))), rest.0), subst (λ (k : ℕ). length (filter (is_from k) (commits_at h)) ≡ 0) same rest.1)

pub Whole-owned : (workers : ℕ) (h : History) (ss : List EndedView) → AllOwned h 0 ss → all_owns ss ≡ cursor h → All (λ (e : Event). is_caused workers ss e ≡ true) h → Whole workers h ss
Whole-owned workers h ss owned all caused =
    let every = ap length (all_from (commits_at h)) in
    let just = owned_just h 0 ss owned (omega (arith, all, every, length-commits_at h)) in
    record {
      own = just.0;
      caused = caused;
      no_others = none_from (length ss) (commits_at h) (subst (λ (k : ℕ). length (filter (is_from k) (commits_at h)) ≡ 0) (zero_plus (length ss)) just.1);
    }
  where
    zero_plus : (n : ℕ) → 0 + n ≡ n
    zero_plus n = omega arith

-- by whatever script
owned_by : (limits : Limits) (h : History) (n : ℕ) (x : Holding) (generate : Option ℕ) (before : Objects) (s : SessionView) → ByScript (Explained limits h n x) generate before s → AreOwned 0 0 (commits_at h) (own_commits n s.receipts)
owned_by limits h n x None before s explained = Explained-owned limits h n x before.contents s explained
owned_by limits h n x (Some rows) before s scripted = Explained-owned limits h n x _ _ scripted.holds

pub AreServed-owned : (limits : Limits) (h : History) (n : ℕ) (x : Holding) (os : List OpenedView) (ss : List EndedView) → AreServed limits h n x os ss → AllOwned h n ss
AreServed-owned limits h n x [] [] served = tt
AreServed-owned limits h n x [] (s ∷ ss) served = absurd served
AreServed-owned limits h n x (o ∷ os) [] served = absurd served
AreServed-owned limits h n x (o ∷ os) (s ∷ ss) served = (owned_by limits h n x o.generate o.objects s.session served.0.explained, AreServed-owned limits h (n + 1) nothing_held os ss served.1)
