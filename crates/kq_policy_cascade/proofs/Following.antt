-- A cascade in progress, step by step.
use Rattle.std.proofs.Common.{◌≡◌, ◌≤◌, ◌<◌, ◌+◌, ℕ, Bool, true, false, List, [], ◌∷◌, ◌++◌, All, Option, Some, None, length, take, drop, refl, ap, sym, ◌∙◌, subst, append_assoc, append-nil, arith, Ok}
use Rattle.std.proofs.lemmas.List.{take-append-drop, drop-append-le, take-append-le, take-take, take_at, drop_at, take_all, drop_all, get_or-take, get_or_push, length-take-le, length_push}
use Rattle.std.proofs.lemmas.List.Elements.{All-take}
use Rattle.kq_catalog_journal.specs.declared.batch.Batch.{Batch}
use Rattle.kq_catalog_journal.specs.declared.batch.Failure.{Failure}
use Rattle.kq_store_rows.specs.declared.cause.Cause.{Cause}
use Rattle.kq_catalog_journal.specs.declared.policy.Due.{Due}
use Rattle.kq_policy_cascade.specs.declared.stack.Frame.{Frame}
use Rattle.kq_catalog_journal.specs.Derived.{Row, Queries, Cascade, Made, Failed, TooMany, Comes, first, Follows, no_more, too_many, ended, goes_on, Leaves, gives, after, ends, batches_of, failures_of, next_batch}
use Rattle.kq_catalog_journal.specs.Force.{Rules, in_force}
use Rattle.kq_policy_cascade.specs.Steps.{State, batch_at, no_batch, due_at, advanced, left, IsOn, ArePiled, IsLaid, Settles, found, none_left, resumed, Falls, notes, drops, drops_all, begun, failure_at}
use Rattle.kq_catalog_journal.specs.Typed.{IsTyped}

-- what a cascade is run with: the limit, the rules, the queries, the enabled entries, and the ingestion's own batch
pub record Course : Type 1 where
  pub limit : ℕ
  pub rules : Rules
  pub queries : Queries
  pub dues : List Due
  pub own : Batch

-- the enabled entries of a source are those in force for it
abbrev pub Agrees : Course → Type 0
Agrees w = (source : ℕ) → in_force w.rules.policies source ≡ left w.dues source 0

abbrev pub ComesTo : Course → Batch → ℕ → Cascade → ℕ → Type 0
ComesTo w = Comes w.limit w.rules w.queries

abbrev pub FollowsTo : Course → Batch → List Due → ℕ → Cascade → ℕ → Type 0
FollowsTo w = Follows w.limit w.rules w.queries

-- the entries that are still to run for the batch of a frame
abbrev pub rest_of : Course → List Batch → Frame → List Due
rest_of w bs f = left w.dues (batch_at bs f.own).table f.at

-- what the whole comes to, where the entry that runs for the first of these frames came to x
abbrev pub Then : Course → List Frame → List Batch → List Failure → Cascade → ℕ → Type 0
Then w [] bs fs x m = ComesTo w w.own 0 x m
Then w (g ∷ frames) bs fs x m =
    (ends (due_at w.dues g.at) x ≡ true → Then w frames (take g.own bs) (take g.noted fs) x m)
    × ((rest : Cascade) (k : ℕ) → ends (due_at w.dues g.at) x ≡ false → FollowsTo w (batch_at bs g.own) (rest_of w bs (advanced g)) m rest k
    → Then w frames (take g.own bs) (take g.noted fs) (after (drop g.own bs ++ batches_of x) (drop g.noted fs ++ failures_of (batch_at bs g.own) (due_at w.dues g.at) x) rest) k)

-- after n queries: whatever the entries come to that are left for the batch whose entries run, it completes the whole
abbrev pub Rests : Course → Frame → List Frame → List Batch → List Failure → ℕ → Type 0
Rests w f frames bs fs n = (o : Cascade) (m : ℕ) → FollowsTo w (batch_at bs f.own) (rest_of w bs f) n o m → Then w frames (take f.own bs) (take f.noted fs) (after (drop f.own bs) (drop f.noted fs) o) m

after-after : (bs cs : List Batch) (fs gs : List Failure) (o : Cascade) → after bs fs (after cs gs o) ≡ after (bs ++ cs) (fs ++ gs) o
after-after bs cs fs gs (Made batches failures) = ap (λ (xs : List Batch). Made xs (fs ++ (gs ++ failures))) (sym (append_assoc bs cs batches)) ∙ ap (Made (bs ++ cs ++ batches)) (sym (append_assoc fs gs failures))
after-after bs cs fs gs (Failed target cause) = refl
after-after bs cs fs gs TooMany = refl

-- what ends a cascade comes of it, whatever was made before
after-end : (d : Due) (bs : List Batch) (fs : List Failure) (o : Cascade) → ends d o ≡ true → after bs fs o ≡ o
after-end d bs fs (Made batches failures) e = cc
after-end d bs fs (Failed target cause) e = refl
after-end d bs fs TooMany e = refl

drop_between : {X : Type 0} (i j : ℕ) (xs : List X) → i ≤ j → j ≤ length xs → drop i (take j xs) ++ (drop j xs ++ []) ≡ drop i xs
drop_between i j xs below within =
    let n = length-take-le j xs within in
    ap (λ ys. drop i (take j xs) ++ ys) (append-nil (drop j xs)) ∙ sym (drop-append-le i (take j xs) (drop j xs) (omega (arith, n, below))) ∙ ap (drop i) (take-append-drop j xs)

-- ---- one step

-- the ingestion's own batch
pub Rests-begun : (w : Course) → Agrees w → Rests w (begun w.own).top [] (begun w.own).batches [] 0
Rests-begun w agrees o m follows = first (subst (λ (ds : List Due). FollowsTo w w.own ds 0 o m) (sym (agrees w.own.table)) follows)

-- an entry that runs came to x
pub Then-left : (w : Course) (f : Frame) (frames : List Frame) (bs : List Batch) (fs : List Failure) (n m : ℕ) (x : Cascade) → n < w.limit
    → rest_of w bs f ≡ due_at w.dues f.at ∷ rest_of w bs (advanced f) → Leaves w.limit w.rules w.queries (batch_at bs f.own) (due_at w.dues f.at) (n + 1) x m
    → Rests w f frames bs fs n → Then w (f ∷ frames) bs fs x m
Then-left w f frames bs fs n m x room is leaves rests =
    let b = batch_at bs f.own in
    let d = due_at w.dues f.at in (
      (λ e. subst (λ (y : Cascade). Then w frames (take f.own bs) (take f.noted fs) y m) (after-end d (drop f.own bs) (drop f.noted fs) x e)
          (rests x m (subst (λ (ds : List Due). FollowsTo w b ds n x m) (sym is) (ended room leaves e)))),
      (λ rest k e follows. subst (λ (y : Cascade). Then w frames (take f.own bs) (take f.noted fs) y k) (after-after (drop f.own bs) (batches_of x) (drop f.noted fs) (failures_of b d x) rest)
          (rests (after (batches_of x) (failures_of b d x) rest) k (subst (λ (ds : List Due). FollowsTo w b ds n (after (batches_of x) (failures_of b d x) rest) k) (sym is) (goes_on room leaves e follows)))),
    )

-- its query gave the next batch
pub Rests-opened : (w : Course) (f : Frame) (frames : List Frame) (bs : List Batch) (fs : List Failure) (n : ℕ) (given : List Row) → Agrees w → n < w.limit
    → rest_of w bs f ≡ due_at w.dues f.at ∷ rest_of w bs (advanced f) → w.queries (due_at w.dues f.at) (batch_at bs f.own).rows (Ok given) → length given ≤ 1048576
    → Rests w f frames bs fs n
    → Rests w (record { own = length bs; noted = length fs; at = 0 }) (f ∷ frames) (bs ++ next_batch w.rules.columns (batch_at bs f.own) (due_at w.dues f.at) given ∷ []) fs (n + 1)
Rests-opened w f frames bs fs n given agrees room is gave few rests o m follows =
    let d = due_at w.dues f.at in
    let b = next_batch w.rules.columns (batch_at bs f.own) d given in
    let here : batch_at (bs ++ b ∷ []) (length bs) ≡ b = get_or_push bs b no_batch (length bs) refl in
    let own : FollowsTo w b (left w.dues b.table 0) (n + 1) o m = subst (λ (x : Batch). FollowsTo w x (left w.dues x.table 0) (n + 1) o m) here follows in
    let comes : ComesTo w b (n + 1) (after (b ∷ []) [] o) m = first (subst (λ (ds : List Due). FollowsTo w b ds (n + 1) o m) (sym (agrees b.table)) own) in
    let whole : Then w (f ∷ frames) bs fs (after (b ∷ []) [] o) m = Then-left w f frames bs fs n m (after (b ∷ []) [] o) room is (gives given gave few comes) rests in
    let batches : Then w (f ∷ frames) (take (length bs) (bs ++ b ∷ [])) fs (after (drop (length bs) (bs ++ b ∷ [])) [] o) m =
    subst (λ (xs : List Batch). Then w (f ∷ frames) xs fs (after (drop (length bs) (bs ++ b ∷ [])) [] o) m) (sym (take_at bs (b ∷ []) (length bs) refl))
    (subst (λ (xs : List Batch). Then w (f ∷ frames) bs fs (after xs [] o) m) (sym (drop_at bs (b ∷ []) (length bs) refl)) whole) in
    subst (λ (xs : List Failure). Then w (f ∷ frames) (take (length bs) (bs ++ b ∷ [])) xs (after (drop (length bs) (bs ++ b ∷ [])) (drop (length fs) fs) o) m) (sym (take_all (length fs) fs (omega arith)))
    (subst (λ (xs : List Failure). Then w (f ∷ frames) (take (length bs) (bs ++ b ∷ [])) fs (after (drop (length bs) (bs ++ b ∷ [])) xs o) m) (sym (drop_all (length fs) fs (omega arith))) batches)

Then-too_many : (w : Course) (frames : List Frame) (bs : List Batch) (fs : List Failure) (m : ℕ) → Then w frames bs fs TooMany m → ComesTo w w.own 0 TooMany m
Then-too_many w [] bs fs m t = t
Then-too_many w (g ∷ frames) bs fs m t = Then-too_many w frames (take g.own bs) (take g.noted fs) m (t.0 refl)

-- a query too many
pub Rests-too_many : (w : Course) (f : Frame) (frames : List Frame) (bs : List Batch) (fs : List Failure) (n : ℕ) → w.limit ≤ n
    → rest_of w bs f ≡ due_at w.dues f.at ∷ rest_of w bs (advanced f) → Rests w f frames bs fs n → ComesTo w w.own 0 TooMany n
Rests-too_many w f frames bs fs n full is rests =
    Then-too_many w frames (take f.own bs) (take f.noted fs) n (rests TooMany n (subst (λ (ds : List Due). FollowsTo w (batch_at bs f.own) ds n TooMany n) (sym is) (too_many full)))

-- ---- batches whose entries all ran

-- what is known once an entry is found that runs next
pub record Found (w : Course) (top : Frame) (frames : List Frame) (bs : List Batch) (fs : List Failure) (n : ℕ) (d : Due) : Type 0 where
  pub own : top.own < length bs
  pub noted : top.noted ≤ length fs
  pub below : ArePiled w.dues frames top.own top.noted
  pub within : top.at < length w.dues
  pub due : d ≡ due_at w.dues top.at
  pub source : d.source ≡ (batch_at bs top.own).table
  pub is : rest_of w bs top ≡ due_at w.dues top.at ∷ rest_of w bs (advanced top)
  pub rests : Rests w top frames bs fs n

abbrev pub Settled : Course → Frame → List Frame → List Batch → List Failure → ℕ → Option Due → Type 0
Settled w top frames bs fs n None = ComesTo w w.own 0 (Made bs fs) n
Settled w top frames bs fs n (Some d) = Found w top frames bs fs n d

-- where none is left for a batch
Rests-none : (w : Course) (f : Frame) (frames : List Frame) (bs : List Batch) (fs : List Failure) (n : ℕ) → rest_of w bs f ≡ [] → Rests w f frames bs fs n
    → Then w frames (take f.own bs) (take f.noted fs) (Made (drop f.own bs ++ []) (drop f.noted fs ++ [])) n
Rests-none w f frames bs fs n none rests = rests (Made [] []) n (subst (λ (ds : List Due). FollowsTo w (batch_at bs f.own) ds n (Made [] []) n) (sym none) no_more)

-- the whole is made, or the batch below goes on
Rests-resumed : (w : Course) (f g : Frame) (frames : List Frame) (bs : List Batch) (fs : List Failure) (n : ℕ) → rest_of w bs f ≡ [] → f.own < length bs → f.noted ≤ length fs → IsOn w.dues g f.own f.noted
    → Rests w f (g ∷ frames) bs fs n → Rests w (advanced g) frames bs fs n
Rests-resumed w f g frames bs fs n none own noted on rests o m follows =
    let x = Made (drop f.own bs ++ []) (drop f.noted fs ++ []) in
    let t : Then w (g ∷ frames) (take f.own bs) (take f.noted fs) x n = Rests-none w f (g ∷ frames) bs fs n none rests in
    let same : batch_at (take f.own bs) g.own ≡ batch_at bs g.own = get_or-take f.own bs g.own no_batch on.own in
    let there : FollowsTo w (batch_at (take f.own bs) g.own) (rest_of w (take f.own bs) (advanced g)) n o m =
    subst (λ (b : Batch). FollowsTo w b (left w.dues b.table (g.at + 1)) n o m) (sym same) follows in
    let lower = on.own in
    let whole = t.1 o m refl there in
    subst (λ (xs : List Batch). Then w frames xs (take g.noted fs) (after (drop g.own bs) (drop g.noted fs) o) m) (take-take g.own f.own bs (omega (arith, lower)))
    (subst (λ (ys : List Failure). Then w frames (take g.own (take f.own bs)) ys (after (drop g.own bs) (drop g.noted fs) o) m) (take-take g.noted f.noted fs on.noted)
    (subst (λ (xs : List Batch). Then w frames (take g.own (take f.own bs)) (take g.noted (take f.noted fs)) (after xs (drop g.noted fs) o) m) (drop_between g.own f.own bs (omega (arith, lower)) (omega (arith, own)))
    (subst (λ (ys : List Failure). Then w frames (take g.own (take f.own bs)) (take g.noted (take f.noted fs)) (after (drop g.own (take f.own bs) ++ (drop f.own bs ++ [])) ys o) m) (drop_between g.noted f.noted fs on.noted noted) whole)))

pub Settles-settled : (w : Course) (bs : List Batch) (fs : List Failure) (n : ℕ) (f : Frame) (frames : List Frame) (next : Option Due) (top : Frame) (rest : List Frame)
    → f.own < length bs → f.noted ≤ length fs → ArePiled w.dues frames f.own f.noted → Rests w f frames bs fs n → Settles w.dues bs f frames next top rest → Settled w top rest bs fs n next
Settles-settled w bs fs n f frames _ _ _ own noted below rests (found i at) = record {
  own = own;
  noted = noted;
  below = below;
  within = at.within;
  due = refl;
  source = at.runs;
  is = at.is;
  rests = λ o m follows. rests o m (subst (λ (ds : List Due). FollowsTo w (batch_at bs f.own) ds n o m) (sym at.same) follows);
}
Settles-settled w bs fs n f _ _ _ _ own noted below rests (none_left none) =
    let made = Rests-none w f [] bs fs n none rests in
    let batches : drop f.own bs ++ [] ≡ bs = append-nil (drop f.own bs) ∙ ap (λ (i : ℕ). drop i bs) below.0 in
    let failures : drop f.noted fs ++ [] ≡ fs = append-nil (drop f.noted fs) ∙ ap (λ (i : ℕ). drop i fs) below.1 in
    subst (λ (xs : List Batch). ComesTo w w.own 0 (Made xs fs) n) batches (subst (λ (ys : List Failure). ComesTo w w.own 0 (Made (drop f.own bs ++ []) ys) n) failures made)
Settles-settled w bs fs n f _ next top rest own noted below rests (resumed {g = g} {below = frames} none more) =
    let on = below.0 in
    let lower = on.own in
    let fewer = on.noted in
    Settles-settled w bs fs n (advanced g) frames next top rest (omega (arith, lower, own)) (omega (arith, fewer, noted)) below.1 (Rests-resumed w f g frames bs fs n none own noted on rests) more

-- ---- a query that fails

-- where an entry is left, the cascade goes on
pub record GoesOn (w : Course) (s : State) (m : ℕ) : Type 0 where
  pub laid : IsLaid w.dues s
  pub typed : All (IsTyped w.rules.columns) s.batches
  pub rests : Rests w s.top s.below s.batches s.failures m

abbrev pub Fallen : Course → ℕ → Cause → State → ℕ → Bool → Type 0
Fallen w target cause s m true = GoesOn w s m
Fallen w target cause s m false = ComesTo w w.own 0 (Failed target cause) m

-- the failure is noted
Rests-noted : (w : Course) (target : ℕ) (cause : Cause) (f : Frame) (frames : List Frame) (bs : List Batch) (fs : List Failure) (m : ℕ) → f.noted ≤ length fs → (due_at w.dues f.at).transactional ≡ false
    → Then w (f ∷ frames) bs fs (Failed target cause) m → Rests w (advanced f) frames bs (fs ++ failure_at w.dues target cause f bs ∷ []) m
Rests-noted w target cause f frames bs fs m noted loose t o k follows =
    let x = failure_at w.dues target cause f bs in
    let whole = t.1 o k loose follows in
    subst (λ (ys : List Failure). Then w frames (take f.own bs) ys (after (drop f.own bs) (drop f.noted (fs ++ x ∷ [])) o) k) (sym (take-append-le f.noted fs (x ∷ []) noted))
    (subst (λ (ys : List Failure). Then w frames (take f.own bs) (take f.noted fs) (after (drop f.own bs) ys o) k) (sym (drop-append-le f.noted fs (x ∷ []) noted))
    (subst (λ (xs : List Batch). Then w frames (take f.own bs) (take f.noted fs) (after xs (drop f.noted fs ++ x ∷ []) o) k) (append-nil (drop f.own bs)) whole))

pub Falls-fallen : (w : Course) (target : ℕ) (cause : Cause) (f : Frame) (frames : List Frame) (bs : List Batch) (fs : List Failure) (m : ℕ) (noted : Bool) (s : State)
    → f.own < length bs → f.noted ≤ length fs → ArePiled w.dues frames f.own f.noted → All (IsTyped w.rules.columns) bs → Then w (f ∷ frames) bs fs (Failed target cause) m
    → Falls w.dues target cause f frames bs fs noted s → Fallen w target cause s m noted
Falls-fallen w target cause f frames bs fs m _ _ own few below typed t (notes loose) = record {
  laid = record { own = own; noted = let n = length_push fs (failure_at w.dues target cause f bs) in omega (arith, n, few); below = below };
  typed = typed;
  rests = Rests-noted w target cause f frames bs fs m few loose t;
}
Falls-fallen w target cause f _ bs fs m noted s own few below typed t (drops {g = g} {below = frames} tied more) =
    let on = below.0 in
    let lower = on.own in
    let fewer = on.noted in
    let batches = length-take-le f.own bs (omega (arith, own)) in
    let failures = length-take-le f.noted fs few in
    Falls-fallen w target cause g frames (take f.own bs) (take f.noted fs) m noted s (omega (arith, lower, batches)) (omega (arith, fewer, failures)) below.1 (All-take (IsTyped w.rules.columns) f.own bs typed) (t.0 tied) more
Falls-fallen w target cause f _ bs fs m _ s own few below typed t (drops_all tied) = t.0 tied
