-- Frames that are left, and batches that are dropped, one by one.
use Rattle.std.proofs.Common.{◌≡◌, ◌≤◌, ◌<◌, ℕ, Bool, true, false, not, List, [], ◌∷◌, Option, None, length, take, refl, sym, subst, arith}
use Rattle.std.proofs.lemmas.List.{length-take-le}
use Rattle.kq_catalog_journal.specs.declared.batch.Batch.{Batch}
use Rattle.kq_catalog_journal.specs.declared.batch.Failure.{Failure}
use Rattle.kq_store_rows.specs.declared.cause.Cause.{Cause}
use Rattle.kq_catalog_journal.specs.declared.policy.Due.{Due}
use Rattle.kq_policy_cascade.specs.declared.stack.Frame.{Frame}
use Rattle.kq_policy_cascade.specs.Steps.{State, batch_at, due_at, advanced, left, noted, ArePiled, IsLaid, Settles, none_left, resumed, FallsTo, Falls, notes, drops, drops_all}

pub loose : (b : Bool) → not b ≡ true → b ≡ false
loose true e = cc
loose false e = refl

pub tied : (b : Bool) → not b ≡ false → b ≡ true
tied true e = refl
tied false e = cc

-- ---- a query that failed

pub Falls-noted : (dues : List Due) (target : ℕ) (cause : Cause) (s t : State) → not (due_at dues s.top.at).transactional ≡ true → t ≡ noted s (due_at dues s.top.at) target cause → FallsTo dues target cause s true t
Falls-noted dues target cause s t free is = subst (λ (u : State). FallsTo dues target cause s true u) (sym is) (notes (loose (due_at dues s.top.at).transactional free))

pub Falls-dropped : (dues : List Due) (target : ℕ) (cause : Cause) (s t : State) (g : Frame) (frames : List Frame) (bs : List Batch) (fs : List Failure) (left_over : Bool) → not (due_at dues s.top.at).transactional ≡ false
    → s.below ≡ g ∷ frames → bs ≡ take s.top.own s.batches → fs ≡ take s.top.noted s.failures → Falls dues target cause g frames bs fs left_over t → FallsTo dues target cause s left_over t
Falls-dropped dues target cause s t g frames bs fs left_over bound below batches failures falls =
    let first = subst (λ (xs : List Batch). Falls dues target cause g frames xs fs left_over t) batches falls in
    let both = subst (λ (ys : List Failure). Falls dues target cause g frames (take s.top.own s.batches) ys left_over t) failures first in
    subst (λ (zs : List Frame). Falls dues target cause s.top zs s.batches s.failures left_over t) (sym below) (drops (tied (due_at dues s.top.at).transactional bound) both)

pub Falls-dropped_all : (dues : List Due) (target : ℕ) (cause : Cause) (s t : State) → not (due_at dues s.top.at).transactional ≡ false → s.below ≡ [] → FallsTo dues target cause s false t
Falls-dropped_all dues target cause s t bound below =
    subst (λ (zs : List Frame). Falls dues target cause s.top zs s.batches s.failures false t) (sym below) (drops_all (tied (due_at dues s.top.at).transactional bound))

pub IsLaid-dropped : (dues : List Due) (s : State) (g : Frame) (frames : List Frame) (bs : List Batch) (fs : List Failure) → IsLaid dues s → s.below ≡ g ∷ frames → bs ≡ take s.top.own s.batches → fs ≡ take s.top.noted s.failures
    → IsLaid dues (record { top = g; below = frames; batches = bs; failures = fs }) × (g.at < length dues)
IsLaid-dropped dues s g frames bs fs laid below batches failures =
    let piled = subst (λ (zs : List Frame). ArePiled dues zs s.top.own s.top.noted) below laid.below in
    let on = piled.0 in
    let lower = on.own in
    let fewer = on.noted in
    let own = laid.own in
    let count = length-take-le s.top.own s.batches (omega (arith, own)) in
    let number = length-take-le s.top.noted s.failures laid.noted in (
      record {
        own = subst (λ (xs : List Batch). g.own < length xs) (sym batches) (omega (arith, count, lower));
        noted = subst (λ (ys : List Failure). g.noted ≤ length ys) (sym failures) (omega (arith, number, fewer));
        below = piled.1;
      },
      on.within,
    )

-- ---- batches whose entries all ran

pub Settles-none : (dues : List Due) (bs : List Batch) (f : Frame) (frames : List Frame) → left dues (batch_at bs f.own).table f.at ≡ [] → frames ≡ [] → Settles dues bs f frames None f frames
Settles-none dues bs f frames none below = subst (λ (zs : List Frame). Settles dues bs f zs None f zs) (sym below) (none_left none)

pub Settles-resumed : (dues : List Due) (bs : List Batch) (f g : Frame) (frames more : List Frame) (next : Option Due) (top : Frame) (rest : List Frame) → left dues (batch_at bs f.own).table f.at ≡ [] → frames ≡ g ∷ more
    → Settles dues bs (advanced g) more next top rest → Settles dues bs f frames next top rest
Settles-resumed dues bs f g frames more next top rest none below settles = subst (λ (zs : List Frame). Settles dues bs f zs next top rest) (sym below) (resumed none settles)

pub IsLaid-resumed : (dues : List Due) (s : State) (g : Frame) (frames : List Frame) → IsLaid dues s → s.below ≡ g ∷ frames → IsLaid dues (record s { top = advanced g; below = frames })
IsLaid-resumed dues s g frames laid below =
    let piled = subst (λ (zs : List Frame). ArePiled dues zs s.top.own s.top.noted) below laid.below in
    let on = piled.0 in
    let lower = on.own in
    let fewer = on.noted in
    let own = laid.own in
    let few = laid.noted in
    record { own = omega (arith, lower, own); noted = omega (arith, fewer, few); below = piled.1 }
