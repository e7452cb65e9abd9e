-- Steps of stages of their own, each behind the steps whose rows it takes.
use Rattle.std.proofs.Common.{◌≡◌, ◌⊎◌, inl, inr, ℕ, zero, suc, ◌+◌, ◌<◌, ◌≤◌, List, [], ◌∷◌, ◌++◌, length, length-append, All, Some, refl, sym, ap, ◌∙◌, subst, arith, append_assoc, append-nil}
use Rattle.std.specs.Prelude.{slice_get}
use Rattle.std.proofs.lemmas.List.Elements.{All-nil, All-cons, All-head, All-tail, All-append, All-push, All-pop, All-weaker}
use Rattle.kq_bind_query.specs.kq_bind_operators.Flows.{Progressing, Flowing, added, following, next_stage, again}
use Rattle.kq_bind_query.specs.kq_bind_operators.Scopes.{Scoping, Tabling}
use Rattle.kq_plan.specs.Plans.{Doing, Stepping}
use Rattle.kq_value.specs.declared.schema.Field.{Field}
use Rattle.kq_bind_query.specs.Staged.{Takes, IsStageBelow, IsStageAbove, IsPlaced, ArePlaced, HaveOwnStages}

-- ---- steps that are placed

pub placed_behind : (before ss : List Stepping) (s : Stepping) → ArePlaced before ss → IsPlaced (before ++ ss) s → ArePlaced before (ss ++ s ∷ [])
placed_behind before [] s h one = (subst (λ b. IsPlaced b s) (append-nil before) one, tt)
placed_behind before (t ∷ ss) s h one =
    (h.0, placed_behind (before ++ t ∷ []) ss s h.1 (subst (λ b. IsPlaced b s) (sym (append_assoc before (t ∷ []) ss)) one))

-- ---- what holds on the way

-- a step of a stage above the one and up to the other
abbrev pub IsWithin : ℕ → ℕ → Stepping → Type 0
IsWithin low high s = (low < s.stage) × (s.stage ≤ high)

abbrev pub IsUpTo : ℕ → Stepping → Type 0
IsUpTo high s = s.stage ≤ high

-- from these steps and so many stages on
pub record Grown (base : List Stepping) (low : ℕ) (p : Progressing) : Type 0 where
  pub new : List Stepping
  pub grown : p.steps ≡ base ++ new
  pub within : All (IsWithin low p.stages) new
  pub more : low ≤ p.stages
  pub placed : ArePlaced [] p.steps

abbrev pub IsTableAt : ℕ → Tabling → Type 0
IsTableAt n t = t.input < n

-- what holds before a pipe
pub record Begins (s : Scoping) (p : Progressing) : Type 0 where
  pub below : All (IsUpTo p.stages) p.steps
  pub placed : ArePlaced [] p.steps
  pub tables : All (IsTableAt (length p.steps)) s.tables

-- what holds behind it, and behind so many stages: its rows are of the last step, or none is new
pub record Walks (passed : ℕ) (p : Progressing) (v : Flowing) : Type 0 where
  pub grown : Grown p.steps p.stages v.progress
  pub counted : v.progress.stages ≡ p.stages + passed
  pub rows : v.input < length v.progress.steps
  pub last : (v.progress.steps ≡ p.steps) ⊎ (suc v.input ≡ length v.progress.steps)

pub nothing_grown : (base : List Stepping) (low : ℕ) (p : Progressing) → p.steps ≡ base → low ≤ p.stages → ArePlaced [] p.steps → Grown base low p
nothing_grown base low p same more placed =
    record { new = []; grown = same ∙ sym (append-nil base); within = All-nil (IsWithin low p.stages); more = more; placed = placed }

all_below : (base : List Stepping) (low : ℕ) (p : Progressing) (g : Grown base low p) → All (IsUpTo low) base → All (IsUpTo p.stages) p.steps
all_below base low p g h =
    let old = All-weaker (IsUpTo low) (IsUpTo p.stages) (λ s le. omega (arith, le, g.more)) base h in
    let new = All-weaker (IsWithin low p.stages) (IsUpTo p.stages) (λ s is. is.1) g.new g.within in
    subst (All (IsUpTo p.stages)) (sym g.grown) (All-append (IsUpTo p.stages) base g.new old new)

pub grown_length : (base : List Stepping) (low : ℕ) (p : Progressing) (g : Grown base low p) → length p.steps ≡ length base + length g.new
grown_length base low p g = ap length g.grown ∙ length-append base g.new

pub begins_further : (s : Scoping) (p q : Progressing) → Begins s p → Grown p.steps p.stages q → Begins s q
begins_further s p q h g =
    let long = grown_length p.steps p.stages q g in
    record {
      below = all_below p.steps p.stages q g h.below;
      placed = g.placed;
      tables = All-weaker (IsTableAt (length p.steps)) (IsTableAt (length q.steps)) (λ t lt. omega (arith, lt, long)) s.tables h.tables;
    }

pub next_begins : (s : Scoping) (p : Progressing) → Begins s p → Begins s (next_stage p)
next_begins s p h =
    record { below = All-weaker (IsUpTo p.stages) (IsUpTo (p.stages + 1)) (λ t le. omega (arith, le)) p.steps h.below; placed = h.placed; tables = h.tables }

-- steps that are new before and steps that are new behind
pub grown_further : (base : List Stepping) (low : ℕ) (p q : Progressing) → Grown base low p → Grown p.steps p.stages q → Grown base low q
grown_further base low p q g h =
    let first = All-weaker (IsWithin low p.stages) (IsWithin low q.stages) (λ s is. (is.0, omega (arith, is.1, h.more))) g.new g.within in
    let second = All-weaker (IsWithin p.stages q.stages) (IsWithin low q.stages) (λ s is. (omega (arith, is.0, g.more), is.1)) h.new h.within in
    record {
      new = g.new ++ h.new;
      grown = h.grown ∙ ap (λ (b : List Stepping). b ++ h.new) g.grown ∙ append_assoc base g.new h.new;
      within = All-append (IsWithin low q.stages) g.new h.new first second;
      more = omega (arith, g.more, h.more);
      placed = h.placed;
    }

-- a step whose stage stands before those of its own steps
pub step_grown : (base : List Stepping) (low : ℕ) (w r : Progressing) (d : Doing) (cs : List Field) → All (IsUpTo low) base → (f : Grown base low w)
    → (g : Grown w.steps (w.stages + 1) r) → Takes (length w.steps) (length g.new) d → Grown base low (added r (w.stages + 1) d cs).progress
step_grown base low w r d cs h f g takes =
    let one : Stepping = record { stage = w.stages + 1; doing = d; columns = cs } in
    let below = all_below base low w f h in
    let place : IsPlaced r.steps one = record {
      earlier = w.steps;
      own = g.new;
      parts = g.grown;
      lower = All-weaker (IsUpTo w.stages) (IsStageBelow (w.stages + 1)) (λ s le. omega (arith, le)) w.steps below;
      higher = All-weaker (IsWithin (w.stages + 1) r.stages) (IsStageAbove (w.stages + 1)) (λ s is. is.0) g.new g.within;
      takes = takes;
    } in
    let first = All-weaker (IsWithin low w.stages) (IsWithin low r.stages) (λ s is. (is.0, omega (arith, is.1, g.more))) f.new f.within in
    let second = All-weaker (IsWithin (w.stages + 1) r.stages) (IsWithin low r.stages) (λ s is. (omega (arith, is.0, f.more), is.1)) g.new g.within in
    let both = All-append (IsWithin low r.stages) f.new g.new first second in
    record {
      new = (f.new ++ g.new) ++ one ∷ [];
      grown = ap (λ (b : List Stepping). b ++ one ∷ []) (g.grown ∙ ap (λ (b : List Stepping). b ++ g.new) f.grown ∙ append_assoc base f.new g.new) ∙ append_assoc base (f.new ++ g.new) (one ∷ []);
      within = All-push (IsWithin low r.stages) (f.new ++ g.new) one both (omega (arith, f.more), g.more);
      more = omega (arith, f.more, g.more);
      placed = placed_behind [] r.steps one g.placed place;
    }

last_there : (ss : List Stepping) (s : Stepping) → suc (length ss) ≡ length (ss ++ s ∷ [])
last_there ss s = omega (arith, length-append ss (s ∷ []))

-- the step goes on
pub step_walks : (passed : ℕ) (s : Scoping) (p w r : Progressing) (d : Doing) (cs : List Field) → Begins s p → Grown p.steps p.stages w
    → (g : Grown w.steps (w.stages + 1) r) → Takes (length w.steps) (length g.new) d → r.stages ≡ p.stages + passed → Walks passed p (added r (w.stages + 1) d cs)
step_walks passed s p w r d cs h f g takes counted =
    let one : Stepping = record { stage = w.stages + 1; doing = d; columns = cs } in
    let last = last_there r.steps one in
    record { grown = step_grown p.steps p.stages w r d cs h.below f g takes; counted = counted; rows = omega (arith, last); last = inr last }

-- a step that has no steps of its own
pub after_walks : (passed : ℕ) (s : Scoping) (p w : Progressing) (d : Doing) (cs : List Field) → Begins s p → Grown p.steps p.stages w
    → Takes (length w.steps) 0 d → w.stages ≡ p.stages + passed → Walks (passed + 1) p (following w d cs)
unfolding nothing_grown
after_walks passed s p w d cs h f takes counted =
    step_walks (passed + 1) s p w (next_stage w) d cs h f (nothing_grown w.steps (w.stages + 1) (next_stage w) refl (omega arith) f.placed) takes
    (omega (arith, counted))

pub begun : (s : Scoping) (p : Progressing) → Begins s p → Grown p.steps p.stages p
begun s p h = nothing_grown p.steps p.stages p refl (omega arith) h.placed

pub following_walks : (s : Scoping) (p : Progressing) (d : Doing) (cs : List Field) → Begins s p → Takes (length p.steps) 0 d → Walks 1 p (following p d cs)
following_walks s p d cs h takes = after_walks 0 s p p d cs h (begun s p h) takes (omega arith)

pub again_walks : (s : Scoping) (p : Progressing) (i : ℕ) → Begins s p → i < length p.steps → Walks 1 p (again p i)
again_walks s p i h lt =
    record { grown = nothing_grown p.steps p.stages (next_stage p) refl (omega arith) h.placed; counted = refl; rows = lt; last = inl refl }

pub recounted : (m n : ℕ) (p : Progressing) (v : Flowing) → m ≡ n → Walks m p v → Walks n p v
recounted m n p v same h = subst (λ k. Walks k p v) same h

-- the right rows of a join
pub right_takes : (passed : ℕ) (w : Progressing) (r : Flowing) (i : ℕ) (walks : Walks passed (next_stage w) r) → i < length w.steps
    → (i < length w.steps) × (r.input < length w.steps + length walks.grown.new) × ((length walks.grown.new ≡ 0) ⊎ (suc r.input ≡ length w.steps + length walks.grown.new))
right_takes passed w r i walks lt =
    let long = grown_length w.steps (w.stages + 1) r.progress walks.grown in
    (lt, omega (arith, walks.rows, long), by long walks.last)
  where
    by : length r.progress.steps ≡ length w.steps + length walks.grown.new → (r.progress.steps ≡ w.steps) ⊎ (suc r.input ≡ length r.progress.steps)
        → (length walks.grown.new ≡ 0) ⊎ (suc r.input ≡ length w.steps + length walks.grown.new)
    by long (inl same) = let e : length r.progress.steps ≡ length w.steps = ap length same in inl (omega (arith, e, long))
    by long (inr last) = inr (omega (arith, last, long))

-- ---- stages of one's own

abbrev OtherStage : ℕ → Stepping → Type 0
OtherStage n s = (s.stage ≡ n) → ⊥

others : (before : List Stepping) (s : Stepping) → IsPlaced before s → All (OtherStage s.stage) before
others before s h =
    let first = All-weaker (IsStageBelow s.stage) (OtherStage s.stage) (λ t lt e. absurd (omega (arith, lt, e))) h.earlier h.lower in
    let second = All-weaker (IsStageAbove s.stage) (OtherStage s.stage) (λ t lt e. absurd (omega (arith, lt, e))) h.own h.higher in
    subst (All (OtherStage s.stage)) (sym h.parts) (All-append (OtherStage s.stage) h.earlier h.own first second)

at_of : (P : Stepping → Type 0) (ss : List Stepping) (i : ℕ) (s : Stepping) → All P ss → slice_get ss i ≡ Some s → P s
at_of P [] i s h e = absurd (cc)
at_of P (t ∷ ss) zero s h e = let is : t ≡ s = cc in subst P is (All-head P t ss h)
at_of P (t ∷ ss) (suc i) s h e = at_of P ss i s (All-tail P t ss h) e

-- a step among those that follow has none of the stages before
abbrev NotOf : List Stepping → Stepping → Type 0
NotOf before s = All (OtherStage s.stage) before

rest_other : (before ss : List Stepping) → ArePlaced before ss → All (NotOf before) ss
rest_other before [] h = All-nil (NotOf before)
rest_other before (s ∷ ss) h =
    let more = rest_other (before ++ s ∷ []) ss h.1 in
    All-cons (NotOf before) s ss (others before s h.0)
    (All-weaker (NotOf (before ++ s ∷ [])) (NotOf before) (λ t all. front (OtherStage t.stage) before s all) ss more)
  where
    front : (P : Stepping → Type 0) (before : List Stepping) (s : Stepping) → All P (before ++ s ∷ []) → All P before
    front P before s all = (All-pop P (before ++ s ∷ []) before (Some s) refl all).0

last_of : (P : Stepping → Type 0) (before : List Stepping) (s : Stepping) → All P (before ++ s ∷ []) → P s
last_of P before s all = (All-pop P (before ++ s ∷ []) before (Some s) refl all).1

pub own_stages : (before ss : List Stepping) → ArePlaced before ss → HaveOwnStages ss
own_stages before [] h i j s t e f same = absurd (cc)
own_stages before (x ∷ ss) h zero zero s t e f same = refl
own_stages before (x ∷ ss) h zero (suc j) s t e f same =
    let is : x ≡ s = cc in
    let other = at_of (NotOf (before ++ x ∷ [])) ss j t (rest_other (before ++ x ∷ []) ss h.1) f in
    absurd (last_of (OtherStage t.stage) before x other (ap (λ (z : Stepping). z.stage) is ∙ same))
own_stages before (x ∷ ss) h (suc i) zero s t e f same =
    let is : x ≡ t = cc in
    let other = at_of (NotOf (before ++ x ∷ [])) ss i s (rest_other (before ++ x ∷ []) ss h.1) e in
    absurd (last_of (OtherStage s.stage) before x other (ap (λ (z : Stepping). z.stage) is ∙ sym same))
own_stages before (x ∷ ss) h (suc i) (suc j) s t e f same = ap (λ n. suc n) (own_stages (before ++ x ∷ []) ss h.1 i j s t e f same)
