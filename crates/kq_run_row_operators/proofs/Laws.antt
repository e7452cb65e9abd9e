-- What row operators make of two lists of rows, one after another, and of rows after a failure.
use Rattle.std.proofs.Common.{◌≡◌, ◌<◌, ◌≤◌, ◌+◌, ℕ, zero, suc, Bool, true, false, cond, Option, List, [], ◌∷◌, ◌++◌, length, get_or, take, drop, refl, sym, ap, ◌∙◌, subst, arith, append-nil, append_assoc}
use Rattle.std.proofs.lemmas.List.{drop_more, drop_all}
use Rattle.std.specs.List.{All}
use Rattle.kq_value.specs.declared.ty.Ty.{Ty}
use Rattle.kq_value.specs.declared.value.Value.{Value}
use Rattle.kq_eval_pieces.specs.kq_value_arithmetic.Logic.{is_yes}
use Rattle.kq_value.specs.Computed.{Computed, Is, Overflow, and_then, each}
use Rattle.kq_plan_expressions.specs.Terms.{Term}
use Rattle.kq_store_rows.specs.Chunks.{HasWidth}
use Rattle.kq_eval_pieces.specs.kq_eval_row.Val.{Surroundings, meaning}
use Rattle.kq_eval_pieces.specs.Operators.{Row, filtered, values_at}
use Rattle.kq_eval_pieces.proofs.Laws.{each_append, each_long}
use Rattle.kq_run_reshape.specs.MvExpand.{expanded, with_parts}
use Rattle.kq_run_row_operators.specs.Operators.{Rowwise, keeping, making, mv_expanding, applied, width_after}
use Rattle.kq_run_row_operators.specs.Ran.{Ran, came, failed, later, staged, ran, joined, width_in_end}
use Rattle.kq_run_row_operators.proofs.Widths.{applied_wide}

-- ---- one operator

abbrev pub both : {B : Type 0} → Computed (List B) → Computed (List B) → Computed (List B)
both os ps = and_then os (λ us. and_then ps (λ vs. Is (us ++ vs)))

chosen : (b : Bool) (r : Row) (us vs : List Row) → cond b (r ∷ us ++ vs) (us ++ vs) ≡ cond b (r ∷ us) us ++ vs
chosen true r us vs = refl
chosen false r us vs = refl

after : (o : Computed Value) (os ps : Computed (List Row)) (r : Row)
    → and_then o (λ v. and_then (both os ps) (λ others. Is (cond (is_yes v) (r ∷ others) others))) ≡ both (and_then o (λ v. and_then os (λ others. Is (cond (is_yes v) (r ∷ others) others)))) ps
after Overflow os ps r = refl
after (Is v) Overflow ps r = refl
after (Is v) (Is us) Overflow r = refl
after (Is v) (Is us) (Is vs) r = ap Is (chosen (is_yes v) r us vs)

alone : {B : Type 0} (o : Computed (List B)) → o ≡ and_then o (λ vs. Is vs)
alone Overflow = refl
alone (Is vs) = refl

-- what a filter keeps of two lists, one after another
pub filtered_append : (e : Term) (s : Surroundings) (xs ys : List Row) → filtered e s (xs ++ ys) ≡ and_then (filtered e s xs) (λ us. and_then (filtered e s ys) (λ vs. Is (us ++ vs)))
filtered_append e s [] ys = alone (filtered e s ys)
filtered_append e s (r ∷ xs) ys =
    ap (λ os. and_then (meaning e s r) (λ v. and_then os (λ others. Is (cond (is_yes v) (r ∷ others) others)))) (filtered_append e s xs ys)
    ∙ after (meaning e s r) (filtered e s xs) (filtered e s ys) r

-- an expansion of two lists, each with its values
pub expanded_append : (at : ℕ) (t : Option Ty) (rows others : List Row) (vs ws : List Value) → length vs ≡ length rows → expanded at t (rows ++ others) (vs ++ ws) ≡ expanded at t rows vs ++ expanded at t others ws
expanded_append at t [] others [] ws h = refl
expanded_append at t [] others (v ∷ vs) ws h = absurd (omega arith)
expanded_append at t (r ∷ rows) others [] ws h = absurd (omega arith)
expanded_append at t (r ∷ rows) others (v ∷ vs) ws h =
    ap (λ rs. with_parts at t r v ++ rs) (expanded_append at t rows others vs ws (omega arith)) ∙ sym (append_assoc (with_parts at t r v) (expanded at t rows vs) (expanded at t others ws))

mv_expand : (at : ℕ) (t : Option Ty) (xs ys : List Row) (o p : Computed (List Value)) → ((vs : List Value) → o ≡ Is vs → length vs ≡ length xs)
    → and_then (and_then o (λ us. and_then p (λ ws. Is (us ++ ws)))) (λ vs. Is (expanded at t (xs ++ ys) vs)) ≡ and_then (and_then o (λ vs. Is (expanded at t xs vs))) (λ us. and_then (and_then p (λ vs. Is (expanded at t ys vs))) (λ ws. Is (us ++ ws)))
mv_expand at t xs ys Overflow p h = refl
mv_expand at t xs ys (Is vs) Overflow h = refl
mv_expand at t xs ys (Is vs) (Is ws) h = ap Is (expanded_append at t xs ys vs ws (h vs refl))

-- what an operator makes of two lists of rows, one after another
pub applied_append : (o : Rowwise) (s : Surroundings) (xs ys : List Row) → applied o s (xs ++ ys) ≡ and_then (applied o s xs) (λ us. and_then (applied o s ys) (λ vs. Is (us ++ vs)))
applied_append (keeping e) s xs ys = filtered_append e s xs ys
applied_append (making es) s xs ys = each_append (values_at es s) xs ys
applied_append (mv_expanding e at t) s xs ys =
    ap (λ o. and_then o (λ vs. Is (expanded at t (xs ++ ys) vs))) (each_append (meaning e s) xs ys)
    ∙ mv_expand at t xs ys (each (meaning e s) xs) (each (meaning e s) ys) (λ vs is. each_long (meaning e s) xs vs is)

-- an operator makes nothing of no rows
pub applied_none : (o : Rowwise) (s : Surroundings) → applied o s [] ≡ Is []
applied_none (keeping e) s = refl
applied_none (making es) s = refl
applied_none (mv_expanding e at t) s = refl

-- ---- what came of two lists

pub joined_assoc : (a b c : Ran) → joined (joined a b) c ≡ joined a (joined b c)
joined_assoc (came xs) (came ys) (came zs) = ap came (append_assoc xs ys zs)
joined_assoc (came xs) (came ys) (failed k) = refl
joined_assoc (came xs) (failed m) (came zs) = refl
joined_assoc (came xs) (failed m) (failed k) = refl
joined_assoc (failed n) (came ys) (came zs) = refl
joined_assoc (failed n) (came ys) (failed k) = refl
joined_assoc (failed n) (failed m) (came zs) = refl
joined_assoc (failed n) (failed m) (failed k) = ap failed (omega arith)

pub joined_first : (r : Ran) → joined (came []) r ≡ r
joined_first (came rows) = refl
joined_first (failed n) = refl

pub joined_last : (r : Ran) → joined r (came []) ≡ r
joined_last (came rows) = ap came (append-nil rows)
joined_last (failed n) = refl

-- a failure at the first operator is the least
pub joined_least : (r : Ran) → joined (failed 0) r ≡ failed 0
joined_least (came rows) = refl
joined_least (failed n) = ap failed (omega arith)

later_joined : (p q : Ran) → later (joined p q) ≡ joined (later p) (later q)
later_joined (came xs) (came ys) = refl
later_joined (came xs) (failed m) = refl
later_joined (failed n) (came ys) = refl
later_joined (failed n) (failed m) = ap failed (omega arith)

least_first : (r : Ran) → failed 0 ≡ joined (failed 0) (later r)
least_first (came rows) = refl
least_first (failed n) = ap failed (omega arith)

least_second : (r : Ran) → failed 0 ≡ joined (later r) (failed 0)
least_second (came rows) = refl
least_second (failed n) = ap failed (omega arith)

-- ---- operators one after another

append_step : (f : List Row → Ran) → ((a b : List Row) → f (a ++ b) ≡ joined (f a) (f b)) → (o p : Computed (List Row)) → staged (both o p) f ≡ joined (staged o f) (staged p f)
append_step f law Overflow Overflow = refl
append_step f law Overflow (Is b) = least_first (f b)
append_step f law (Is a) Overflow = least_second (f a)
append_step f law (Is a) (Is b) = ap later (law a b) ∙ later_joined (f a) (f b)

-- of two lists of rows, the operator that overflows first on a row of either is the one that fails
pub ran_append : (os : List Rowwise) (s : Surroundings) (xs ys : List Row) → ran os s (xs ++ ys) ≡ joined (ran os s xs) (ran os s ys)
ran_append [] s xs ys = refl
ran_append (o ∷ os) s xs ys = ap (λ (c : Computed (List Row)). staged c (ran os s)) (applied_append o s xs ys) ∙ append_step (ran os s) (λ a b. ran_append os s a b) (applied o s xs) (applied o s ys)

pub ran_none : (os : List Rowwise) (s : Surroundings) → ran os s [] ≡ came []
ran_none [] s = refl
ran_none (o ∷ os) s = ap (λ (c : Computed (List Row)). staged c (ran os s)) (applied_none o s) ∙ ap later (ran_none os s)

below : (os : List Rowwise) (f : List Row → Ran) (o : Computed (List Row)) (n : ℕ) → ((rows : List Row) (m : ℕ) → f rows ≡ failed m → m < length os) → staged o f ≡ failed n → n < suc (length os)
below os f Overflow n h is = let first : 0 ≡ n = cc in omega (arith, first)
below os f (Is rows) n h is = shown (f rows) refl is
  where
    shown : (r : Ran) → f rows ≡ r → later r ≡ failed n → n < suc (length os)
    shown (came out) same is = absurd cc
    shown (failed m) same is = let next : suc m ≡ n = cc in let b = h rows m same in omega (arith, next, b)

-- the number of a failure is one of an operator
pub ran_failed : (os : List Rowwise) (s : Surroundings) (rows : List Row) (n : ℕ) → ran os s rows ≡ failed n → n < length os
ran_failed [] s rows n is = absurd cc
ran_failed (o ∷ os) s rows n is = below os (ran os s) (applied o s rows) n (λ next m same. ran_failed os s next m same) is

shifts : (n : ℕ) (r : Ran) → joined (failed (suc n)) (later r) ≡ later (joined (failed n) r)
shifts n (came rows) = refl
shifts n (failed m) = ap failed (omega arith)

take_step : (f g : List Row → Ran) (n : ℕ) → ((rows : List Row) → joined (failed n) (f rows) ≡ joined (failed n) (g rows)) → (o : Computed (List Row)) → joined (failed (suc n)) (staged o f) ≡ joined (failed (suc n)) (staged o g)
take_step f g n same Overflow = refl
take_step f g n same (Is rows) = shifts n (f rows) ∙ ap later (same rows) ∙ sym (shifts n (g rows))

-- after a failure, only the operators before it count
pub ran_take : (os : List Rowwise) (s : Surroundings) (n : ℕ) (rows : List Row) → joined (failed n) (ran os s rows) ≡ joined (failed n) (ran (take n os) s rows)
ran_take os s zero rows = joined_least (ran os s rows) ∙ sym (joined_least (ran (take 0 os) s rows))
ran_take [] s (suc n) rows = refl
ran_take (o ∷ os) s (suc n) rows = take_step (ran os s) (ran (take n os) s) n (λ next. ran_take os s n next) (applied o s rows)

wide_step : (os : List Rowwise) (f : List Row → Ran) (c : Computed (List Row)) (w v : ℕ) (out : List Row) → ((next : List Row) → c ≡ Is next → All (HasWidth w) next)
    → ((next : List Row) → All (HasWidth w) next → f next ≡ came out → All (HasWidth v) out) → staged c f ≡ came out → All (HasWidth v) out
wide_step os f Overflow w v out h g is = absurd cc
wide_step os f (Is next) w v out h g is = shown (f next) refl is
  where
    shown : (r : Ran) → f next ≡ r → later r ≡ came out → All (HasWidth v) out
    shown (came rows) same is = g next (h next refl) (same ∙ is)
    shown (failed m) same is = absurd cc

-- how wide rows are in the end
pub ran_wide : (os : List Rowwise) (s : Surroundings) (w : ℕ) (rows out : List Row) → All (HasWidth w) rows → ran os s rows ≡ came out → All (HasWidth (width_in_end os w)) out
ran_wide [] s w rows out wide is = let same : rows ≡ out = cc in subst (λ (rs : List Row). All (HasWidth w) rs) same wide
ran_wide (o ∷ os) s w rows out wide is =
    wide_step os (ran os s) (applied o s rows) (width_after o w) (width_in_end os (width_after o w)) out (λ next came. applied_wide o s w rows next wide came)
    (λ next all same. ran_wide os s (width_after o w) next out all same) is

-- ---- the first so many of them

-- so many operators stand in front
abbrev pub laters : ℕ → Ran → Ran
laters k (came rows) = came rows
laters k (failed n) = failed (k + n)

pub laters_none : (r : Ran) → r ≡ laters 0 r
laters_none (came rows) = refl
laters_none (failed n) = ap failed (omega arith)

laters_next : (i : ℕ) (r : Ran) → laters i (later r) ≡ laters (suc i) r
laters_next i (came rows) = refl
laters_next i (failed n) = ap failed (omega arith)

module _ (whole : Ran) (os : List Rowwise) (s : Surroundings) (i : ℕ) (rows : List Row) (so_far : whole ≡ laters i (ran (drop i os) s rows)) where
  front : (o : Rowwise) → i < length os → o ≡ get_or os i o → whole ≡ laters i (staged (applied o s rows) (ran (drop (suc i) os) s))
  front o within is =
      let one : i + 1 ≡ suc i = omega arith in
      so_far ∙ ap (λ (ps : List Rowwise). laters i (ran ps s rows)) (drop_more os i o within ∙ (λ j. sym is j ∷ drop (one j) os))

  -- one operator more has made its rows
  pub goes_on : (o : Rowwise) (next : List Row) → i < length os → o ≡ get_or os i o → applied o s rows ≡ Is next → whole ≡ laters (i + 1) (ran (drop (i + 1) os) s next)
  goes_on o next within is made =
      let one : suc i ≡ i + 1 = omega arith in
      front o within is ∙ ap (λ (c : Computed (List Row)). laters i (staged c (ran (drop (suc i) os) s))) made ∙ laters_next i (ran (drop (suc i) os) s next)
      ∙ ap (λ (k : ℕ). laters k (ran (drop k os) s next)) one

  -- this one overflows
  pub breaks_off : (o : Rowwise) → i < length os → o ≡ get_or os i o → applied o s rows ≡ Overflow → failed i ≡ whole
  breaks_off o within is made =
      let none : i ≡ i + 0 = omega arith in
      ap failed none ∙ sym (front o within is ∙ ap (λ (c : Computed (List Row)). laters i (staged c (ran (drop (suc i) os) s))) made)

  -- all have made their rows
  pub comes_to_end : length os ≤ i → came rows ≡ whole
  comes_to_end past = sym (so_far ∙ ap (λ (ps : List Rowwise). laters i (ran ps s rows)) (drop_all i os past))
