-- Rows that are kept stand for all that came.
use Rattle.std.proofs.Common.{◌≡◌, ◌<◌, ℕ, zero, suc, false, List, [], ◌∷◌, ◌++◌, length, get_or, drop, refl, sym, ap, ◌∙◌, subst, arith, ⊎_elim}
use Rattle.std.specs.Cmp.{IsStrictWeakOrder}
use Rattle.std.specs.List.{All}
use Rattle.std.specs.List.Sorted.{IsSortedBy}
use Rattle.std.specs.Prelude.{IfSome, Option, Some, None, Result, Ok, Err, ◌-◌}
use Rattle.std.specs.Ordering.{is_lt}
use Rattle.std.proofs.lemmas.Bool.{cases_lt}
use Rattle.std.proofs.lemmas.List.{append-nil, append_assoc, length-take-le, take-append-drop, take_all}
use Rattle.std.proofs.lemmas.List.Elements.{All-append, All-cons, All-head, All-nil, All-tail, All-take}
use Rattle.std.proofs.lemmas.List.Sorted.{IsPermutation-middle, ranks_by, sorted_far}
use Rattle.kq_value.specs.declared.value.Value.{Value}
use Rattle.kq_value.specs.Same.{Same}
use Rattle.kq_value.proofs.SameLemmas.{All-Same, Same-append, Same-append_comm, Same-from_permutation, Same-refl, Same-sym, Same-to_front, Same-trans}
use Rattle.kq_value.specs.Computed.{Computed, Is, Overflow, and_then, each}
use Rattle.kq_plan.specs.Plans.{Sorting}
use Rattle.kq_store_rows.specs.Chunks.{HasWidth}
use Rattle.kq_eval_row.specs.Val.{Surroundings, cell_of, meaning}
use Rattle.kq_value.specs.declared.fault.EvalFault.{EvalFault}
use Rattle.kq_value.specs.declared.fault.EvalFault.TheVariants as fault
use Rattle.kq_run_sort.specs.Answered.{AnswersOne}
use Rattle.kq_run_sort.specs.Leading.{HoldBack, HoldBackIf, IsLastKey, Lead, Settles, StandFor, key_of}
use Rattle.kq_run_sort.specs.declared.leaders.Leaders.{Leaders}
use Rattle.kq_run_sort.specs.Orders.{Row, Topped, computed_row, goes_before, key_cmp, keys_at}
use Rattle.kq_run_sort.proofs.Crowd.{first_before, first_still, get_or_any, sorted_take}
use Rattle.kq_run_sort.proofs.Picked.{then_Equal, then_is}
use Rattle.kq_run_sort.proofs.Ranked.{key_total, keys_total}

-- ---- values over each row

abbrev Comes : {A B : Type 0} → (A → Computed B) → A → Type 0
Comes {B = B} f x = (v : B) × (f x ≡ Is v)

each_comes : {A B : Type 0} (f : A → Computed B) (xs : List A) (ys : List B) → each f xs ≡ Is ys → All (Comes f) xs
each_comes f [] ys is = All-nil (Comes f)
each_comes f (x ∷ xs) ys is =
    let one = then_is (f x) (λ k. and_then (each f xs) (λ ks. Is (k ∷ ks))) ys is in
    let more = then_is (each f xs) (λ ks. Is (one.0 ∷ ks)) ys one.2 in
    All-cons (Comes f) x xs (one.0, one.1) (each_comes f xs more.0 more.1)

each_from : {A B : Type 0} (f : A → Computed B) (xs : List A) → All (Comes f) xs → (ys : List B) × (each f xs ≡ Is ys)
each_from f [] all = ([], refl)
each_from f (x ∷ xs) all =
    let one = All-head (Comes f) x xs all in
    let more = each_from f xs (All-tail (Comes f) x xs all) in (
      one.0 ∷ more.0,
      (λ i. and_then (one.1 i) (λ k. and_then (each f xs) (λ ks. Is (k ∷ ks)))) ∙ (λ i. and_then (more.1 i) (λ ks. Is (one.0 ∷ ks))),
    )

all_left : (P : Row → Type 0) (xs ys : List Row) → All P (xs ++ ys) → All P xs
all_left P [] ys all = All-nil P
all_left P (x ∷ xs) ys all = All-cons P x xs (All-head P x (xs ++ ys) all) (all_left P xs ys (All-tail P x (xs ++ ys) all))

all_right : (P : Row → Type 0) (xs ys : List Row) → All P (xs ++ ys) → All P ys
all_right P [] ys all = all
all_right P (x ∷ xs) ys all = all_right P xs ys (All-tail P x (xs ++ ys) all)

overflow_if : {B : Type 0} (c : Computed B) → ((ys : B) → c ≡ Is ys → ⊥) → c ≡ Overflow
overflow_if (Is keys) h = absurd (h keys refl)
overflow_if Overflow h = refl

not_both_ways : {B : Type 0} (c : Computed B) (keys : B) → c ≡ Overflow → c ≡ Is keys → ⊥
not_both_ways (Is ks) keys p q = cc
not_both_ways Overflow keys p q = cc

-- where one of a part overflows, one of the whole does
overflows_too : (f : Row → Computed Row) (part extra whole : List Row) → Same whole (part ++ extra) → each f part ≡ Overflow → each f whole ≡ Overflow
overflows_too f part extra whole same lost =
    overflow_if (each f whole) (λ keys is.
    let all = All-Same (Comes f) whole (part ++ extra) same (each_comes f whole keys is) in
    let own = each_from f part (all_left (Comes f) part extra all) in
    not_both_ways (each f part) own.0 lost own.1)

-- ---- the order of rows

rows_ordered : (k : Sorting) (s : Surroundings) → IsStrictWeakOrder (goes_before (k ∷ []) s)
rows_ordered k s = ranks_by (keys_total (k ∷ []) 0) (λ (r : Row). computed_row (keys_at (k ∷ []) s r))

values_ordered : (k : Sorting) → IsStrictWeakOrder (λ v w. is_lt (key_cmp k v w))
values_ordered k = ranks_by (key_total k) (λ (v : Value). v)

by_values : (k : Sorting) (s : Surroundings) (r t : Row) → goes_before (k ∷ []) s r t ≡ is_lt (key_cmp k (key_of k s r) (key_of k s t))
by_values k s r t = ap is_lt (then_Equal (key_cmp k (key_of k s r) (key_of k s t)))

-- ---- the first rows of more

more_last : (kept few others more : List Row) → Same kept (few ++ others) → Same (kept ++ more) ((few ++ more) ++ others)
more_last kept few others more same =
    Same-trans (kept ++ more) ((few ++ others) ++ more) ((few ++ more) ++ others) (Same-append kept (few ++ others) more more same (Same-refl more))
    (subst (λ (l : List Row). Same ((few ++ others) ++ more) l) (sym (append_assoc few more others))
    (subst (λ (l : List Row). Same l (few ++ (more ++ others))) (sym (append_assoc few others more)) (Same-append few few (others ++ more) (more ++ others) (Same-refl few) (Same-append_comm others more))))

topped_behind : (n : ℕ) (k : Sorting) (s : Surroundings) (front rest extra whole : List Row) (c : Computed (List Row)) → length front ≡ n → All (λ f. All (λ y. goes_before (k ∷ []) s y f ≡ false) extra) front
    → Same whole ((front ++ rest) ++ extra) → All (Comes (keys_at (k ∷ []) s)) extra → Topped n k s (front ++ rest) c → Topped n k s whole c
topped_behind n k s front rest extra whole (Is out) many behind same comes (all, (keys, is, moved, up), first) =
    let f = keys_at (k ∷ []) s in
    let lt = goes_before (k ∷ []) s in
    let own = All-append (Comes f) (front ++ rest) extra (each_comes f (front ++ rest) keys is) comes in
    let its = each_from f whole (All-Same (Comes f) ((front ++ rest) ++ extra) whole (Same-sym whole ((front ++ rest) ++ extra) same) own) in
    let still = first_still lt (rows_ordered k s) n front rest extra whole all many behind same moved up in (
      still.all,
      (its.0, its.1, Same-sym whole still.all (Same-from_permutation whole still.all still.moved), still.up),
      first ∙ still.first,
    )
topped_behind n k s front rest extra whole Overflow many behind same comes lost = overflows_too (keys_at (k ∷ []) s) (front ++ rest) extra whole same lost

topped_same : (n : ℕ) (k : Sorting) (s : Surroundings) (part whole : List Row) (c : Computed (List Row)) → Same whole part → Topped n k s part c → Topped n k s whole c
topped_same n k s part whole (Is out) same (all, (keys, is, moved, up), first) =
    let f = keys_at (k ∷ []) s in
    let its = each_from f whole (All-Same (Comes f) part whole (Same-sym whole part same) (each_comes f part keys is)) in (
      all,
      (its.0, its.1, Same-trans all part whole moved (Same-sym whole part same), up),
      first,
    )
topped_same n k s part whole Overflow same lost =
    overflow_if (each (keys_at (k ∷ []) s) whole) (λ keys is.
    let f = keys_at (k ∷ []) s in
    let own = each_from f part (All-Same (Comes f) whole part same (each_comes f whole keys is)) in
    not_both_ways (each f part) own.0 lost own.1)

-- ---- steps

pub StandFor-none : (n : ℕ) (k : Sorting) (s : Surroundings) → StandFor n k s [] []
StandFor-none n k s = record { with_more = λ more c topped. topped }

pub StandFor-push : (n : ℕ) (k : Sorting) (s : Surroundings) (all kept : List Row) (r : Row) → StandFor n k s all kept → StandFor n k s (all ++ r ∷ []) (kept ++ r ∷ [])
StandFor-push n k s all kept r stand = record {
  with_more = λ more c topped.
      subst (λ (l : List Row). Topped n k s l c) (sym (append_assoc all (r ∷ []) more))
      (stand.with_more (r ∷ more) c (subst (λ (l : List Row). Topped n k s l c) (append_assoc kept (r ∷ []) more) topped));
}

pub HoldBack-push : (n : ℕ) (k : Sorting) (s : Surroundings) (kept : List Row) (bound : Value) (r : Row) → HoldBack n k s kept bound → HoldBack n k s (kept ++ r ∷ []) bound
HoldBack-push n k s kept bound r hold = record {
  front = hold.front;
  back = hold.back ++ r ∷ [];
  parts = (λ i. hold.parts i ++ r ∷ []) ∙ append_assoc hold.front hold.back (r ∷ []);
  many = hold.many;
  before = hold.before;
}

-- a row behind the bound is passed over
pub StandFor-skip : (n : ℕ) (k : Sorting) (s : Surroundings) (all kept : List Row) (bound v : Value) (r : Row) → HoldBack n k s kept bound → keys_at (k ∷ []) s r ≡ Is (v ∷ []) → is_lt (key_cmp k v bound) ≡ false → StandFor n k s all kept
    → StandFor n k s (all ++ r ∷ []) kept
StandFor-skip n k s all kept bound v r hold is behind stand = record {
  with_more = λ more c topped.
      let front = hold.front in
      let rest = hold.back ++ more in
      let own : key_of k s r ≡ v = ap (λ (x : Computed Row). cell_of (computed_row x) 0) is in
      let joined : kept ++ more ≡ front ++ rest = (λ i. hold.parts i ++ more) ∙ append_assoc front hold.back more in
      let moved : Same (kept ++ r ∷ more) ((kept ++ more) ++ r ∷ []) =
      Same-trans (kept ++ r ∷ more) (r ∷ (kept ++ more)) ((kept ++ more) ++ r ∷ []) (Same-from_permutation (kept ++ r ∷ more) (r ∷ (kept ++ more)) (IsPermutation-middle kept r more))
      (Same-sym ((kept ++ more) ++ r ∷ []) (r ∷ (kept ++ more)) (Same-to_front r (kept ++ more))) in
      let same = subst (λ (l : List Row). Same (kept ++ r ∷ more) (l ++ r ∷ [])) joined moved in
      let behind_front : All (λ f. All (λ y. goes_before (k ∷ []) s y f ≡ false) (r ∷ [])) front = λ j e there.
      All-cons (λ y. goes_before (k ∷ []) s y (get_or front j e) ≡ false) r []
      (by_values k s r (get_or front j e) ∙ ((λ i. is_lt (key_cmp k (own i) (key_of k s (get_or front j e)))) ∙ (values_ordered k).chain v bound (key_of k s (get_or front j e)) behind (hold.before j e there)))
      (All-nil (λ y. goes_before (k ∷ []) s y (get_or front j e) ≡ false)) in
      let still = topped_behind n k s front rest (r ∷ []) (kept ++ r ∷ more) c hold.many behind_front same
      (All-cons (Comes (keys_at (k ∷ []) s)) r [] (v ∷ [], is) (All-nil (Comes (keys_at (k ∷ []) s))))
      (subst (λ (l : List Row). Topped n k s l c) joined topped) in
      subst (λ (l : List Row). Topped n k s l c) (sym (append_assoc all (r ∷ []) more)) (stand.with_more (r ∷ more) c still);
}

-- the first of the kept ones stand for all of them
pub StandFor-first : (n : ℕ) (k : Sorting) (s : Surroundings) (all kept few : List Row) → Topped n k s kept (Is few) → StandFor n k s all kept → StandFor n k s all few
StandFor-first n k s all kept few (sorted, (keys, is, moved, up), first) stand = record {
  with_more = λ more c topped.
      let f = keys_at (k ∷ []) s in
      let others = drop n sorted in
      let parts : few ++ others ≡ sorted = (λ i. first i ++ others) ∙ take-append-drop n sorted in
      let whole : Same kept (few ++ others) = subst (λ (l : List Row). Same kept l) (sym parts) (Same-sym sorted kept moved) in
      let still = ⊎_elim (λ short.
      let none : few ≡ sorted = first ∙ take_all n sorted (omega (arith, short)) in
      let same : Same kept few = subst (λ (l : List Row). Same kept l) (sym none) (Same-sym sorted kept moved) in
      topped_same n k s (few ++ more) (kept ++ more) c (Same-append kept few more more same (Same-refl more)) topped)
      (λ enough.
      let many : length few ≡ n = ap length first ∙ length-take-le n sorted enough in
      let behind : All (λ x. All (λ y. goes_before (k ∷ []) s y x ≡ false) others) few =
      subst (λ (l : List Row). All (λ x. All (λ y. goes_before (k ∷ []) s y x ≡ false) others) l) (sym first) (first_before (goes_before (k ∷ []) s) (rows_ordered k s) n sorted up) in
      let comes = each_comes f kept keys is in
      let all_come = All-Same (Comes f) kept (few ++ others) whole comes in
      topped_behind n k s few more others (kept ++ more) c many behind (more_last kept few others more whole) (all_right (Comes f) few others all_come) topped)
      (cases_lt (length sorted) n) in
      stand.with_more more c still;
}

-- the key of the last of so many holds back what stands behind it
pub HoldBack-last : (n : ℕ) (k : Sorting) (s : Surroundings) (kept few : List Row) (v : Value) → Topped n k s kept (Is few) → IsLastKey n k s few v → HoldBack n k s few v
HoldBack-last n k s kept few v (sorted, (keys, is, moved, up), first) last = record {
  front = few;
  back = [];
  parts = sym (append-nil few);
  many = last.many;
  before = λ j d within.
      let lt = goes_before (k ∷ []) s in
      let final = get_or few (n - 1) [] in
      let r = get_or few j d in
      let own : key_of k s final ≡ v = ap (λ (x : Computed Row). cell_of (computed_row x) 0) last.is in
      let up_few : IsSortedBy lt few = subst (IsSortedBy lt) (sym first) (sorted_take lt (rows_ordered k s) n sorted up) in
      let far : lt final (get_or few j []) ≡ false = sorted_far lt (rows_ordered k s) few up_few j (n - 1) [] (omega (arith, within, last.many)) (omega (arith, last.some, last.many)) in
      let same : get_or few j d ≡ get_or few j [] = get_or_any few j d [] within in
      (λ i. is_lt (key_cmp k (sym own i) (key_of k s (same i)))) ∙ (sym (by_values k s final (get_or few j [])) ∙ far);
}

-- ---- what callers are told

pub lead_none : (n : ℕ) (k : Sorting) (s : Surroundings) (l : Leaders) → l.rows ≡ [] → l.bound ≡ None → Lead n k s [] l
lead_none n k s l none unbound = record {
  stand = subst (λ (rows : List Row). StandFor n k s [] rows) (sym none) (StandFor-none n k s);
  bound = subst (λ (b : Option Value). HoldBackIf n k s l.rows b) (sym unbound) tt;
}

held_push : (n : ℕ) (k : Sorting) (s : Surroundings) (kept : List Row) (b : Option Value) (r : Row) → HoldBackIf n k s kept b → HoldBackIf n k s (kept ++ r ∷ []) b
held_push n k s kept (Some bound) r hold = HoldBack-push n k s kept bound r hold
held_push n k s kept None r hold = tt

pub lead_push : (n : ℕ) (k : Sorting) (s : Surroundings) (all rows : List Row) (r : Row) (old : Leaders) → Lead n k s all old → rows ≡ old.rows ++ r ∷ [] → Lead n k s (all ++ r ∷ []) (record { rows = rows; bound = old.bound })
lead_push n k s all rows r old lead is = record {
  stand = subst (λ (l : List Row). StandFor n k s (all ++ r ∷ []) l) (sym is) (StandFor-push n k s all old.rows r lead.stand);
  bound = subst (λ (l : List Row). HoldBackIf n k s l old.bound) (sym is) (held_push n k s old.rows old.bound r lead.bound);
}

pub lead_skip : (n : ℕ) (k : Sorting) (s : Surroundings) (all : List Row) (r : Row) (l : Leaders) (b v : Value) → l.bound ≡ Some b → keys_at (k ∷ []) s r ≡ Is (v ∷ []) → is_lt (key_cmp k v b) ≡ false → Lead n k s all l → Lead n k s (all ++ r ∷ []) l
lead_skip n k s all r l b v bound is behind lead = record {
  stand = StandFor-skip n k s all l.rows b v r (subst (λ (o : Option Value). HoldBackIf n k s l.rows o) bound lead.bound) is behind lead.stand;
  bound = lead.bound;
}

held_first : (n : ℕ) (k : Sorting) (s : Surroundings) (kept few : List Row) (b : Option Value) → Topped n k s kept (Is few) → IfSome b (IsLastKey n k s few) → HoldBackIf n k s few b
held_first n k s kept few (Some v) topped last = HoldBack-last n k s kept few v topped last
held_first n k s kept few None topped last = tt

pub lead_first : (n : ℕ) (k : Sorting) (s : Surroundings) (all few : List Row) (b : Option Value) (old : Leaders) → Topped n k s old.rows (Is few) → IfSome b (IsLastKey n k s few) → Lead n k s all old → Lead n k s all (record { rows = few; bound = b })
lead_first n k s all few b old topped last lead = record {
  stand = StandFor-first n k s all old.rows few topped lead.stand;
  bound = held_first n k s old.rows few b topped last;
}

pub lead_lost : (n : ℕ) (k : Sorting) (s : Surroundings) (old new : Leaders) (met : EvalFault) → AnswersOne {A = List Row} (Topped n k s old.rows) (Err met) → Settles n k s old new (Err met)
lead_lost n k s old new fault.Overflow lost = λ all more lead. lead.stand.with_more more Overflow (overflows_too (keys_at (k ∷ []) s) old.rows more (old.rows ++ more) (Same-refl (old.rows ++ more)) lost)
lead_lost n k s old new fault.Memory lost = tt

whole_topped : (n : ℕ) (k : Sorting) (s : Surroundings) (all kept : List Row) (c : Computed (List Row)) → StandFor n k s all kept → Topped n k s kept c → Topped n k s all c
whole_topped n k s all kept c stand topped =
    subst (λ (l : List Row). Topped n k s l c) (append-nil all) (stand.with_more [] c (subst (λ (l : List Row). Topped n k s l c) (sym (append-nil kept)) topped))

pub lead_answers : (n : ℕ) (k : Sorting) (s : Surroundings) (all : List Row) (l : Leaders) (r : Result (List Row) EvalFault) → AnswersOne (Topped n k s l.rows) r → Lead n k s all l → AnswersOne (Topped n k s all) r
lead_answers n k s all l (Ok rows) is lead = whole_topped n k s all l.rows (Is rows) lead.stand is
lead_answers n k s all l (Err fault.Overflow) is lead = whole_topped n k s all l.rows Overflow lead.stand is
lead_answers n k s all l (Err fault.Memory) is lead = tt

-- ---- the key over a piece of rows

abbrev alone_at : (Row → Computed Value) → Row → Computed Row
alone_at m r = and_then (m r) (λ v. Is (v ∷ []))

alone_lost : (m : Row → Computed Value) (rows : List Row) → each m rows ≡ Overflow → each (alone_at m) rows ≡ Overflow
alone_lost m rows lost =
    overflow_if (each (alone_at m) rows) (λ keys is.
    let come = each_comes (alone_at m) rows keys is in
    let own = each_from m rows (λ j d within.
    let one = come j d within in
    let its = then_is (m (get_or rows j d)) (λ v. Is (v ∷ [])) one.0 one.1 in (its.0, its.1)) in
    not_both_ways (each m rows) own.0 lost own.1)

same_values : (a b : List Value) → ◌≡◌ {A = Computed (List Value)} (Is a) (Is b) → a ≡ b
same_values a b e = cc

value_at_place : (m : Row → Computed Value) (rows : List Row) (vs : List Value) → each m rows ≡ Is vs → (j : ℕ) (d : Row) → j < length rows → m (get_or rows j d) ≡ Is (cell_of vs j)
value_at_place m [] vs is j d within = absurd (omega (arith, within))
value_at_place m (r ∷ rows) vs is zero d within =
    let one = then_is (m r) (λ k. and_then (each m rows) (λ ks. Is (k ∷ ks))) vs is in
    let more = then_is (each m rows) (λ ks. Is (one.0 ∷ ks)) vs one.2 in
    subst (λ (l : List Value). m r ≡ Is (cell_of l 0)) (same_values (one.0 ∷ more.0) vs more.2) one.1
value_at_place m (r ∷ rows) vs is (suc j) d within =
    let one = then_is (m r) (λ k. and_then (each m rows) (λ ks. Is (k ∷ ks))) vs is in
    let more = then_is (each m rows) (λ ks. Is (one.0 ∷ ks)) vs one.2 in
    subst (λ (l : List Value). m (get_or rows j d) ≡ Is (cell_of l (suc j))) (same_values (one.0 ∷ more.0) vs more.2) (value_at_place m rows more.0 more.1 j d (omega (arith, within)))

-- the key over the row at a place is the cell of the column of its values
pub key_at_place : (k : Sorting) (s : Surroundings) (rows : List Row) (vs : List Value) → each (meaning k.value s) rows ≡ Is vs → (j : ℕ) (d : Row) → j < length rows → keys_at (k ∷ []) s (get_or rows j d) ≡ Is (cell_of vs j ∷ [])
key_at_place k s rows vs is j d within = (λ i. and_then (value_at_place (meaning k.value s) rows vs is j d within i) (λ v. Is (v ∷ [])))

-- where the key overflows on a row of a piece
pub lost_among : (n : ℕ) (k : Sorting) (s : Surroundings) (piece all more : List Row) → each (meaning k.value s) piece ≡ Overflow → Topped n k s (all ++ (piece ++ more)) Overflow
lost_among n k s piece all more lost =
    let whole = all ++ (piece ++ more) in
    let turned : Same whole (piece ++ (more ++ all)) = subst (λ (l : List Row). Same whole l) (append_assoc piece more all) (Same-append_comm all (piece ++ more)) in
    overflows_too (keys_at (k ∷ []) s) piece (more ++ all) whole turned (alone_lost (meaning k.value s) piece lost)

pub lead_wide : (w n : ℕ) (k : Sorting) (s : Surroundings) (rows few : List Row) → Topped n k s rows (Is few) → All (HasWidth w) rows → All (HasWidth w) few
lead_wide w n k s rows few (sorted, (keys, is, moved, up), first) wide = subst (All (HasWidth w)) (sym first) (All-take (HasWidth w) n sorted (All-Same (HasWidth w) rows sorted (Same-sym sorted rows moved) wide))

-- ---- rows in two parts

module _ (n : ℕ) (k : Sorting) (s : Surroundings) (xs ys : List Row) where
  stand_first : (rows few : List Row) → Topped n k s rows (Is few) → StandFor n k s rows few
  stand_first rows few topped = StandFor-first n k s rows rows few topped (record { with_more = λ more c first. first })

  -- the first of both parts' first ones are the first of all
  pub topped_both : (first rest : List Row) (c : Computed (List Row)) → Topped n k s xs (Is first) → Topped n k s ys (Is rest) → Topped n k s (first ++ rest) c → Topped n k s (xs ++ ys) c
  topped_both first rest c a b both =
      let turned = topped_same n k s (first ++ rest) (rest ++ first) c (Same-append_comm rest first) both in
      let more = topped_same n k s (ys ++ first) (first ++ ys) c (Same-append_comm first ys) ((stand_first ys rest b).with_more first c turned) in
      (stand_first xs first a).with_more ys c more

  -- a key that overflows on a row of one part does so on one of all
  pub lost_in_first : Topped n k s xs Overflow → Topped n k s (xs ++ ys) Overflow
  lost_in_first lost = overflows_too (keys_at (k ∷ []) s) xs ys (xs ++ ys) (Same-refl (xs ++ ys)) lost

  pub lost_in_rest : Topped n k s ys Overflow → Topped n k s (xs ++ ys) Overflow
  lost_in_rest lost = overflows_too (keys_at (k ∷ []) s) ys xs (xs ++ ys) (Same-append_comm xs ys) lost
