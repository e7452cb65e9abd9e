-- What a sort gives is in order of its keys.
use Rattle.std.proofs.Common.{◌≡◌, ◌∙◌, ◌⊎◌, inl, inr, ◌<◌, ◌≤◌, ◌+◌, ℕ, suc, Bool, true, false, cond, List, [], ◌∷◌, length, get_or, map, refl, sym, ap, subst, arith}
use Rattle.std.specs.Cmp.{IsStrictWeakOrder}
use Rattle.std.specs.List.{All, AllPairs}
use Rattle.std.specs.List.Sorted.{IsSortedBy}
use Rattle.std.specs.Ordering.{is_lt, nat_cmp, ordering_then}
use Rattle.std.specs.declared.cmp.Ordering.{Ordering}
use Rattle.std.specs.declared.cmp.Ordering.TheVariants.{Less, Equal, Greater}
use Rattle.std.proofs.lemmas.Cmp.{tied_itself}
use Rattle.std.proofs.lemmas.List.{get_or-map, length-map}
use Rattle.std.proofs.lemmas.List.Elements.{All-cons, All-head, All-map, All-nil, All-tail, All-weaker}
use Rattle.std.proofs.lemmas.List.Sorted.{ranks_by, sorted_far}
use Rattle.kq_value.specs.Computed.{Computed, Is, Overflow, and_then, each}
use Rattle.kq_run_sort.proofs.Ranked.{key_total, keys_total}
use Rattle.kq_run_sort.specs.Orders.{Row, Sorted, Topped, computed_row, goes_before, key_cmp, key_term, keys_at, keys_cmp, null_rank, turned}
use Rattle.kq_plan.specs.Plans.{Sorting}
use Rattle.kq_store_rows.specs.Chunks.{HasWidth}
use Rattle.kq_run_gather.specs.kq_eval_row.Val.{Meaning, Surroundings, cell_of, meaning, values}
use Rattle.kq_value.proofs.Equals.{value_equal}
use Rattle.kq_value.proofs.Totals.{value_cmp_total}
use Rattle.kq_value.proofs.SameLemmas.{All-Same, IsPermutation-from_Same, Same-from_permutation, Same-sym}
use Rattle.kq_value.specs.Same.{Same}
use Rattle.kq_value.specs.Values.{value_cmp}
use Rattle.kq_value.specs.declared.value.Value.{Value}
use Rattle.kq_value.specs.declared.value.Value.TheVariants as cell
use Rattle.kq_run_laws.specs.Sorts.{IsNull, IsOrdered, GoesFirst, null_first, null_last, by_value, GoesBefore, Keyed, keys_of, row_of, IsKeyed, MayPrecede, IsInKeyOrder, IsFirst}

-- ---- nulls

known : (v : Value) → IsNull v ⊎ (IsNull v → ⊥)
known (cell.Null t) = inl (t, refl)
known _ = inr (λ n. let e = n.1 in absurd (cc))

null_ranked : (f : Bool) (v : Value) → IsNull v → null_rank f v ≡ cond f 0 2
null_ranked f v n = ap (null_rank f) n.1

other_ranked : (f : Bool) (v : Value) → (IsNull v → ⊥) → null_rank f v ≡ 1
other_ranked f (cell.Null t) h = absurd (h (t, refl))
other_ranked f _ h = refl

-- ---- the values of one key

ranked : (k : Sorting) (v w : Value) (a b : ℕ) → null_rank k.nulls_first v ≡ a → null_rank k.nulls_first w ≡ b
    → key_cmp k v w ≡ ordering_then (nat_cmp a b) (turned k.descending value_cmp v w)
ranked k v w a b e f =
    ap (λ (x : ℕ). ordering_then (nat_cmp x (null_rank k.nulls_first w)) (turned k.descending value_cmp v w)) e
    ∙ ap (λ (y : ℕ). ordering_then (nat_cmp a y) (turned k.descending value_cmp v w)) f

ordered_to : (d : Bool) (v w : Value) → turned d value_cmp v w ≡ Less → IsOrdered d v w
ordered_to true v w h = h
ordered_to false v w h = h

ordered_from : (d : Bool) (v w : Value) → IsOrdered d v w → turned d value_cmp v w ≡ Less
ordered_from true v w h = h
ordered_from false v w h = h

tied_values : (d : Bool) (v w : Value) → turned d value_cmp v w ≡ Equal → v ≡ w
tied_values true v w h = sym (value_equal w v h)
tied_values false v w h = value_equal v w h

-- what a key says of two values, by which of them are null
abbrev Says : Sorting → Value → Value → Ordering → Type 0
Says k v w Less = GoesFirst k v w
Says k v w Equal = v ≡ w
Says k v w Greater = GoesFirst k v w → ⊥

same_order : (k : Sorting) (v w : Value) → (IsNull v → IsNull w) → (IsNull w → IsNull v) → (o : Ordering) → turned k.descending value_cmp v w ≡ o → Says k v w o
same_order k v w to from Less e = by_value to from (ordered_to k.descending v w e)
same_order k v w to from Equal e = tied_values k.descending v w e
same_order k v w to from Greater e = elsewhere where
  elsewhere : GoesFirst k v w → ⊥
  elsewhere (null_first first n other) = other (to n)
  elsewhere (null_last last other n) = other (from n)
  elsewhere (by_value p q h) = let less = ordered_from k.descending v w h in cc

null_then : (k : Sorting) (v w : Value) → IsNull v → (IsNull w → ⊥) → (f : Bool) → k.nulls_first ≡ f → Says k v w (nat_cmp (cond f 0 2) 1)
null_then k v w n other true is = null_first is n other
null_then k v w n other false is = elsewhere where
  elsewhere : GoesFirst k v w → ⊥
  elsewhere (null_first first m o) = cc
  elsewhere (null_last last o m) = o n
  elsewhere (by_value p q h) = other (p n)

then_null : (k : Sorting) (v w : Value) → (IsNull v → ⊥) → IsNull w → (f : Bool) → k.nulls_first ≡ f → Says k v w (nat_cmp 1 (cond f 0 2))
then_null k v w other n false is = null_last is other n
then_null k v w other n true is = elsewhere where
  elsewhere : GoesFirst k v w → ⊥
  elsewhere (null_first first m o) = other m
  elsewhere (null_last last o m) = cc
  elsewhere (by_value p q h) = other (q n)

decides_null : (f : Bool) (o : Ordering) → ordering_then (nat_cmp (cond f 0 2) 1) o ≡ nat_cmp (cond f 0 2) 1
decides_null true o = refl
decides_null false o = refl

null_decides : (f : Bool) (o : Ordering) → ordering_then (nat_cmp 1 (cond f 0 2)) o ≡ nat_cmp 1 (cond f 0 2)
null_decides true o = refl
null_decides false o = refl

both_null : (f : Bool) (o : Ordering) → ordering_then (nat_cmp (cond f 0 2) (cond f 0 2)) o ≡ o
both_null true o = refl
both_null false o = refl

key_says : (k : Sorting) (v w : Value) → Says k v w (key_cmp k v w)
key_says k v w = by (known v) (known w) where
  by : IsNull v ⊎ (IsNull v → ⊥) → IsNull w ⊎ (IsNull w → ⊥) → Says k v w (key_cmp k v w)
  by (inl n) (inl m) =
      let is = ranked k v w (cond k.nulls_first 0 2) (cond k.nulls_first 0 2) (null_ranked k.nulls_first v n) (null_ranked k.nulls_first w m) ∙ both_null k.nulls_first (turned k.descending value_cmp v w) in
      subst (Says k v w) (sym is) (same_order k v w (λ x. m) (λ x. n) (turned k.descending value_cmp v w) refl)
  by (inl n) (inr other) =
      let is = ranked k v w (cond k.nulls_first 0 2) 1 (null_ranked k.nulls_first v n) (other_ranked k.nulls_first w other) ∙ decides_null k.nulls_first (turned k.descending value_cmp v w) in
      subst (Says k v w) (sym is) (null_then k v w n other k.nulls_first refl)
  by (inr other) (inl m) =
      let is = ranked k v w 1 (cond k.nulls_first 0 2) (other_ranked k.nulls_first v other) (null_ranked k.nulls_first w m) ∙ null_decides k.nulls_first (turned k.descending value_cmp v w) in
      subst (Says k v w) (sym is) (then_null k v w other m k.nulls_first refl)
  by (inr other) (inr neither) =
      let is : key_cmp k v w ≡ (turned k.descending value_cmp v w) = ranked k v w 1 1 (other_ranked k.nulls_first v other) (other_ranked k.nulls_first w neither) in
      subst (Says k v w) (sym is) (same_order k v w (λ x. absurd (other x)) (λ x. absurd (neither x)) (turned k.descending value_cmp v w) refl)

-- ---- the values of several keys

shifted : (ks : List Sorting) (n : ℕ) (v w : Value) (vs ws : Row) → keys_cmp ks (suc n) (v ∷ vs) (w ∷ ws) ≡ keys_cmp ks n vs ws
shifted [] n v w vs ws = refl
shifted (k ∷ ks) n v w vs ws = ap (ordering_then (key_cmp k (cell_of vs n) (cell_of ws n))) (shifted ks (suc n) v w vs ws)

goes_to : (ks : List Sorting) (vs ws : Row) → HasWidth (length ks) vs → HasWidth (length ks) ws → is_lt (keys_cmp ks 0 vs ws) ≡ true → GoesBefore ks vs ws
goes_to [] vs ws wide as_wide less = absurd (cc)
goes_to (k ∷ ks) [] ws wide as_wide less = absurd (omega (arith, wide))
goes_to (k ∷ ks) (v ∷ vs) [] wide as_wide less = absurd (omega (arith, as_wide))
goes_to (k ∷ ks) (v ∷ vs) (w ∷ ws) wide as_wide less =
    by (key_cmp k v w) (key_says k v w) (subst (λ (o : Ordering). is_lt (ordering_then (key_cmp k v w) o) ≡ true) (shifted ks 0 v w vs ws) less)
    (goes_to ks vs ws (omega (arith, wide)) (omega (arith, as_wide)))
  where
    by : (o : Ordering) → Says k v w o → is_lt (ordering_then o (keys_cmp ks 0 vs ws)) ≡ true → (is_lt (keys_cmp ks 0 vs ws) ≡ true → GoesBefore ks vs ws)
        → GoesBefore (k ∷ ks) (v ∷ vs) (w ∷ ws)
    by Less says h more = inl says
    by Equal says h more = inr (says, more h)
    by Greater says h more = absurd (cc)

goes_from : (ks : List Sorting) (vs ws : Row) → GoesBefore ks vs ws → is_lt (keys_cmp ks 0 vs ws) ≡ true
goes_from [] vs ws goes = absurd goes
goes_from (k ∷ ks) [] ws goes = absurd goes
goes_from (k ∷ ks) (v ∷ vs) [] goes = absurd goes
goes_from (k ∷ ks) (v ∷ vs) (w ∷ ws) goes =
    subst (λ (o : Ordering). is_lt (ordering_then (key_cmp k v w) o) ≡ true) (sym (shifted ks 0 v w vs ws)) (by goes (goes_from ks vs ws))
  where
    first : (o : Ordering) → Says k v w o → GoesFirst k v w → key_cmp k v w ≡ o → is_lt (ordering_then o (keys_cmp ks 0 vs ws)) ≡ true
    first Less says g e = refl
    first Equal says g e = absurd (unlike g)
      where
        unlike : GoesFirst k v w → ⊥
        unlike (null_first is n other) = other (subst IsNull says n)
        unlike (null_last is other n) = other (subst IsNull (sym says) n)
        unlike (by_value p q h) = unequal k.descending h
          where
            unequal : (d : Bool) → IsOrdered d v w → ⊥
            unequal true h = let tie = subst (λ (u : Value). value_cmp w u ≡ Less) says h in let same = tied_itself value_cmp_total w in cc
            unequal false h = let tie = subst (λ (u : Value). value_cmp u w ≡ Less) says h in let same = tied_itself value_cmp_total w in cc
    first Greater says g e = absurd (says g)

    by : GoesFirst k v w ⊎ ((v ≡ w) × GoesBefore ks vs ws) → (GoesBefore ks vs ws → is_lt (keys_cmp ks 0 vs ws) ≡ true)
        → is_lt (ordering_then (key_cmp k v w) (keys_cmp ks 0 vs ws)) ≡ true
    by (inl g) later = first (key_cmp k v w) (key_says k v w) g refl
    by (inr (same, more)) later =
        let tied : key_cmp k v w ≡ Equal = ap (key_cmp k v) (sym same) ∙ tied_itself (key_total k) v in
        ap (λ (o : Ordering). is_lt (ordering_then o (keys_cmp ks 0 vs ws))) tied ∙ later more

-- ---- keys over rows

abbrev Comes : {A B : Type 0} → (A → Computed B) → A → Type 0
Comes {B = B} f x = (v : B) × (f x ≡ Is v)

then_is : {A B : Type 0} (c : Computed A) (f : A → Computed B) (y : B) → and_then c f ≡ Is y → (x : A) × (c ≡ Is x) × (f x ≡ Is y)
then_is (Is x) f y e = (x, refl, e)
then_is Overflow f y e = absurd (cc)

each_comes : {A B : Type 0} (f : A → Computed B) (xs : List A) (ys : List B) → each f xs ≡ Is ys → All (Comes f) xs
each_comes f [] ys is = All-nil (Comes f)
each_comes f (x ∷ xs) ys is =
    let one = then_is (f x) (λ k. and_then (each f xs) (λ ks. Is (k ∷ ks))) ys is in
    let more = then_is (each f xs) (λ ks. Is (one.0 ∷ ks)) ys one.2 in
    All-cons (Comes f) x xs (one.0, one.1) (each_comes f xs more.0 more.1)

each_from : {A B : Type 0} (f : A → Computed B) (xs : List A) → All (Comes f) xs → (ys : List B) × (each f xs ≡ Is ys)
each_from f [] all = ([], refl)
each_from f (x ∷ xs) all =
    let one = All-head (Comes f) x xs all in
    let more = each_from f xs (All-tail (Comes f) x xs all) in (
      one.0 ∷ more.0,
      (λ i. and_then (one.1 i) (λ k. and_then (each f xs) (λ ks. Is (k ∷ ks)))) ∙ (λ i. and_then (more.1 i) (λ ks. Is (one.0 ∷ ks))),
    )

wide_values : (ms : List Meaning) (s : Surroundings) (r vs : Row) → values ms s r ≡ Is vs → HasWidth (length ms) vs
wide_values [] s r vs e = let is : vs ≡ [] = cc in ap length is
wide_values (m ∷ ms) s r vs e =
    let one = then_is (m s r) (λ v. and_then (values ms s r) (λ us. Is (v ∷ us))) vs e in
    let more = then_is (values ms s r) (λ us. Is (one.0 ∷ us)) vs one.2 in
    let is : vs ≡ one.0 ∷ more.0 = let last = more.2 in cc in
    ap length is ∙ ap suc (wide_values ms s r more.0 more.1)

keys_wide : (ks : List Sorting) (s : Surroundings) (r vs : Row) → keys_at ks s r ≡ Is vs → HasWidth (length ks) vs
keys_wide ks s r vs e =
    let wide = wide_values (map meaning (map key_term ks)) s r vs e in
    wide ∙ length-map (map key_term ks) meaning ∙ length-map ks key_term

module _ (ks : List Sorting) (s : Surroundings) where
  abbrev pair : Row → Keyed
  pair r = (computed_row (keys_at ks s r), r)

  paired : (r : Row) → Comes (keys_at ks s) r → IsKeyed ks s (pair r)
  paired r (v, is) = is ∙ ap (λ (c : Computed Row). Is (computed_row c)) (sym is)

  rows_of_pairs : (rows : List Row) → map row_of (map pair rows) ≡ rows
  rows_of_pairs [] = refl
  rows_of_pairs (r ∷ rows) = ap (λ (l : List Row). r ∷ l) (rows_of_pairs rows)

  weak : IsStrictWeakOrder (goes_before ks s)
  weak = ranks_by (keys_total ks 0) (λ (r : Row). computed_row (keys_at ks s r))

  -- ---- from the definition

  up_to : (out : List Row) → IsSortedBy (goes_before ks s) out → AllPairs (MayPrecede ks) (map pair out)
  up_to out up i j d before within goes =
      let many = length-map out pair in
      let inside : j < length out = omega (arith, within, many) in
      let earlier : i < length out = omega (arith, inside, before) in
      let low : i ≤ j = omega (arith, before) in
      let first = get_or-map pair out i (row_of d) d earlier in
      let second = get_or-map pair out j (row_of d) d inside in
      let less : goes_before ks s (get_or out j (row_of d)) (get_or out i (row_of d)) ≡ true =
      goes_from ks (keys_of (pair (get_or out j (row_of d)))) (keys_of (pair (get_or out i (row_of d))))
      (subst (λ (p : Keyed). GoesBefore ks (keys_of (pair (get_or out j (row_of d)))) (keys_of p)) first (subst (λ (q : Keyed). GoesBefore ks (keys_of q) (keys_of (get_or (map pair out) i d))) second goes)) in
      let not_less = sorted_far (goes_before ks s) weak out up i j (row_of d) low inside in
      cc

  pub order_from : (rows out : List Row) → Sorted ks s rows (Is out) → IsInKeyOrder ks s rows out
  order_from rows out (keys, keyed, same, up) =
      let back = Same-sym out rows same in
      let comes = All-Same (Comes (keys_at ks s)) rows out back (each_comes (keys_at ks s) rows keys keyed) in
      record {
        moved = IsPermutation-from_Same rows out back;
        pairs = map pair out;
        are = rows_of_pairs out;
        keyed = All-map (IsKeyed ks s) pair out (All-weaker (Comes (keys_at ks s)) (λ (r : Row). IsKeyed ks s (pair r)) paired out comes);
        up = up_to out up;
      }

  -- ---- to the definition

  keyed_rows : (pairs : List Keyed) → All (IsKeyed ks s) pairs → All (Comes (keys_at ks s)) (map row_of pairs)
  keyed_rows pairs keyed = All-map (Comes (keys_at ks s)) row_of pairs (All-weaker (IsKeyed ks s) (λ (p : Keyed). Comes (keys_at ks s) (row_of p)) (λ p is. (keys_of p, is)) pairs keyed)

  up_from : (pairs : List Keyed) → All (IsKeyed ks s) pairs → AllPairs (MayPrecede ks) pairs → IsSortedBy (goes_before ks s) (map row_of pairs)
  up_from pairs keyed up k d low within =
      let many = length-map pairs row_of in
      let inside : k + 1 < length pairs = omega (arith, within, many) in
      let earlier : k < length pairs = omega (arith, inside) in
      let e : Keyed = ([], d) in
      let p = get_or pairs k e in
      let q = get_or pairs (k + 1) e in
      let first = get_or-map row_of pairs k e d earlier in
      let second = get_or-map row_of pairs (k + 1) e d inside in
      let p_keyed : IsKeyed ks s p = keyed k e earlier in
      let q_keyed : IsKeyed ks s q = keyed (k + 1) e inside in
      let less : k < k + 1 = omega arith in
      subst (λ (r : Row). goes_before ks s (get_or (map row_of pairs) (k + 1) d) r ≡ false) (sym first)
      (subst (λ (r : Row). goes_before ks s r (row_of p) ≡ false) (sym second)
      (apart p q p_keyed q_keyed (up k (k + 1) e less inside)))
    where
      apart : (p q : Keyed) → IsKeyed ks s p → IsKeyed ks s q → MayPrecede ks p q → goes_before ks s (row_of q) (row_of p) ≡ false
      apart p q p_keyed q_keyed may =
          let is : goes_before ks s (row_of q) (row_of p) ≡ is_lt (keys_cmp ks 0 (keys_of q) (keys_of p)) =
          ap (λ (c : Computed Row). is_lt (keys_cmp ks 0 (computed_row c) (computed_row (keys_at ks s (row_of p))))) q_keyed
          ∙ ap (λ (c : Computed Row). is_lt (keys_cmp ks 0 (keys_of q) (computed_row c))) p_keyed in
          is ∙ by (is_lt (keys_cmp ks 0 (keys_of q) (keys_of p))) refl
        where
          by : (b : Bool) → is_lt (keys_cmp ks 0 (keys_of q) (keys_of p)) ≡ b → b ≡ false
          by true e = absurd (may (goes_to ks (keys_of q) (keys_of p) (keys_wide ks s (row_of q) (keys_of q) q_keyed) (keys_wide ks s (row_of p) (keys_of p) p_keyed) e))
          by false e = refl

  pub order_to : (rows out : List Row) → IsInKeyOrder ks s rows out → Sorted ks s rows (Is out)
  order_to rows out is =
      let same : Same rows out = Same-from_permutation rows out is.moved in
      let comes = subst (All (Comes (keys_at ks s))) is.are (keyed_rows is.pairs is.keyed) in
      let keys = each_from (keys_at ks s) rows (All-Same (Comes (keys_at ks s)) out rows (Same-sym rows out same) comes) in
      (keys.0, keys.1, Same-sym rows out same, subst (IsSortedBy (goes_before ks s)) is.are (up_from is.pairs is.keyed is.up))

-- ---- the first rows

pub top_from : (n : ℕ) (k : Sorting) (s : Surroundings) (rows few : List Row) → Topped n k s rows (Is few) → IsFirst n k s rows few
top_from n k s rows few (out, sorted, is) = (out, order_from (k ∷ []) s rows out sorted, is)

pub top_to : (n : ℕ) (k : Sorting) (s : Surroundings) (rows few : List Row) → IsFirst n k s rows few → Topped n k s rows (Is few)
top_to n k s rows few (out, ordered, is) = (out, order_to (k ∷ []) s rows out ordered, is)
