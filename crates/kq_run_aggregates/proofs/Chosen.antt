-- The row that is taken comes last in the order of the rows.
use Rattle.std.proofs.Common.{◌≡◌, Bool, true, false, cond, not, List, [], ◌∷◌, Option, Some, None, refl}
use Rattle.std.specs.declared.cmp.Ordering.{Ordering}
use Rattle.std.specs.Option.{option_cmp}
use Rattle.std.specs.Ordering.{is_gt, bool_cmp}
use Rattle.std.specs.List.{All, Contains}
use Rattle.std.proofs.lemmas.List.Elements.{All-nil, All-cons, All-head, All-tail, All-weaker, All-contains, All-contains_itself, Contains-append_right, Contains-append_left, Contains-push}
use Rattle.kq_value.specs.Typed.{is_null}
use Rattle.kq_value.specs.declared.value.Value.{Value}
use Rattle.kq_run_aggregates.specs.Holds.{firsts, present, IsTakenBy, IsAnyOf}
use Rattle.kq_run_aggregates.specs.Ranks.{first_of, side_cmp, key_of, is_hollow, choice_cmp, IsLast}
use Rattle.kq_run_aggregates.specs.declared.kind.Side.{Side}
use Rattle.kq_run_aggregates.specs.declared.kind.Choice.TheVariants as choice

abbrev pub Rows : Type 0
Rows = List (List Value)

-- ---- by a key

module _ (cmp : Value → Value → Ordering) where
  -- a row's key, as far as its first argument and whether that is null say it
  abbrev key : Bool → Value → Option Value
  key b v = cond b None (Some v)

  abbrev kept : Bool → Value → List Value → List Value
  kept b v vs = cond (not b) (v ∷ vs) vs

  -- the row with key k comes after one with key o, or beside it
  abbrev Upto : Option Value → Option Value → Type 0
  Upto k o = is_gt (option_cmp cmp o k) ≡ false

  abbrev UptoValue : Value → Value → Type 0
  UptoValue k v = is_gt (cmp v k) ≡ false

  null_more : (b : Bool) (v : Value) (vs : List Value) → Upto None (key b v) → vs ≡ [] → kept b v vs ≡ []
  null_more true v vs h e = e
  null_more false v vs h e = absurd cc

  no_keys : (rows : Rows) → All (λ row. Upto None (key_of row)) rows → present (firsts rows) ≡ []
  no_keys [] h = refl
  no_keys (r ∷ rows) h = null_more (is_null (first_of r)) (first_of r) (present (firsts rows))
      (All-head (λ row. Upto None (key_of row)) r rows h)
      (no_keys rows (All-tail (λ row. Upto None (key_of row)) r rows h))

  null_less : (b : Bool) (v : Value) (vs : List Value) → kept b v vs ≡ [] → Upto None (key b v) × (vs ≡ [])
  null_less true v vs e = (refl, e)
  null_less false v vs e = absurd cc

  from_no_keys : (rows : Rows) → present (firsts rows) ≡ [] → All (λ row. Upto None (key_of row)) rows
  from_no_keys [] e = All-nil _
  from_no_keys (r ∷ rows) e =
      let less = null_less (is_null (first_of r)) (first_of r) (present (firsts rows)) e in
      All-cons (λ row. Upto None (key_of row)) r rows less.0 (from_no_keys rows less.1)

  key_more : (k : Value) (b : Bool) (v : Value) (vs : List Value) → Upto (Some k) (key b v) → All (UptoValue k) vs → All (UptoValue k) (kept b v vs)
  key_more k true v vs h all = all
  key_more k false v vs h all = All-cons (UptoValue k) v vs h all

  all_keys : (k : Value) (rows : Rows) → All (λ row. Upto (Some k) (key_of row)) rows → All (UptoValue k) (present (firsts rows))
  all_keys k [] h = All-nil _
  all_keys k (r ∷ rows) h = key_more k (is_null (first_of r)) (first_of r) (present (firsts rows))
      (All-head (λ row. Upto (Some k) (key_of row)) r rows h)
      (all_keys k rows (All-tail (λ row. Upto (Some k) (key_of row)) r rows h))

  key_less : (k : Value) (b : Bool) (v : Value) (vs : List Value) → All (UptoValue k) (kept b v vs) → Upto (Some k) (key b v) × All (UptoValue k) vs
  key_less k true v vs all = (refl, all)
  key_less k false v vs all = (All-head (UptoValue k) v vs all, All-tail (UptoValue k) v vs all)

  from_all_keys : (k : Value) (rows : Rows) → All (UptoValue k) (present (firsts rows)) → All (λ row. Upto (Some k) (key_of row)) rows
  from_all_keys k [] h = All-nil _
  from_all_keys k (r ∷ rows) h =
      let less = key_less k (is_null (first_of r)) (first_of r) (present (firsts rows)) h in
      All-cons (λ row. Upto (Some k) (key_of row)) r rows less.0 (from_all_keys k rows less.1)

  -- ---- a key is among the keys

  abbrev IsKeyed : List Value → List Value → Type 0
  IsKeyed vs row = is_null (first_of row) ≡ false → Contains vs (first_of row)

  more_of : (b : Bool) (v : Value) (vs : List Value) (x : Value) → Contains vs x → Contains (kept b v vs) x
  more_of true v vs x h = h
  more_of false v vs x h = Contains-append_right (v ∷ []) vs x h

  itself : (b : Bool) (v : Value) (vs : List Value) → b ≡ false → Contains (kept b v vs) v
  itself true v vs e = absurd cc
  itself false v vs e = Contains-append_left (v ∷ []) vs v (Contains-push [] v)

  all_keyed : (rows : Rows) → All (IsKeyed (present (firsts rows))) rows
  all_keyed [] = All-nil _
  all_keyed (r ∷ rows) = All-cons (IsKeyed (present (firsts (r ∷ rows)))) r rows
      (λ e. itself (is_null (first_of r)) (first_of r) (present (firsts rows)) e)
      (All-weaker (IsKeyed (present (firsts rows))) (IsKeyed (present (firsts (r ∷ rows))))
      (λ row h e. more_of (is_null (first_of r)) (first_of r) (present (firsts rows)) (first_of row) (h e)) rows (all_keyed rows))

  -- ---- both forms

  last_key : (rows : Rows) (row : List Value) (b : Bool) → is_null (first_of row) ≡ b → Contains rows row
      → All (λ r. Upto (key b (first_of row)) (key_of r)) rows → IsLast cmp (present (firsts rows)) (key b (first_of row))
  last_key rows row true e there h = no_keys rows h
  last_key rows row false e there h = (All-contains (IsKeyed (present (firsts rows))) rows row (all_keyed rows) there e, all_keys (first_of row) rows h)

  key_last : (rows : Rows) (row : List Value) (b : Bool) → IsLast cmp (present (firsts rows)) (key b (first_of row)) → All (λ r. Upto (key b (first_of row)) (key_of r)) rows
  key_last rows row true h = from_no_keys rows h
  key_last rows row false h = from_all_keys (first_of row) rows h.1

pub IsTakenBy-from_last : (s : Side) (rows : Rows) (o : Option (List Value)) → IsLast (choice_cmp (choice.By s)) rows o → IsTakenBy (side_cmp s) rows o
IsTakenBy-from_last s rows None h = h
IsTakenBy-from_last s rows (Some row) h = (h.0, last_key (side_cmp s) rows row (is_null (first_of row)) refl h.0 h.1)

pub last_from_IsTakenBy : (s : Side) (rows : Rows) (o : Option (List Value)) → IsTakenBy (side_cmp s) rows o → IsLast (choice_cmp (choice.By s)) rows o
last_from_IsTakenBy s rows None h = h
last_from_IsTakenBy s rows (Some row) h = (h.0, key_last (side_cmp s) rows row (is_null (first_of row)) h.1)

-- ---- any

hollow_too : (a b : Bool) → is_gt (bool_cmp a b) ≡ false → a ≡ true → b ≡ true
hollow_too true true h e = refl
hollow_too true false h e = absurd cc
hollow_too false b h e = absurd cc

never_before : (b : Bool) → is_gt (bool_cmp false b) ≡ false
never_before true = refl
never_before false = refl

not_before : (rows : Rows) (a : Bool) → (a ≡ true → All (λ r. is_hollow r ≡ true) rows) → All (λ r. is_gt (bool_cmp a (is_hollow r)) ≡ false) rows
not_before rows true all = All-weaker (λ r. is_hollow r ≡ true) (λ r. is_gt (bool_cmp true (is_hollow r)) ≡ false) (λ r e. rw e refl) rows (all refl)
not_before rows false all = All-weaker (Contains rows) (λ r. is_gt (bool_cmp false (is_hollow r)) ≡ false) (λ r e. never_before (is_hollow r)) rows (All-contains_itself rows)

pub IsAnyOf-from_last : (rows : Rows) (o : Option (List Value)) → IsLast (choice_cmp choice.Any) rows o → IsAnyOf rows o
IsAnyOf-from_last rows None h = h
IsAnyOf-from_last rows (Some row) h =
    (h.0, λ e. All-weaker (λ r. is_gt (bool_cmp (is_hollow row) (is_hollow r)) ≡ false) (λ r. is_hollow r ≡ true) (λ r k. hollow_too (is_hollow row) (is_hollow r) k e) rows h.1)

pub last_from_IsAnyOf : (rows : Rows) (o : Option (List Value)) → IsAnyOf rows o → IsLast (choice_cmp choice.Any) rows o
last_from_IsAnyOf rows None h = h
last_from_IsAnyOf rows (Some row) h = (h.0, not_before rows (is_hollow row) h.1)
