-- One row more, and what is kept of others, for each aggregate.
use Rattle.std.proofs.Common.{◌≡◌, ℕ, ◌+◌, ℤ, ◌+ℤ◌, Bool, true, false, cond, not, List, [], ◌∷◌, ◌++◌, Option, refl, ap, ◌∙◌, subst, arith, append-nil, length-append}
use Rattle.std.proofs.lemmas.List.{map-append}
use Rattle.std.proofs.lemmas.Int.{ints}
use Rattle.std.proofs.lemmas.List.Elements.{filter-append}
use Rattle.kq_value.specs.Typed.{is_null}
use Rattle.kq_value.specs.declared.value.Value.{Value}
use Rattle.kq_run_aggregates.specs.Alone.{alone, cell_as}
use Rattle.kq_run_aggregates.specs.declared.reading.Reading.{Reading}
use Rattle.kq_run_aggregates.specs.declared.reading.Reading.TheVariants as reading
use Rattle.kq_run_aggregates.specs.Holds.{counted, summed, extreme, chosen, collected, Holds, IsSetOf, amount, total, firsts, present, is_present, elements, is_element}
use Rattle.kq_run_aggregates.specs.Ranks.{first_of, side_cmp, choice_cmp, IsLast}
use Rattle.kq_run_aggregates.specs.Steps.{Steps, Joins, with_one, with_any, with_present, with_value, with_element, Unites}
use Rattle.kq_run_aggregates.specs.Tables.{side_kind, choice_kind}
use Rattle.kq_run_aggregates.specs.declared.kind.Kind.TheVariants as kind
use Rattle.kq_run_aggregates.specs.declared.kind.Side.{Side}
use Rattle.kq_run_aggregates.specs.declared.kind.Side.TheVariants as side
use Rattle.kq_run_aggregates.specs.declared.kind.Choice.{Choice}
use Rattle.kq_run_aggregates.specs.declared.kind.Choice.TheVariants as choice
use Rattle.kq_run_aggregates.proofs.Chosen.{IsTakenBy-from_last, last_from_IsTakenBy, IsAnyOf-from_last, last_from_IsAnyOf}
use Rattle.kq_run_aggregates.proofs.Lasts.{side_total, choice_total, IsLast-with_any, IsLast-with_one}
use Rattle.kq_run_aggregates.proofs.Sets.{IsSetOf-with_value}

abbrev pub Rows : Type 0
Rows = List (List Value)

-- ---- counts and sums

pub Steps-count : (n : ℕ) (args : List Value) → Steps kind.Count args (counted n) (counted (n + 1))
Steps-count n args = record { more = λ rows h. omega (arith, length-append rows (args ∷ [])) }

pub Joins-count : (n m : ℕ) → Joins kind.Count (counted m) (counted n) (counted (n + m))
Joins-count n m = record { more = λ rows others h k. omega (arith, length-append rows others) }

pub total-append : (a b : List Value) → total (a ++ b) ≡ total a +ℤ total b
total-append [] b = omega (arith, ints)
total-append (v ∷ a) b = omega (arith, ints, total-append a b)

total-firsts : (rows others : Rows) → total (firsts (rows ++ others)) ≡ total (firsts rows) +ℤ total (firsts others)
total-firsts rows others = ap total (map-append first_of rows others) ∙ total-append (firsts rows) (firsts others)

pub Steps-sum : (z : ℤ) (v : Value) (args : List Value) → v ≡ first_of args → Steps kind.Sum args (summed z) (summed (z +ℤ amount v))
Steps-sum z v args first = rw first record { more = λ rows h. let e = total-firsts rows (args ∷ []) in omega (arith, ints) }

amount_as : (r : Reading) (z : ℤ) → amount (cell_as r z) ≡ z
amount_as reading.Long z = refl
amount_as reading.Moment z = refl
amount_as reading.Span z = refl

pub Steps-number : (r : Reading) (y z : ℤ) → Steps kind.Sum (alone (cell_as r z)) (summed y) (summed (y +ℤ z))
Steps-number r y z = subst (λ (n : ℤ). Steps kind.Sum (alone (cell_as r z)) (summed y) (summed (y +ℤ n))) (amount_as r z) (Steps-sum y (cell_as r z) (alone (cell_as r z)) refl)

pub Joins-sum : (z y : ℤ) → Joins kind.Sum (summed y) (summed z) (summed (z +ℤ y))
Joins-sum z y = record { more = λ rows others h k. let e = total-firsts rows others in omega (arith, ints) }

-- ---- the least and the greatest

present-append : (rows others : Rows) → present (firsts (rows ++ others)) ≡ present (firsts rows) ++ present (firsts others)
present-append rows others = ap present (map-append first_of rows others) ∙ filter-append is_present (firsts rows) (firsts others)

extreme_last : (s : Side) (rows : Rows) (o : Option Value) → Holds (side_kind s) rows (extreme o) → IsLast (side_cmp s) (present (firsts rows)) o
extreme_last side.Least rows o h = h
extreme_last side.Greatest rows o h = h

last_extreme : (s : Side) (rows : Rows) (o : Option Value) → IsLast (side_cmp s) (present (firsts rows)) o → Holds (side_kind s) rows (extreme o)
last_extreme side.Least rows o h = h
last_extreme side.Greatest rows o h = h

one_present : (s : Side) (xs : List Value) (o : Option Value) (v : Value) (b : Bool) → IsLast (side_cmp s) xs o
    → IsLast (side_cmp s) (xs ++ cond (not b) (v ∷ []) []) (cond b o (with_one (side_cmp s) o v))
one_present s xs o v true h = rw append-nil h
one_present s xs o v false h = IsLast-with_one (side_total s) xs o v h

pub Steps-extreme : (s : Side) (o : Option Value) (v : Value) (args : List Value) → v ≡ first_of args → Steps (side_kind s) args (extreme o) (extreme (with_present s o v))
Steps-extreme s o v args first = rw first record {
  more = λ rows h. last_extreme s (rows ++ args ∷ []) _
      (rw (present-append rows (args ∷ [])) (one_present s (present (firsts rows)) o (first_of args) (is_null (first_of args)) (extreme_last s rows o h)));
}

pub Joins-extreme : (s : Side) (o p : Option Value) → Joins (side_kind s) (extreme p) (extreme o) (extreme (with_any (side_cmp s) o p))
Joins-extreme s o p = record {
  more = λ rows others h k. last_extreme s (rows ++ others) _
      (rw (present-append rows others) (IsLast-with_any (side_total s) _ _ o p (extreme_last s rows o h) (extreme_last s others p k)));
}

pub Steps-offered : (s : Side) (o : Option Value) (v : Value) → Steps (side_kind s) (alone v) (extreme o) (extreme (with_present s o v))
Steps-offered s o v = Steps-extreme s o v (alone v) refl

-- ---- rows

chosen_last : (c : Choice) (rows : Rows) (o : Option (List Value)) → Holds (choice_kind c) rows (chosen o) → IsLast (choice_cmp c) rows o
chosen_last (choice.By side.Least) rows o h = last_from_IsTakenBy side.Least rows o h
chosen_last (choice.By side.Greatest) rows o h = last_from_IsTakenBy side.Greatest rows o h
chosen_last choice.Any rows o h = last_from_IsAnyOf rows o h

last_chosen : (c : Choice) (rows : Rows) (o : Option (List Value)) → IsLast (choice_cmp c) rows o → Holds (choice_kind c) rows (chosen o)
last_chosen (choice.By side.Least) rows o h = IsTakenBy-from_last side.Least rows o h
last_chosen (choice.By side.Greatest) rows o h = IsTakenBy-from_last side.Greatest rows o h
last_chosen choice.Any rows o h = IsAnyOf-from_last rows o h

pub Steps-chosen : (c : Choice) (o : Option (List Value)) (args : List Value) → Steps (choice_kind c) args (chosen o) (chosen (with_one (choice_cmp c) o args))
Steps-chosen c o args = record { more = λ rows h. last_chosen c (rows ++ args ∷ []) _ (IsLast-with_one (choice_total c) rows o args (chosen_last c rows o h)) }

pub Joins-chosen : (c : Choice) (o p : Option (List Value)) → Joins (choice_kind c) (chosen p) (chosen o) (chosen (with_any (choice_cmp c) o p))
Joins-chosen c o p = record { more = λ rows others h k. last_chosen c (rows ++ others) _ (IsLast-with_any (choice_total c) rows others o p (chosen_last c rows o h) (chosen_last c others p k)) }

-- ---- sets

elements-append : (rows others : Rows) → elements (firsts (rows ++ others)) ≡ elements (firsts rows) ++ elements (firsts others)
elements-append rows others = ap elements (map-append first_of rows others) ∙ filter-append is_element (firsts rows) (firsts others)

one_element : (n : ℕ) (xs set : List Value) (v : Value) (b : Bool) → IsSetOf n xs set → IsSetOf n (xs ++ cond b (v ∷ []) []) (cond b (with_value n set v) set)
one_element n xs set v true h = IsSetOf-with_value n xs v set h
one_element n xs set v false h = rw append-nil h

pub Steps-set : (n : ℕ) (set : List Value) (v : Value) (args : List Value) → v ≡ first_of args → Steps (kind.MakeSet n) args (collected set) (collected (with_element n set v))
Steps-set n set v args first = rw first record {
  more = λ rows h. rw (elements-append rows (args ∷ [])) (one_element n (elements (firsts rows)) set (first_of args) (is_element (first_of args)) h);
}

pub Joins-set : (n : ℕ) (old other new : List Value) → Unites n old other new → Joins (kind.MakeSet n) (collected other) (collected old) (collected new)
Joins-set n old other new u = record { more = λ rows others h k. rw (elements-append rows others) (u.more _ _ h k) }
