-- The columns that arguments stand for are those of their numbers.
use Rattle.std.proofs.Common.{◌≡◌, ◌≢◌, ℕ, zero, suc, ◌+◌, Bool, true, false, ◌&&◌, not, cond, List, [], ◌∷◌, ◌++◌, map, Option, Some, None, refl, sym, ap, ◌∙◌, subst, arith, append_assoc, append-nil, add-zero, zero-add}
use Rattle.std.specs.Prelude.{slice_get}
use Rattle.std.specs.List.{filter}
use Rattle.std.specs.Option.{option_map, option_and_then}
use Rattle.std.proofs.lemmas.List.{map-append}
use Rattle.kq_bind_aggregates.specs.Arguments.{Argued, column_number, unkeyed, is_own, but_own, one_number, argument_columns, all_columns}
use Rattle.kq_bind_columns.specs.Chosen.{if_there, columns_at}
use Rattle.kq_bind_columns.specs.Naming.{is_taken}
use Rattle.kq_plan_expressions.specs.HasType.{IsPlace}
use Rattle.kq_plan_expressions.specs.Terms.{Term, literal, column, cell, call}
use Rattle.kq_plan.specs.Fits.{IsTyped}
use Rattle.kq_value.specs.declared.schema.Field.{Field}
use Rattle.kq_value.specs.declared.ty.Ty.{Ty}
use Rattle.kq_bind_query.proofs.Aggregates.{IsArgued, AreArgued}
use Rattle.kq_bind_laws.specs.Starred.{Placed, number_of, field_of, placed_from, IsColumn, is_number, is_starred, StandsFor, StandFor}

pub some_then : {A B : Type 0} (k : A → Option B) (o : Option A) (y : B) → option_and_then k o ≡ Some y → (x : A) × (o ≡ Some x) × (k x ≡ Some y)
some_then k (Some x) y e = (x, refl, e)
some_then k None y e = absurd (cc)

pub some_is : {A : Type 0} (x y : A) → Some x ≡ Some y → x ≡ y
some_is x y e = cc

pub some_map : {A B : Type 0} (k : A → B) (o : Option A) (y : B) → option_map k o ≡ Some y → (x : A) × (o ≡ Some x) × (k x ≡ y)
some_map k (Some x) y e = (x, refl, (cc))
some_map k None y e = absurd (cc)

-- ---- columns with their numbers

-- each is the column of its number
abbrev pub ArePlaced : List Field → List Placed → Type 0
ArePlaced cs [] = Unit {0}
ArePlaced cs (p ∷ ps) = (slice_get cs (number_of p) ≡ Some (field_of p)) × ArePlaced cs ps

placed_more : (cs : List Field) (ps qs : List Placed) → ArePlaced cs ps → ArePlaced cs qs → ArePlaced cs (ps ++ qs)
placed_more cs [] qs h k = k
placed_more cs (p ∷ ps) qs h k = (h.0, placed_more cs ps qs h.1 k)

all_placed : (every : List Field) (i : ℕ) (cs : List Field) → ((k : ℕ) (c : Field) → slice_get cs k ≡ Some c → slice_get every (k + i) ≡ Some c)
    → ArePlaced every (placed_from i cs)
all_placed every i [] h = tt
all_placed every i (c ∷ cs) h = (here, all_placed every (suc i) cs later) where
  here : slice_get every i ≡ Some c
  here = ap (slice_get every) (sym (zero-add i)) ∙ h 0 c refl

  later : (k : ℕ) (d : Field) → slice_get cs k ≡ Some d → slice_get every (k + suc i) ≡ Some d
  later k d e = let n : k + suc i ≡ suc k + i = omega arith in ap (slice_get every) n ∙ h (suc k) d e

filter_placed : (cs : List Field) (test : Placed → Bool) (ps : List Placed) → ArePlaced cs ps → ArePlaced cs (filter test ps)
filter_placed cs test [] h = tt
filter_placed cs test (p ∷ ps) h = by (test p) (filter_placed cs test ps h.1) where
  by : (b : Bool) → ArePlaced cs (filter test ps) → ArePlaced cs (cond b (p ∷ filter test ps) (filter test ps))
  by true more = (h.0, more)
  by false more = more

pub columns_placed : (cs : List Field) (ps : List Placed) → ArePlaced cs ps → columns_at cs (map number_of ps) ≡ map field_of ps
columns_placed cs [] h = refl
columns_placed cs (p ∷ ps) h =
    ap (λ (o : Option Field). if_there o ++ columns_at cs (map number_of ps)) h.0
    ∙ ap (λ (z : List Field). field_of p ∷ z) (columns_placed cs ps h.1)

-- ---- stars

own_alike : (own : Option ℕ) (i : ℕ) → is_own own i ≡ is_number own i
own_alike (Some k) i = refl
own_alike None i = refl

star_numbers : (keys : List Field) (own : Option ℕ) (i : ℕ) (cs : List Field)
    → but_own own (unkeyed i cs keys) ≡ map number_of (filter (is_starred keys own) (placed_from i cs))
star_numbers keys own i [] = refl
star_numbers keys own i (c ∷ cs) = by (is_taken keys c.name) (star_numbers keys own (suc i) cs) where
  rest : List ℕ
  rest = unkeyed (suc i) cs keys

  left : List Placed
  left = filter (is_starred keys own) (placed_from (suc i) cs)

  inner : (b : Bool) → but_own own rest ≡ map number_of left → cond b (i ∷ but_own own rest) (but_own own rest) ≡ map number_of (cond b ((i, c) ∷ left) left)
  inner true more = ap (λ (z : List ℕ). i ∷ z) more
  inner false more = more

  by : (b : Bool) → but_own own rest ≡ map number_of left
      → but_own own (cond b rest (i ∷ rest)) ≡ map number_of (cond (not b && not (is_number own i)) ((i, c) ∷ left) left)
  by true more = more
  by false more =
      ap (λ b. cond (not b) (i ∷ but_own own rest) (but_own own rest)) (own_alike own i)
      ∙ inner (not (is_number own i)) more

-- ---- arguments

place_there : (cs : List Field) (i : ℕ) (t : Ty) → IsPlace cs i t → (c : Field) × (slice_get cs i ≡ Some c)
place_there [] i t h = absurd h
place_there (c ∷ cs) zero t h = (c, refl)
place_there (c ∷ cs) (suc i) t h = place_there cs i t h

number_is : (e : Term) (i : ℕ) → column_number e ≡ Some i → e ≡ column i
number_is (column j) i e = let one : j ≡ i = cc in ap (λ k. column k) one
number_is (literal v) i e = absurd (cc)
number_is (cell j) i e = absurd (cc)
number_is (call f es) i e = absurd (cc)

no_number : (e : Term) → column_number e ≡ None → (i : ℕ) → e ≢ column i
no_number (column j) e i is = absurd (cc)
no_number (literal v) e i is = absurd (cc)
no_number (cell j) e i is = absurd (cc)
no_number (call f es) e i is = absurd (cc)

pub own_column : (e : Term) → IsColumn e (column_number e)
own_column (column i) = refl
own_column (literal v) = no_number (literal v) refl
own_column (cell i) = no_number (cell i) refl
own_column (call f es) = no_number (call f es) refl

-- what an argument stands for, by its numbers
pub record Standing (cs keys : List Field) (own : Option ℕ) (a : Argued) (is : List ℕ) : Type 0 where
  pub picked : List Placed
  pub stands : StandsFor cs keys own a picked
  pub there : ArePlaced cs picked
  pub numbers : is ≡ map number_of picked

one_stands : (lets cs keys : List Field) (own : Option ℕ) (a : Argued) (is : List ℕ) → IsArgued lets cs a
    → argument_columns (unkeyed 0 cs keys) own a ≡ Some is → Standing cs keys own a is
one_stands lets cs keys own None is h e =
    let picked = filter (is_starred keys own) (placed_from 0 cs) in
    let placed = all_placed cs 0 cs (λ k c there. ap (slice_get cs) (add-zero k) ∙ there) in
    record {
      picked = picked;
      stands = refl;
      there = filter_placed cs (is_starred keys own) (placed_from 0 cs) placed;
      numbers = sym (some_is (but_own own (unkeyed 0 cs keys)) is e) ∙ star_numbers keys own 0 cs;
    }
one_stands lets cs keys own (Some x) is h e =
    let i = some_map one_number (column_number x.0) is e in
    let so = number_is x.0 i.0 i.1 in
    let typed : IsTyped lets cs (column i.0) x.1 = subst (λ (z : Term). IsTyped lets cs z x.1) so h in
    let c = place_there cs i.0 x.1 typed.0 in
    let p : Placed = (i.0, c.0) in
    record { picked = p ∷ []; stands = (p, so, c.1, refl); there = (c.1, tt); numbers = sym i.2 }

-- what several stand for, behind these numbers
pub record AllStanding (cs keys : List Field) (own : Option ℕ) (past : List ℕ) (more : List Argued) (is : List ℕ) : Type 0 where
  pub picked : List Placed
  pub stand : StandFor cs keys own more picked
  pub there : ArePlaced cs picked
  pub numbers : is ≡ past ++ map number_of picked

pub all_stand : (lets cs keys : List Field) (own : Option ℕ) (past : List ℕ) (more : List Argued) (is : List ℕ) → AreArgued lets cs more
    → all_columns (unkeyed 0 cs keys) own past more ≡ Some is → AllStanding cs keys own past more is
all_stand lets cs keys own past [] is h e =
    record { picked = []; stand = refl; there = tt; numbers = sym (some_is past is e) ∙ sym (append-nil past) }
all_stand lets cs keys own past (a ∷ more) is h e =
    let js = some_then (λ js. all_columns (unkeyed 0 cs keys) own (past ++ js) more) (argument_columns (unkeyed 0 cs keys) own a) is e in
    let one = one_stands lets cs keys own a js.0 h.0 js.1 in
    let rest = all_stand lets cs keys own (past ++ js.0) more is h.1 js.2 in
    record {
      picked = one.picked ++ rest.picked;
      stand = (one.picked, rest.picked, one.stands, rest.stand, refl);
      there = placed_more cs one.picked rest.picked one.there rest.there;
      numbers = rest.numbers ∙ append_assoc past js.0 (map number_of rest.picked)
          ∙ ap (λ (z : List ℕ). past ++ (z ++ map number_of rest.picked)) one.numbers
          ∙ ap (λ (z : List ℕ). past ++ z) (sym (map-append number_of one.picked rest.picked));
    }
