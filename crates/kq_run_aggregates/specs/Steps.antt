-- How one row more, and what is kept of other rows, come to what is kept.
use Rattle.std.specs.Prelude.{◌≡◌, ◌≢◌, ◌<◌, ◌≤◌, ◌^◌, ℕ, ◌+◌, pos, unsigned_abs, Bool, true, nat_lt, List, [], ◌∷◌, ◌++◌, length, take, get_or, nat_eq, if◌then◌else◌, Option, Some, None, Result}
use Rattle.std.specs.declared.cmp.Ordering.{Ordering}
use Rattle.std.specs.Ordering.{is_gt}
use Rattle.indexmap.specs.IndexSet.{insert_key}
use Rattle.kq_value.specs.Computed.{Is, and_then, AnswersAs}
use Rattle.kq_value.specs.declared.fault.EvalFault.{EvalFault}
use Rattle.kq_value.specs.Typed.{is_null}
use Rattle.kq_value.specs.Values.{is_same}
use Rattle.kq_value.specs.declared.ty.Ty.{Ty}
use Rattle.kq_value.specs.declared.value.Value.{Value}
use Rattle.kq_run_aggregates.specs.Holds.{Kept, counted, summed, extreme, chosen, collected, Holds, IsSetOf, is_element, finished}
use Rattle.kq_run_aggregates.specs.Ranks.{side_cmp}
use Rattle.kq_run_aggregates.specs.declared.kind.Kind.{Kind}
use Rattle.kq_run_aggregates.specs.declared.kind.Kind.TheVariants as kind
use Rattle.kq_run_aggregates.specs.declared.kind.Side.{Side}

-- ---- what is taken of several

-- whether a new one takes the place of what was kept
abbrev pub replaces : {X : Type 0} → (X → X → Ordering) → Option X → X → Bool
replaces cmp None y = true
replaces cmp (Some x) y = is_gt (cmp y x)

abbrev pub with_one : {X : Type 0} → (X → X → Ordering) → Option X → X → Option X
with_one cmp o y = if replaces cmp o y then Some y else o

abbrev pub with_any : {X : Type 0} → (X → X → Ordering) → Option X → Option X → Option X
with_any cmp o None = o
with_any cmp o (Some y) = with_one cmp o y

-- a null is passed over
abbrev pub with_present : Side → Option Value → Value → Option Value
with_present s o v = if is_null v then o else with_one (side_cmp s) o v

-- ---- sets

-- with one value more, if there is room
abbrev pub with_value : ℕ → List Value → Value → List Value
with_value n set v = if nat_lt (length set) n then insert_key is_same set v else set

abbrev pub with_element : ℕ → List Value → Value → List Value
with_element n set v = if is_element v then with_value n set v else set

-- both stand for different ones of some values, and the last for those of both
pub record Unites (n : ℕ) (old other new : List Value) : Type 0 where
  pub more : (vs ws : List Value) → IsSetOf n vs old → IsSetOf n ws other → IsSetOf n (vs ++ ws) new

-- ---- all aggregates

-- what is kept of no rows
abbrev pub none_kept : Kind → Kept
none_kept kind.Count = counted 0
none_kept kind.Sum = summed (pos 0)
none_kept kind.Min = extreme None
none_kept kind.Max = extreme None
none_kept kind.ArgMax = chosen None
none_kept kind.ArgMin = chosen None
none_kept kind.TakeAny = chosen None
none_kept (kind.MakeSet n) = collected []

-- what was kept of some rows becomes what is kept of them and this one
pub record Steps (k : Kind) (args : List Value) (old new : Kept) : Type 0 where
  pub more : (rows : List (List Value)) → Holds k rows old → Holds k (rows ++ args ∷ []) new

-- and of others, which come after them
pub record Joins (k : Kind) (other old new : Kept) : Type 0 where
  pub more : (rows others : List (List Value)) → Holds k rows old → Holds k others other → Holds k (rows ++ others) new

-- ---- refusals

-- whether one row more may be refused: to a number only where it is as great as this, and to others where memory is short
abbrev pub MayRefuse : Kept → Type 0
MayRefuse (counted n) = 2 ^ 63 ≤ n + 1
MayRefuse (summed z) = 2 ^ 126 ≤ unsigned_abs z
MayRefuse kept = Unit {0}

-- the same of what is kept of others
abbrev pub MayRefuseBoth : Kept → Kept → Type 0
MayRefuseBoth (counted n) (counted m) = 2 ^ 63 ≤ n + m
MayRefuseBoth (summed z) (summed y) = 2 ^ 127 ≤ unsigned_abs z + unsigned_abs y
MayRefuseBoth kept other = Unit {0}

-- ---- all groups by their numbers

-- what is kept of a group
abbrev pub kept_at : List Kept → ℕ → Kept
kept_at kept g = get_or kept g (counted 0)

-- that of one group changes so, and nothing else
pub record ChangesAt (g : ℕ) (R : Kept → Kept → Type 0) (olds news : List Kept) : Type 0 where
  pub changes : R (kept_at olds g) (kept_at news g)
  pub others : (h : ℕ) → h ≢ g → kept_at news h ≡ kept_at olds h
  pub count : length news ≡ length olds

-- one more group comes last, of no rows yet
pub record Grows (k : Kind) (olds news : List Kept) : Type 0 where
  pub fresh : Holds k [] (kept_at news (length olds))
  pub others : (h : ℕ) → h < length olds → kept_at news h ≡ kept_at olds h
  pub count : length news ≡ length olds + 1

-- the rows whose group is this one, in order
abbrev pub of_group : ℕ → List ℕ → List (List Value) → List (List Value)
of_group g [] rows = []
of_group g (h ∷ hs) [] = []
of_group g (h ∷ hs) (r ∷ rows) = if nat_eq g h then r ∷ of_group g hs rows else of_group g hs rows

-- each group has its rows too
pub record TakesIn (k : Kind) (groups : List ℕ) (rows : List (List Value)) (olds news : List Kept) : Type 0 where
  pub more : (g : ℕ) (before : List (List Value)) → g < length olds → Holds k before (kept_at olds g) → Holds k (before ++ of_group g groups rows) (kept_at news g)
  pub count : length news ≡ length olds

-- each group has those of its rows that come before one that was refused
pub record TakesInUpTo (k : Kind) (groups : List ℕ) (rows : List (List Value)) (olds news : List Kept) : Type 0 where
  pub row : ℕ
  pub within : row < length groups
  pub before : TakesIn k (take row groups) (take row rows) olds news
  pub refused : MayRefuse (kept_at news (get_or groups row 0))

-- each group has those of its rows that come before one of the rows
pub record TakesSome (k : Kind) (groups : List ℕ) (rows : List (List Value)) (olds news : List Kept) : Type 0 where
  pub row : ℕ
  pub within : row < length groups
  pub before : TakesIn k (take row groups) (take row rows) olds news

-- the cells of what is kept come after those that are there, or it ends in an overflow
abbrev pub PutsFinished : List Ty → Kept → List Value → List Value → Result (Unit {0}) EvalFault → Type 0
PutsFinished types kept before after = AnswersAs (λ done. after) (and_then (finished types kept) (λ cells. Is (before ++ cells)))

-- the same of what ends in no overflow
abbrev pub PutsCells : List Ty → Kept → List Value → List Value → Type 0
PutsCells types kept before after = and_then (finished types kept) (λ cells. Is (before ++ cells)) ≡ Is after
