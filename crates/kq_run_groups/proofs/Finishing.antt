-- The rows of groups.
use Rattle.std.proofs.Common.{◌≡◌, ◌<◌, ◌+◌, ℕ, zero, suc, Bool, true, false, cond, List, [], ◌∷◌, ◌++◌, length, map, drop, get_or, Option, Some, None, Result, Ok, Err, refl, sym, ap, ◌∙◌, subst, arith, append_assoc, length-append}
use Rattle.std.specs.List.{All, Contains}
use Rattle.std.proofs.lemmas.List.{length-map, drop_more}
use Rattle.std.proofs.lemmas.List.Elements.{All-contains}
use Rattle.kq_run_aggregates.specs.Holds.{Kept, counted, summed, extreme, chosen, collected, Holds, finished, sum_in}
use Rattle.kq_run_aggregates.specs.Steps.{kept_at}
use Rattle.kq_run_aggregates.specs.Tables.{Numbered}
use Rattle.kq_run_aggregates.specs.declared.kind.Kind.{Kind}
use Rattle.kq_run_aggregates.specs.declared.kind.Kind.TheVariants as kind
use Rattle.kq_value.specs.Computed.{Computed, Is, Overflow, and_then, Answers, AnswersAs}
use Rattle.kq_value.specs.declared.fault.EvalFault.{EvalFault}
use Rattle.kq_value.specs.declared.fault.EvalFault.TheVariants as fault
use Rattle.kq_store_rows.specs.Chunks.{HasWidth, row_at}
use Rattle.kq_value.specs.Typed.{missing_of}
use Rattle.kq_value.specs.declared.ty.Ty.{Ty}
use Rattle.kq_value.specs.declared.value.Value.{Value}
use Rattle.kq_value.specs.Values.{is_same_row}
use Rattle.kq_run_groups.specs.Grouped.{AggregateShape, Cells, FitArgs, FitsArgs, GroupRows, Grouped, IsGrouped, args_of}
use Rattle.kq_run_groups.specs.Groups.{Grouping, shape_of, nothing, state_at, args_at, HasAllGroups, Stands, Starts, AddsRows, cells_from, rows_from, EndsWide}

abbrev Row : Type 0
Row = List Value

-- how many cells the aggregates give
abbrev pub columns_of : List Numbered → ℕ
columns_of [] = 0
columns_of (s ∷ states) = length s.types + columns_of states

-- ---- widths

joined_wide : (c d : Computed Row) (x : Row) (w v : ℕ) → ((y : Row) → c ≡ Is y → length y ≡ w) → ((z : Row) → d ≡ Is z → length z ≡ v) → and_then c (λ y. and_then d (λ z. Is (y ++ z))) ≡ Is x → length x ≡ w + v
joined_wide Overflow d x w v h l e = absurd cc
joined_wide (Is y) Overflow x w v h l e = absurd cc
joined_wide (Is y) (Is z) x w v h l e =
    let is : x ≡ y ++ z = cc in
    let a = h y refl in
    let b = l z refl in
    let long = ap length is ∙ length-append y z in
    omega (arith, a, b, long)

pub cells_wide : (states : List Numbered) (n : ℕ) (x : Row) → All EndsWide states → All (λ (s : Numbered). n < length s.kept) states → cells_from states n ≡ Is x → length x ≡ columns_of states
cells_wide [] n x wide within e = let is : x ≡ [] = cc in ap length is
cells_wide (s ∷ states) n x wide within e =
    joined_wide (finished s.types (kept_at s.kept n)) (cells_from states n) x (length s.types) (columns_of states)
    (λ y. (wide 0 nothing (omega arith)).each n y (within 0 nothing (omega arith)))
    (λ z. cells_wide states n z (λ i d h. wide (suc i) d (omega arith)) (λ i d h. within (suc i) d (omega arith))) e

one_cell : (c : Computed Value) (cells : Row) → and_then c (λ v. Is (v ∷ [])) ≡ Is cells → length cells ≡ 1
one_cell Overflow cells e = absurd cc
one_cell (Is v) cells e = let is : cells ≡ v ∷ [] = cc in ap length is

all_missing : (ts : List Ty) (cells : Row) → Is (map missing_of ts) ≡ Is cells → length cells ≡ length ts
all_missing ts cells e = let is : cells ≡ map missing_of ts = cc in ap length is ∙ length-map ts missing_of

single : (ts : List Ty) (v : Value) (cells : Row) → length ts ≡ 1 → Is (v ∷ []) ≡ Is cells → length cells ≡ length ts
single ts v cells one e = let is : cells ≡ v ∷ [] = cc in ap length is ∙ sym one

extreme_wide : (ts : List Ty) (o : Option Value) (cells : Row) → length ts ≡ 1 → finished ts (extreme o) ≡ Is cells → length cells ≡ length ts
extreme_wide ts None cells one e = all_missing ts cells e
extreme_wide ts (Some v) cells one e = single ts v cells one e

chosen_wide : (ts : List Ty) (rows : List Row) (o : Option Row) (cells : Row) → All (HasWidth (length ts)) rows → ((row : Row) → o ≡ Some row → Contains rows row) → finished ts (chosen o) ≡ Is cells → length cells ≡ length ts
chosen_wide ts rows None cells wide there e = all_missing ts cells e
chosen_wide ts rows (Some row) cells wide there e = let is : cells ≡ row = cc in ap length is ∙ All-contains (HasWidth (length ts)) rows row wide (there row refl)

greatest_there : (rows : List Row) (o : Option Row) → Holds kind.ArgMax rows (chosen o) → (row : Row) → o ≡ Some row → Contains rows row
greatest_there rows None h row e = absurd cc
greatest_there rows (Some r) h row e = let same : r ≡ row = cc in subst (Contains rows) same h.0

least_there : (rows : List Row) (o : Option Row) → Holds kind.ArgMin rows (chosen o) → (row : Row) → o ≡ Some row → Contains rows row
least_there rows None h row e = absurd cc
least_there rows (Some r) h row e = let same : r ≡ row = cc in subst (Contains rows) same h.0

any_there : (rows : List Row) (o : Option Row) → Holds kind.TakeAny rows (chosen o) → (row : Row) → o ≡ Some row → Contains rows row
any_there rows None h row e = absurd cc
any_there rows (Some r) h row e = let same : r ≡ row = cc in subst (Contains rows) same h.0

summed_wide : (ts : List Ty) (z : _) (cells : Row) → length ts ≡ 1 → finished ts (summed z) ≡ Is cells → length cells ≡ length ts
summed_wide ts z cells one e = one_cell (sum_in ts z) cells e ∙ sym one

pub ends_wide : (k : Kind) (ts : List Ty) (rows : List Row) (kept : Kept) (cells : Row) → FitsArgs k ts rows → Holds k rows kept → finished ts kept ≡ Is cells → length cells ≡ length ts
ends_wide kind.Count ts rows (counted n) cells fits h e = single ts _ cells fits e
ends_wide kind.Count ts rows (summed z) cells fits h e = absurd h
ends_wide kind.Count ts rows (extreme o) cells fits h e = absurd h
ends_wide kind.Count ts rows (chosen o) cells fits h e = absurd h
ends_wide kind.Count ts rows (collected vs) cells fits h e = absurd h
ends_wide kind.Sum ts rows (counted n) cells fits h e = absurd h
ends_wide kind.Sum ts rows (summed z) cells fits h e = summed_wide ts z cells fits e
ends_wide kind.Sum ts rows (extreme o) cells fits h e = absurd h
ends_wide kind.Sum ts rows (chosen o) cells fits h e = absurd h
ends_wide kind.Sum ts rows (collected vs) cells fits h e = absurd h
ends_wide kind.Min ts rows (counted n) cells fits h e = absurd h
ends_wide kind.Min ts rows (summed z) cells fits h e = absurd h
ends_wide kind.Min ts rows (extreme o) cells fits h e = extreme_wide ts o cells fits e
ends_wide kind.Min ts rows (chosen o) cells fits h e = absurd h
ends_wide kind.Min ts rows (collected vs) cells fits h e = absurd h
ends_wide kind.Max ts rows (counted n) cells fits h e = absurd h
ends_wide kind.Max ts rows (summed z) cells fits h e = absurd h
ends_wide kind.Max ts rows (extreme o) cells fits h e = extreme_wide ts o cells fits e
ends_wide kind.Max ts rows (chosen o) cells fits h e = absurd h
ends_wide kind.Max ts rows (collected vs) cells fits h e = absurd h
ends_wide kind.ArgMax ts rows (counted n) cells fits h e = absurd h
ends_wide kind.ArgMax ts rows (summed z) cells fits h e = absurd h
ends_wide kind.ArgMax ts rows (extreme o) cells fits h e = absurd h
ends_wide kind.ArgMax ts rows (chosen o) cells fits h e = chosen_wide ts rows o cells fits (greatest_there rows o h) e
ends_wide kind.ArgMax ts rows (collected vs) cells fits h e = absurd h
ends_wide kind.ArgMin ts rows (counted n) cells fits h e = absurd h
ends_wide kind.ArgMin ts rows (summed z) cells fits h e = absurd h
ends_wide kind.ArgMin ts rows (extreme o) cells fits h e = absurd h
ends_wide kind.ArgMin ts rows (chosen o) cells fits h e = chosen_wide ts rows o cells fits (least_there rows o h) e
ends_wide kind.ArgMin ts rows (collected vs) cells fits h e = absurd h
ends_wide kind.TakeAny ts rows (counted n) cells fits h e = absurd h
ends_wide kind.TakeAny ts rows (summed z) cells fits h e = absurd h
ends_wide kind.TakeAny ts rows (extreme o) cells fits h e = absurd h
ends_wide kind.TakeAny ts rows (chosen o) cells fits h e = chosen_wide ts rows o cells fits (any_there rows o h) e
ends_wide kind.TakeAny ts rows (collected vs) cells fits h e = absurd h
ends_wide (kind.MakeSet m) ts rows (counted n) cells fits h e = absurd h
ends_wide (kind.MakeSet m) ts rows (summed z) cells fits h e = absurd h
ends_wide (kind.MakeSet m) ts rows (extreme o) cells fits h e = absurd h
ends_wide (kind.MakeSet m) ts rows (chosen o) cells fits h e = absurd h
ends_wide (kind.MakeSet m) ts rows (collected vs) cells fits h e = single ts _ cells fits e

with_first : (P : Row → Type 0) (r : Row) (b : Bool) (others : List Row) → P r → All P others → All P (cond b (r ∷ others) others)
with_first P r false others first more = more
with_first P r true others first more = λ i d h. each i d h
  where
    each : (i : ℕ) (d : Row) → i < length (r ∷ others) → P (get_or (r ∷ others) i d)
    each zero d h = first
    each (suc i) d h = more i d (omega arith)

-- what all rows have, those of a key have
pub All-args_of : (P : Row → Type 0) (key : Row) (keys rows : List Row) → All P rows → All P (args_of key keys rows)
All-args_of P key [] rows all = λ i d h. absurd (omega arith)
All-args_of P key (k ∷ keys) [] all = λ i d h. absurd (omega arith)
All-args_of P key (k ∷ keys) (r ∷ rows) all = with_first P r (is_same_row key k) _ (all 0 r (omega arith)) (All-args_of P key keys rows (λ i d h. all (suc i) d (omega arith)))

fits_key : (k : Kind) (ts : List Ty) (key : Row) (keys rows : List Row) → FitsArgs k ts rows → FitsArgs k ts (args_of key keys rows)
fits_key kind.Count ts key keys rows h = h
fits_key kind.Sum ts key keys rows h = h
fits_key kind.Min ts key keys rows h = h
fits_key kind.Max ts key keys rows h = h
fits_key kind.ArgMax ts key keys rows h = All-args_of (HasWidth (length ts)) key keys rows h
fits_key kind.ArgMin ts key keys rows h = All-args_of (HasWidth (length ts)) key keys rows h
fits_key kind.TakeAny ts key keys rows h = All-args_of (HasWidth (length ts)) key keys rows h
fits_key (kind.MakeSet m) ts key keys rows h = h

fits_at : (states : List Numbered) (args : List (List Row)) (a : ℕ) → FitArgs (map shape_of states) args → a < length states → FitsArgs (state_at states a).kind (state_at states a).types (args_at args a)
fits_at [] args a fit h = absurd (omega arith)
fits_at (s ∷ states) [] a fit h = absurd fit
fits_at (s ∷ states) (rows ∷ args) zero fit h = fit.0
fits_at (s ∷ states) (rows ∷ args) (suc a) fit h = fits_at states args a fit.1 (omega arith)

ends_at : (states : List Numbered) → ((a : ℕ) → a < length states → EndsWide (state_at states a)) → All EndsWide states
ends_at [] each i d h = absurd (omega arith)
ends_at (s ∷ states) each zero d h = each 0 (omega arith)
ends_at (s ∷ states) each (suc i) d h = ends_at states (λ a l. each (suc a) (omega arith)) i d (omega arith)

-- where arguments fit, each aggregate ends with a cell for each of its columns
pub EndsWide-Stands : (keys : List Row) (args : List (List Row)) (g : Grouping) → Stands keys args g → HasAllGroups g → FitArgs (map shape_of g.states) args → All EndsWide g.states
EndsWide-Stands keys args g stands whole fit = ends_at g.states (λ a h. record {
  each = λ n cells l e.
      let s = state_at g.states a in
      let within : n < length g.keys = let w = whole a nothing h in omega (arith, l, w) in
      ends_wide s.kind s.types (args_of (row_at g.keys n) keys (args_at args a)) (kept_at s.kept n) cells (fits_key s.kind s.types (row_at g.keys n) keys (args_at args a) (fits_at g.states args a fit h)) (stands.holds a n h within) e;
})

-- ---- by definition

module _ (keys : List Row) where
  group_cells : (states : List Numbered) (args : List (List Row)) (key : Row) (n : ℕ) → length args ≡ length states
      → ((a : ℕ) → a < length states → Holds (state_at states a).kind (args_of key keys (args_at args a)) (kept_at (state_at states a).kept n)) → Cells (map shape_of states) key keys args (cells_from states n)
  group_cells [] [] key n long holds = refl
  group_cells [] (rows ∷ args) key n long holds = absurd (omega arith)
  group_cells (s ∷ states) [] key n long holds = absurd (omega arith)
  group_cells (s ∷ states) (rows ∷ args) key n long holds =
      (finished s.types (kept_at s.kept n), cells_from states n, (kept_at s.kept n, holds 0 (omega arith), refl), group_cells states args key n (omega arith) (λ a h. holds (suc a) (omega arith)), refl)

  group_rows : (states : List Numbered) (args : List (List Row)) (groups : List Row) (n : ℕ) → length args ≡ length states
      → ((a m : ℕ) → a < length states → m < length groups → Holds (state_at states a).kind (args_of (row_at groups m) keys (args_at args a)) (kept_at (state_at states a).kept (n + m))) → GroupRows (map shape_of states) groups keys args (rows_from states groups n)
  group_rows states args [] n long holds = refl
  group_rows states args (g ∷ groups) n long holds =
      let here : n + 0 ≡ n = omega arith in (
        cells_from states n,
        rows_from states groups (n + 1),
        group_cells states args g n long (λ a h. subst (λ (i : ℕ). Holds (state_at states a).kind (args_of g keys (args_at args a)) (kept_at (state_at states a).kept i)) here (holds a 0 h (omega arith))),
        group_rows states args groups (n + 1) long (λ a m h l.
            let next : n + suc m ≡ (n + 1) + m = omega arith in
            subst (λ (i : ℕ). Holds (state_at states a).kind (args_of (row_at groups m) keys (args_at args a)) (kept_at (state_at states a).kept i)) next (holds a (suc m) h (omega arith))),
        refl,
      )

length-FitArgs : (aggregates : List AggregateShape) (args : List (List Row)) → FitArgs aggregates args → length args ≡ length aggregates
length-FitArgs [] [] fit = refl
length-FitArgs [] (rows ∷ args) fit = absurd fit
length-FitArgs (a ∷ aggregates) [] fit = absurd fit
length-FitArgs (a ∷ aggregates) (rows ∷ args) fit = ap suc (length-FitArgs aggregates args fit.1)

pub length-fit : (states : List Numbered) (args : List (List Row)) → FitArgs (map shape_of states) args → length args ≡ length states
length-fit states args fit = length-FitArgs (map shape_of states) args fit ∙ length-map states shape_of

-- the rows of groups are what a summarize gives
pub Grouped-Stands : (keys : List Row) (args : List (List Row)) (g : Grouping) → Stands keys args g → length args ≡ length g.states → Grouped g.width (map shape_of g.states) keys args (rows_from g.states g.keys 0)
Grouped-Stands keys args g stands long = (
  g.keys,
  stands.of_rows,
  group_rows keys g.states args g.keys 0 long (λ a m h l.
      let none : 0 + m ≡ m = omega arith in
      subst (λ (i : ℕ). Holds (state_at g.states a).kind (args_of (row_at g.keys m) keys (args_at args a)) (kept_at (state_at g.states a).kept i)) (sym none) (stands.holds a m h l)),
)

pub IsGrouped-from : (width : ℕ) (aggregates : List AggregateShape) (keys : List Row) (args : List (List Row)) (o : Computed (List Row)) (r : Result (List Row) EvalFault) → Grouped width aggregates keys args o → Answers o r → IsGrouped width aggregates keys args r
IsGrouped-from width aggregates keys args o (Ok rows) g h = subst (Grouped width aggregates keys args) h g
IsGrouped-from width aggregates keys args o (Err fault.Overflow) g h = subst (Grouped width aggregates keys args) h g
IsGrouped-from width aggregates keys args o (Err fault.Memory) g h = tt

-- ---- the loops

-- the rows that are left over
abbrev pub rows_after : List Numbered → List Row → ℕ → List Row → Computed (List Row)
rows_after states keys n rows = and_then (rows_from states keys n) (λ rest. Is (rows ++ rest))

through_rows : (c : Computed Row) (d : Computed (List Row)) (k row : Row) (rows : List Row) → and_then c (λ x. Is (k ++ x)) ≡ Is row
    → and_then (and_then c (λ x. and_then d (λ rest. Is ((k ++ x) ∷ rest)))) (λ rest. Is (rows ++ rest)) ≡ and_then d (λ rest. Is ((rows ++ row ∷ []) ++ rest))
through_rows Overflow d k row rows e = absurd cc
through_rows (Is x) Overflow k row rows e = refl
through_rows (Is x) (Is rest) k row rows e = let is : row ≡ k ++ x = cc in ap Is (ap (λ (r : Row). rows ++ r ∷ rest) (sym is) ∙ sym (append_assoc rows (row ∷ []) rest))

lost_rows : (c : Computed Row) (d : Computed (List Row)) (k : Row) (rows : List Row) → and_then c (λ x. Is (k ++ x)) ≡ Overflow → and_then (and_then c (λ x. and_then d (λ rest. Is ((k ++ x) ∷ rest)))) (λ rest. Is (rows ++ rest)) ≡ Overflow
lost_rows Overflow d k rows e = refl
lost_rows (Is x) d k rows e = absurd cc

next_keys : (states : List Numbered) (keys : List Row) (i : ℕ) (rows : List Row) → i < length keys
    → rows_after states (drop i keys) i rows ≡ and_then (and_then (cells_from states i) (λ x. and_then (rows_from states (drop (i + 1) keys) (i + 1)) (λ rest. Is ((row_at keys i ++ x) ∷ rest)))) (λ rest. Is (rows ++ rest))
next_keys states keys i rows h = ap (λ (ks : List Row). rows_after states ks i rows) (drop_more keys i [] h)

pub rows_more : (states : List Numbered) (keys : List Row) (i : ℕ) (rows : List Row) (row : Row) → i < length keys → and_then (cells_from states i) (λ x. Is (row_at keys i ++ x)) ≡ Is row
    → rows_after states (drop i keys) i rows ≡ rows_after states (drop (i + 1) keys) (i + 1) (rows ++ row ∷ [])
rows_more states keys i rows row h e = next_keys states keys i rows h ∙ through_rows (cells_from states i) (rows_from states (drop (i + 1) keys) (i + 1)) (row_at keys i) row rows e

pub rows_lost : (states : List Numbered) (keys : List Row) (i : ℕ) (rows : List Row) → i < length keys → and_then (cells_from states i) (λ x. Is (row_at keys i ++ x)) ≡ Overflow → rows_after states (drop i keys) i rows ≡ Overflow
rows_lost states keys i rows h e = next_keys states keys i rows h ∙ lost_rows (cells_from states i) (rows_from states (drop (i + 1) keys) (i + 1)) (row_at keys i) rows e

-- ---- the cells of a group, one aggregate after another

through_cells : (c d : Computed Row) (before mid : Row) → and_then c (λ x. Is (before ++ x)) ≡ Is mid → and_then (and_then c (λ x. and_then d (λ y. Is (x ++ y)))) (λ cells. Is (before ++ cells)) ≡ and_then d (λ cells. Is (mid ++ cells))
through_cells Overflow d before mid e = absurd cc
through_cells (Is x) Overflow before mid e = refl
through_cells (Is x) (Is y) before mid e = let is : before ++ x ≡ mid = cc in ap Is (sym (append_assoc before x y) ∙ ap (λ (r : Row). r ++ y) is)

lost_cells : (c d : Computed Row) (before : Row) → and_then c (λ x. Is (before ++ x)) ≡ Overflow → and_then (and_then c (λ x. and_then d (λ y. Is (x ++ y)))) (λ cells. Is (before ++ cells)) ≡ Overflow
lost_cells Overflow d before e = refl
lost_cells (Is x) d before e = absurd cc

-- the cells from a number of aggregates on, after those that are there
abbrev pub cells_after : List Numbered → ℕ → Row → Computed Row
cells_after states n before = and_then (cells_from states n) (λ cells. Is (before ++ cells))

next_states : (states : List Numbered) (i n : ℕ) (s : Numbered) (before : Row) → i < length states → s ≡ get_or states i s → cells_after (drop i states) n before ≡ cells_after (s ∷ drop (i + 1) states) n before
next_states states i n s before h is = ap (λ (those : List Numbered). cells_after those n before) (drop_more states i s h ∙ ap (λ (t : Numbered). t ∷ drop (i + 1) states) (sym is))

pub cells_more : (states : List Numbered) (i n : ℕ) (s : Numbered) (before mid : Row) → i < length states → s ≡ get_or states i s → and_then (finished s.types (kept_at s.kept n)) (λ cells. Is (before ++ cells)) ≡ Is mid
    → cells_after (drop i states) n before ≡ cells_after (drop (i + 1) states) n mid
cells_more states i n s before mid h is puts = next_states states i n s before h is ∙ through_cells (finished s.types (kept_at s.kept n)) (cells_from (drop (i + 1) states) n) before mid puts

pub cells_lost : (states : List Numbered) (i n : ℕ) (s : Numbered) (start before out : Row) (met : EvalFault) → i < length states → s ≡ get_or states i s → cells_after states n start ≡ cells_after (drop i states) n before
    → AnswersAs {A = Unit {0}} (λ done. out) (and_then (finished s.types (kept_at s.kept n)) (λ cells. Is (before ++ cells))) (Err met) → AnswersAs {A = Unit {0}} (λ done. out) (cells_after states n start) (Err met)
cells_lost states i n s start before out fault.Overflow h is whole lost = whole ∙ next_states states i n s before h is ∙ lost_cells (finished s.types (kept_at s.kept n)) (cells_from (drop (i + 1) states) n) before lost
cells_lost states i n s start before out fault.Memory h is whole lost = tt

-- the length of a row
pub row_wide : (c : Computed Row) (k row : Row) (w v : ℕ) → length k ≡ w → ((x : Row) → c ≡ Is x → length x ≡ v) → and_then c (λ x. Is (k ++ x)) ≡ Is row → length row ≡ w + v
row_wide Overflow k row w v h l e = absurd cc
row_wide (Is x) k row w v h l e = let is : row ≡ k ++ x = cc in let m = l x refl in let long = ap length is ∙ length-append k x in omega (arith, h, m, long)

-- all groups have states
pub within_all : (g : Grouping) (n : ℕ) → HasAllGroups g → n < length g.keys → All (λ (s : Numbered). n < length s.kept) g.states
within_all g n whole h i d l = let w = whole i d l in omega (arith, w, h)

-- the row of a group comes last
abbrev pub row_after : Grouping → ℕ → Computed Row
row_after g i = and_then (cells_from g.states i) (λ x. Is (row_at g.keys i ++ x))

pub row_length : (g : Grouping) (i : ℕ) (row : Row) → All (HasWidth g.width) g.keys → HasAllGroups g → All EndsWide g.states → i < length g.keys → row_after g i ≡ Is row → length row ≡ g.width + columns_of g.states
row_length g i row wide whole ends h e =
    row_wide (cells_from g.states i) (row_at g.keys i) row g.width (columns_of g.states) (wide i [] h) (λ x. cells_wide g.states i x ends (within_all g i whole h)) e

-- ---- a summarize

pub fit-states : (aggregates : List AggregateShape) (states : List Numbered) (args : List (List Row)) → map shape_of states ≡ aggregates → FitArgs aggregates args → FitArgs (map shape_of states) args
fit-states aggregates states args shapes fit = subst (λ (those : List AggregateShape). FitArgs those args) (sym shapes) fit

pub EndsWide-added : (width : ℕ) (aggregates : List AggregateShape) (keys : List Row) (args : List (List Row)) (old new : Grouping) → Starts width aggregates old → AddsRows keys args old new → FitArgs aggregates args → All EndsWide new.states
EndsWide-added width aggregates keys args old new starts adds fit = EndsWide-Stands keys args new (adds.more [] [] starts.stands) adds.whole (fit-states aggregates new.states args (adds.shapes ∙ starts.shapes) fit)

pub Grouped-added : (width : ℕ) (aggregates : List AggregateShape) (keys : List Row) (args : List (List Row)) (old new : Grouping) → Starts width aggregates old → AddsRows keys args old new → FitArgs aggregates args
    → Grouped width aggregates keys args (rows_from new.states new.keys 0)
Grouped-added width aggregates keys args old new starts adds fit =
    let shapes = adds.shapes ∙ starts.shapes in
    subst (λ (w : ℕ). Grouped w aggregates keys args (rows_from new.states new.keys 0)) (adds.width_is ∙ starts.width_is)
    (subst (λ (those : List AggregateShape). Grouped new.width those keys args (rows_from new.states new.keys 0)) shapes
    (Grouped-Stands keys args new (adds.more [] [] starts.stands) (length-fit new.states args (fit-states aggregates new.states args shapes fit))))

-- a fault of a group's row is one of all
pub fault_rows : (g : Grouping) (i : ℕ) (rows : List Row) (out : Row) (r : EvalFault) → rows_from g.states g.keys 0 ≡ rows_after g.states (drop i g.keys) i rows → i < length g.keys → AnswersAs {A = Unit {0}} (λ done. out) (row_after g i) (Err r)
    → Answers (rows_from g.states g.keys 0) (Err r)
fault_rows g i rows out fault.Overflow whole h a = whole ∙ rows_lost g.states g.keys i rows h a
fault_rows g i rows out fault.Memory whole h a = tt
