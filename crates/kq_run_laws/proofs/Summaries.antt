-- What a summarize gives has one row for each key, and overflows where a part does.
use Rattle.std.proofs.Common.{◌≡◌, ◌∙◌, ◌⊎◌, inl, inr, ℕ, zero, suc, ℤ, pos, Bool, true, false, cond, List, [], ◌∷◌, ◌++◌, length, take, drop, map, refl, sym, ap, subst, take-append-drop, arith}
use Rattle.std.specs.Prelude.{Some, None}
use Rattle.std.specs.List.{All, AllByRecursion, Any, Contains}
use Rattle.std.proofs.Math.Seq.{drop-append_seam, take-append_seam}
use Rattle.std.proofs.lemmas.List.Elements.{All-from_recursion, All-weaker, recursion_from_All}
use Rattle.kq_value.specs.Computed.{Computed, Is, Overflow, and_then, each}
use Rattle.kq_plan_expressions.specs.Terms.{Term}
use Rattle.kq_run_groups.specs.Grouped.{AggregateShape, Cells, GroupRows, Grouped, args_of}
use Rattle.kq_run_groups.specs.kq_run_aggregates.Aggregates.{aggregate_kind}
use Rattle.kq_run_groups.specs.kq_run_aggregates.Holds.{Kept, counted, summed as sum_kept, extreme, chosen, collected, Cell, Holds, finished, firsts, sum_in, total}
use Rattle.kq_run_gather.proofs.Arguments.{each_all, each_parts}
use Rattle.kq_run_gather.specs.Grouping.{ThenComes, Summarized, arguments_at, arguments_over, columns_made, under}
use Rattle.kq_run_gather.specs.kq_eval_pieces.Operators.{values_at}
use Rattle.kq_run_gather.specs.kq_eval_row.Val.{Surroundings, meaning, values}
use Rattle.kq_plan.specs.Plans.{Aggregating, summed}
use Rattle.kq_store_rows.specs.Chunks.{HasWidth}
use Rattle.kq_value.proofs.Equals.{is_same_row-Decides}
use Rattle.kq_value.specs.Values.{is_same_row}
use Rattle.kq_value.specs.declared.schema.Field.{Field}
use Rattle.kq_value.specs.declared.ty.Ty.{Ty}
use Rattle.kq_value.specs.declared.ty.Ty.TheVariants as ty
use Rattle.kq_value.specs.declared.value.Value.{Value}
use Rattle.kq_run_laws.proofs.Groups.{group_found, groups_wide, keys_from, keys_to}
use Rattle.kq_run_laws.specs.Groups.{ArgumentOverflows, AreGroupKeys, IsRowOf, IsSummary, MayGiveAll, SomeSumOverflows, SomethingOverflows, SumOverflows, is_key, rows_of, types_behind}

abbrev Row : Type 0
Row = List Value

-- ---- one of several

any_here : {X : Type 0} (P : X → Type 0) (x : X) (xs : List X) → P x → Any P (x ∷ xs)
any_here P x xs holds = (0, x, omega arith, refl, holds)

any_behind : {X : Type 0} (P : X → Type 0) (x : X) (xs : List X) → Any P xs → Any P (x ∷ xs)
any_behind P x xs (i, y, within, is, holds) = (suc i, y, omega (arith, within), is, holds)

any_weaker : {X : Type 0} (P Q : X → Type 0) (xs : List X) → ((x : X) → P x → Q x) → Any P xs → Any Q xs
any_weaker P Q xs weaker (i, x, within, is, holds) = (i, x, within, is, weaker x holds)

-- ---- what comes one by one

is_same : {A : Type 0} (x y : A) → Is x ≡ Is y → x ≡ y
is_same x y e = cc

rest_lost : {A : Type 0} (x : A) (c : Computed (List A)) → and_then c (λ xs. Is (x ∷ xs)) ≡ Overflow → c ≡ Overflow
rest_lost x Overflow e = refl
rest_lost x (Is xs) e = absurd cc

then_lost : {A B : Type 0} (c : Computed A) → and_then {B = B} c (λ x. Overflow) ≡ Overflow
then_lost Overflow = refl
then_lost (Is x) = refl

pub each_lost : {A B : Type 0} (f : A → Computed B) (xs : List A) → each f xs ≡ Overflow → Any (λ x. f x ≡ Overflow) xs
each_lost f [] e = absurd cc
each_lost {A} {B} f (x ∷ xs) e = by (f x) refl e (each_lost f xs) where
  by : (c : Computed B) → f x ≡ c → and_then c (λ y. and_then (each f xs) (λ ys. Is (y ∷ ys))) ≡ Overflow → (each f xs ≡ Overflow → Any (λ z. f z ≡ Overflow) xs)
      → Any (λ z. f z ≡ Overflow) (x ∷ xs)
  by Overflow is lost later = any_here (λ z. f z ≡ Overflow) x xs is
  by (Is y) is lost later = any_behind (λ z. f z ≡ Overflow) x xs (later (rest_lost y (each f xs) lost))

pub lost_each : {A B : Type 0} (f : A → Computed B) (xs : List A) → Any (λ x. f x ≡ Overflow) xs → each f xs ≡ Overflow
lost_each f [] (i, y, within, is, lost) = absurd (omega (arith, within))
lost_each {A} {B} f (x ∷ xs) (zero, y, within, is, lost) =
    ap (λ (c : Computed B). and_then c (λ z. and_then (each f xs) (λ zs. Is (z ∷ zs)))) (ap f is ∙ lost)
lost_each {A} {B} f (x ∷ xs) (suc i, y, within, is, lost) =
    let later : each f xs ≡ Overflow = lost_each f xs (i, y, omega (arith, within), is, lost) in
    ap (λ (c : Computed (List B)). and_then (f x) (λ z. and_then c (λ zs. Is (z ∷ zs)))) later ∙ then_lost (f x)

one_more : {A B : Type 0} (f : A → Computed B) (x : A) (y : B) (xs : List A) (ys : List B) → f x ≡ Is y → each f xs ≡ Is ys → each f (x ∷ xs) ≡ Is (y ∷ ys)
one_more {A} {B} f x y xs ys first others =
    ap (λ (c : Computed B). and_then c (λ z. and_then (each f xs) (λ zs. Is (z ∷ zs)))) first
    ∙ ap (λ (c : Computed (List B)). and_then c (λ zs. Is (y ∷ zs))) others

-- ---- the keys of rows

values_wide : (es : List Term) (s : Surroundings) (r key : Row) → values_at es s r ≡ Is key → HasWidth (length es) key
values_wide [] s r key e = let is : key ≡ [] = cc in ap length is
values_wide (e ∷ es) s r key is =
    let (v, vs, one, more, are) = each_parts (meaning e s r) (values (map meaning es) s r) key is in
    ap length are ∙ ap suc (values_wide es s r vs more)

keys_wide : (es : List Term) (s : Surroundings) (rows keys : List Row) → each (values_at es s) rows ≡ Is keys → All (HasWidth (length es)) keys
keys_wide es s rows keys keyed = each_all (HasWidth (length es)) (values_at es s) rows keys (λ r key. values_wide es s r key) keyed

-- the rows of a key, if there are any
key_found : (es : List Term) (s : Surroundings) (k : Row) (rows keys : List Row) → each (values_at es s) rows ≡ Is keys → (rows_of es s rows k ≡ []) ⊎ Contains keys k
key_found es s k [] keys keyed = inl refl
key_found es s k (r ∷ rows) keys keyed =
    let (key, others, one, more, are) = each_parts (values_at es s r) (each (values_at es s) rows) keys keyed in
    subst (λ (ks : List Row). (rows_of es s (r ∷ rows) k ≡ []) ⊎ Contains ks k) (sym are)
    (subst (λ (c : Computed Row). (cond (is_key k c) (r ∷ rows_of es s rows k) (rows_of es s rows k) ≡ []) ⊎ Contains (key ∷ others) k) (sym one)
    (by key others (is_same_row k key) refl (key_found es s k rows others more)))
  where
    behind : (key : Row) (others : List Row) → Contains others k → Contains (key ∷ others) k
    behind key others (i, within, is) = (suc i, omega (arith, within), is)

    by : (key : Row) (others : List Row) (b : Bool) → is_same_row k key ≡ b → (rows_of es s rows k ≡ []) ⊎ Contains others k
        → (cond b (r ∷ rows_of es s rows k) (rows_of es s rows k) ≡ []) ⊎ Contains (key ∷ others) k
    by key others true same later = inr (0, omega arith, sym ((is_same_row-Decides k key).0 same))
    by key others false same (inl none) = inl none
    by key others false same (inr here) = inr (behind key others here)

-- ---- the arguments of the rows of a key

module _ (es : List Term) (s : Surroundings) (f : Row → Computed Row) (k : Row) where
  either : (b : Bool) (r a : Row) (rows those : List Row) → f r ≡ Is a → each f rows ≡ Is those → each f (cond b (r ∷ rows) rows) ≡ Is (cond b (a ∷ those) those)
  either true r a rows those first others = one_more f r a rows those first others
  either false r a rows those first others = others

  args_here : (rows keys args : List Row) → each (values_at es s) rows ≡ Is keys → each f rows ≡ Is args → each f (rows_of es s rows k) ≡ Is (args_of k keys args)
  args_here [] keys args keyed taken = let none : keys ≡ [] = cc in subst (λ (ks : List Row). Is [] ≡ Is (args_of k ks args)) (sym none) refl
  args_here (r ∷ rows) keys args keyed taken =
      let (key, others, one, more, are) = each_parts (values_at es s r) (each (values_at es s) rows) keys keyed in
      let (a, those, first, rest, is) = each_parts (f r) (each f rows) args taken in
      let later = args_here rows others those more rest in
      subst (λ (ks : List Row). each f (rows_of es s (r ∷ rows) k) ≡ Is (args_of k ks args)) (sym are)
      (subst (λ (xs : List Row). each f (rows_of es s (r ∷ rows) k) ≡ Is (args_of k (key ∷ others) xs)) (sym is)
      (subst (λ (c : Computed Row). each f (cond (is_key k c) (r ∷ rows_of es s rows k) (rows_of es s rows k)) ≡ Is (args_of k (key ∷ others) (a ∷ those))) (sym one)
      (either (is_same_row k key) r a (rows_of es s rows k) (args_of k others those) first later)))

-- ---- what a sum takes

one_taken : (c : Computed Value) (a : Row) → and_then (and_then c (λ v. Is (v ∷ []))) (λ vs. Is (vs ++ [])) ≡ Is a → (v : Value) × (c ≡ Is v) × (a ≡ v ∷ [])
one_taken Overflow a e = absurd cc
one_taken (Is v) a e = (v, refl, cc)

sums_taken : (e : Term) (s : Surroundings) (rows args : List Row) → arguments_over s rows (summed e) ≡ Is args → each (meaning e s) rows ≡ Is (firsts args)
sums_taken e s [] args is = let none : args ≡ [] = cc in ap (λ (xs : List Row). Is (firsts xs)) (sym none)
sums_taken e s (r ∷ rows) args is =
    let (a, others, one, more, are) = each_parts (arguments_at (summed e) s r) (each (arguments_at (summed e) s) rows) args is in
    let (v, came, alone) = one_taken (meaning e s r) a one in
    subst (λ (xs : List Row). each (meaning e s) (r ∷ rows) ≡ Is (firsts xs)) (sym are)
    (subst (λ (x : Row). each (meaning e s) (r ∷ rows) ≡ Is (firsts (x ∷ others))) (sym alone)
    (one_more (meaning e s) r v rows (firsts others) came (sums_taken e s rows others more)))

sum_lost : (c : Computed Value) → and_then c (λ v. Is (v ∷ [])) ≡ Overflow → c ≡ Overflow
sum_lost Overflow e = refl
sum_lost (Is v) e = absurd cc

-- only a sum ends in an overflow
lost_is_sum : (ts : List Ty) (kept : Kept) → finished ts kept ≡ Overflow → (z : ℤ) × (kept ≡ sum_kept z) × (sum_in ts z ≡ Overflow)
lost_is_sum ts (counted n) e = absurd cc
lost_is_sum ts (sum_kept z) e = (z, refl, sum_lost (sum_in ts z) e)
lost_is_sum ts (extreme None) e = absurd cc
lost_is_sum ts (extreme (Some v)) e = absurd cc
lost_is_sum ts (chosen None) e = absurd cc
lost_is_sum ts (chosen (Some row)) e = absurd cc
lost_is_sum ts (collected vs) e = absurd cc

kept_sum_lost : (g : Aggregating) (ts : List Ty) (s : Surroundings) (rows args : List Row) (z : ℤ) → arguments_over s rows g ≡ Is args → Holds (aggregate_kind g) args (sum_kept z) → sum_in ts z ≡ Overflow → SumOverflows s rows g ts
kept_sum_lost (summed e) ts s rows args z taken holds lost = (firsts args, sums_taken e s rows args taken, subst (λ (y : ℤ). sum_in ts y ≡ Overflow) holds lost)
kept_sum_lost _ ts s rows args z taken holds lost = absurd holds

cell_lost : (g : Aggregating) (ts : List Ty) (s : Surroundings) (rows args : List Row) → arguments_over s rows g ≡ Is args → Cell (aggregate_kind g) ts args Overflow → SumOverflows s rows g ts
cell_lost g ts s rows args taken (kept, holds, ends) =
    let (z, is, lost) = lost_is_sum ts kept ends in
    kept_sum_lost g ts s rows args z taken (subst (Holds (aggregate_kind g) args) is holds) lost

lost_sum : (e : Term) (ts : List Ty) (s : Surroundings) (rows args : List Row) (kept : Kept) → arguments_over s rows (summed e) ≡ Is args → SumOverflows s rows (summed e) ts → Holds (aggregate_kind (summed e)) args kept
    → finished ts kept ≡ Overflow
lost_sum e ts s rows args (sum_kept z) taken (vs, came, lost) holds =
    let same : vs ≡ firsts args = is_same vs (firsts args) (sym came ∙ sums_taken e s rows args taken) in
    let over : sum_in ts z ≡ Overflow = ap (sum_in ts) (holds ∙ ap total (sym same)) ∙ lost in
    ap (λ (c : Computed Value). and_then c (λ v. Is (v ∷ []))) over
lost_sum e ts s rows args (counted n) taken over holds = absurd holds
lost_sum e ts s rows args (extreme o) taken over holds = absurd holds
lost_sum e ts s rows args (chosen o) taken over holds = absurd holds
lost_sum e ts s rows args (collected vs) taken over holds = absurd holds

lost_cell : (g : Aggregating) (ts : List Ty) (s : Surroundings) (rows args : List Row) (c : Computed Row) → arguments_over s rows g ≡ Is args → SumOverflows s rows g ts → Cell (aggregate_kind g) ts args c → c ≡ Overflow
lost_cell (summed e) ts s rows args c taken over (kept, holds, ends) = sym ends ∙ lost_sum e ts s rows args kept taken over holds
lost_cell _ ts s rows args c taken over cell = absurd over

-- a sum of nothing is within every type
zero_within : (ts : List Ty) → sum_in ts (pos 0) ≡ Overflow → ⊥
zero_within [] e = cc
zero_within (ty.Span ∷ ts) e = cc
zero_within (_ ∷ ts) e = cc

none_over : (s : Surroundings) (g : Aggregating) (ts : List Ty) → SumOverflows s [] g ts → ⊥
none_over s (summed e) ts (vs, came, lost) = let none : vs ≡ [] = cc in zero_within ts (ap (λ (us : Row). sum_in ts (total us)) (sym none) ∙ lost)
none_over s _ ts over = over

none_overflows : (s : Surroundings) (gs : List Aggregating) (ts : List Ty) → SomeSumOverflows s [] gs ts → ⊥
none_overflows s [] ts over = over
none_overflows s (g ∷ gs) ts (inl over) = none_over s g (take (columns_made g) ts) over
none_overflows s (g ∷ gs) ts (inr over) = none_overflows s gs (drop (columns_made g) ts) over

-- ---- the cells of one key

module _ (es : List Term) (s : Surroundings) (rows keys : List Row) (keyed : each (values_at es s) rows ≡ Is keys) (k : Row) where
  abbrev Theirs : List Row
  Theirs = rows_of es s rows k

  -- the arguments of an aggregate over the rows of the key
  taken_here : (g : Aggregating) (args : List Row) → arguments_over s rows g ≡ Is args → arguments_over s Theirs g ≡ Is (args_of k keys args)
  taken_here g args taken = args_here es s (arguments_at g s) k rows keys args keyed taken

  -- those of the first aggregate, and of the others
  parts : (g : Aggregating) (gs : List Aggregating) (own : List Row) (args : List (List Row)) → each (arguments_over s rows) (g ∷ gs) ≡ Is (own ∷ args)
      → (arguments_over s rows g ≡ Is own) × (each (arguments_over s rows) gs ≡ Is args)
  parts g gs own args e =
      let (a, others, one, more, are) = each_parts (arguments_over s rows g) (each (arguments_over s rows) gs) (own ∷ args) e in
      let first : a ≡ own = cc in
      let rest : others ≡ args = cc in
      (one ∙ ap (λ (x : List Row). Is x) first, more ∙ ap (λ (x : List (List Row)). Is x) rest)

  gives_from : (gs : List Aggregating) (ts : List Ty) (args : List (List Row)) (x : Row) → each (arguments_over s rows) gs ≡ Is args → Cells (under gs ts) k keys args (Is x)
      → MayGiveAll s Theirs gs ts x
  gives_from [] ts [] x e cells = is_same x [] cells
  gives_from [] ts (own ∷ args) x e cells = absurd cells
  gives_from (g ∷ gs) ts [] x e cells = absurd cells
  gives_from (g ∷ gs) ts (own ∷ args) x e (first, rest, cell, cells, is) =
      let (one, more) = parts g gs own args e in
      by first rest cell cells is (taken_here g own one) (λ v given. gives_from gs (drop (columns_made g) ts) args v more given)
    where
      by : (first rest : Computed Row) → Cell (aggregate_kind g) (take (columns_made g) ts) (args_of k keys own) first → Cells (under gs (drop (columns_made g) ts)) k keys args rest
          → Is x ≡ and_then first (λ u. and_then rest (λ v. Is (u ++ v))) → arguments_over s Theirs g ≡ Is (args_of k keys own)
          → ((v : Row) → Cells (under gs (drop (columns_made g) ts)) k keys args (Is v) → MayGiveAll s Theirs gs (drop (columns_made g) ts) v) → MayGiveAll s Theirs (g ∷ gs) ts x
      by Overflow rest cell cells is one later = absurd cc
      by (Is u) Overflow cell cells is one later = absurd cc
      by (Is u) (Is v) cell cells is one later = (u, v, is_same x (u ++ v) is, record { args = args_of k keys own; taken = one; cell = cell }, later v cells)

  gives_to : (gs : List Aggregating) (ts : List Ty) (args : List (List Row)) (x : Row) → each (arguments_over s rows) gs ≡ Is args → MayGiveAll s Theirs gs ts x
      → Cells (under gs ts) k keys args (Is x)
  gives_to [] ts [] x e none = ap (λ (u : Row). Is u) none
  gives_to [] ts (own ∷ args) x e none = absurd cc
  gives_to (g ∷ gs) ts [] x e (first, others, are, given, more) =
      let (a, those, one, rest, is) = each_parts (arguments_over s rows g) (each (arguments_over s rows) gs) [] e in absurd cc
  gives_to (g ∷ gs) ts (own ∷ args) x e (first, others, are, given, later) =
      let (one, more) = parts g gs own args e in
      let same : given.args ≡ args_of k keys own = is_same given.args (args_of k keys own) (sym given.taken ∙ taken_here g own one) in (
        Is first,
        Is others,
        subst (λ (those : List Row). Cell (aggregate_kind g) (take (columns_made g) ts) those (Is first)) same given.cell,
        gives_to gs (drop (columns_made g) ts) args others more later,
        ap (λ (u : Row). Is u) are,
      )

  cells_lost : (gs : List Aggregating) (ts : List Ty) (args : List (List Row)) → each (arguments_over s rows) gs ≡ Is args → Cells (under gs ts) k keys args Overflow
      → SomeSumOverflows s Theirs gs ts
  cells_lost [] ts [] e cells = absurd cc
  cells_lost [] ts (own ∷ args) e cells = absurd cells
  cells_lost (g ∷ gs) ts [] e cells = absurd cells
  cells_lost (g ∷ gs) ts (own ∷ args) e (first, rest, cell, cells, is) =
      let (one, more) = parts g gs own args e in
      by first rest cell cells is (taken_here g own one) (λ given. cells_lost gs (drop (columns_made g) ts) args more given)
    where
      by : (first rest : Computed Row) → Cell (aggregate_kind g) (take (columns_made g) ts) (args_of k keys own) first → Cells (under gs (drop (columns_made g) ts)) k keys args rest
          → Overflow ≡ and_then first (λ u. and_then rest (λ v. Is (u ++ v))) → arguments_over s Theirs g ≡ Is (args_of k keys own)
          → (Cells (under gs (drop (columns_made g) ts)) k keys args Overflow → SomeSumOverflows s Theirs gs (drop (columns_made g) ts)) → SomeSumOverflows s Theirs (g ∷ gs) ts
      by Overflow rest cell cells is one later = inl (cell_lost g (take (columns_made g) ts) s Theirs (args_of k keys own) one cell)
      by (Is u) Overflow cell cells is one later = inr (later cells)
      by (Is u) (Is v) cell cells is one later = absurd cc

  lost_cells : (gs : List Aggregating) (ts : List Ty) (args : List (List Row)) (out : Computed Row) → each (arguments_over s rows) gs ≡ Is args → SomeSumOverflows s Theirs gs ts
      → Cells (under gs ts) k keys args out → out ≡ Overflow
  lost_cells [] ts args out e over cells = absurd over
  lost_cells (g ∷ gs) ts [] out e over cells = absurd cells
  lost_cells (g ∷ gs) ts (own ∷ args) out e (inl over) (first, rest, cell, cells, is) =
      let (one, more) = parts g gs own args e in
      let lost = lost_cell g (take (columns_made g) ts) s Theirs (args_of k keys own) first (taken_here g own one) over cell in
      is ∙ ap (λ (c : Computed Row). and_then c (λ u. and_then rest (λ v. Is (u ++ v)))) lost
  lost_cells (g ∷ gs) ts (own ∷ args) out e (inr over) (first, rest, cell, cells, is) =
      let (one, more) = parts g gs own args e in
      let lost = lost_cells gs (drop (columns_made g) ts) args rest more over cells in
      is ∙ ap (λ (c : Computed Row). and_then first (λ u. and_then c (λ v. Is (u ++ v)))) lost ∙ then_lost first

-- ---- the rows of all keys

module _ (shapes : List AggregateShape) (keys : List Row) (args : List (List Row)) where
  -- a row is its key, and behind it cells
  abbrev IsWhole : ℕ → Row → Type 0
  IsWhole width made = Cells shapes (take width made) keys args (Is (drop width made))

  whole_from : (width : ℕ) (k x : Row) → HasWidth width k → Cells shapes k keys args (Is x) → (take width (k ++ x) ≡ k) × IsWhole width (k ++ x)
  whole_from width k x wide cells =
      let front : take width (k ++ x) ≡ k = ap (λ (n : ℕ). take n (k ++ x)) (sym wide) ∙ take-append_seam k x in
      let back : drop width (k ++ x) ≡ x = ap (λ (n : ℕ). drop n (k ++ x)) (sym wide) ∙ drop-append_seam k x in
      (front, subst (λ (y : Row). Cells shapes y keys args (Is (drop width (k ++ x)))) (sym front) (subst (λ (y : Row). Cells shapes k keys args (Is y)) (sym back) cells))

  -- the keys of the rows are those of the groups, in order
  abbrev AreWhole : ℕ → List Row → List Row → Type 0
  AreWhole width groups made = (map (take width) made ≡ groups) × AllByRecursion (IsWhole width) made

  rows_whole : (width : ℕ) (groups made : List Row) → AllByRecursion (HasWidth width) groups → GroupRows shapes groups keys args (Is made) → AreWhole width groups made
  rows_whole width [] made wide is = subst (AreWhole width []) (sym (is_same made [] is)) (refl, tt)
  rows_whole width (k ∷ groups) made (wide, more) (first, others, cells, later, is) = by first others cells later is (λ rest given. rows_whole width groups rest more given) where
    by : (first : Computed Row) (others : Computed (List Row)) → Cells shapes k keys args first → GroupRows shapes groups keys args others
        → Is made ≡ and_then first (λ x. and_then others (λ rest. Is ((k ++ x) ∷ rest))) → ((rest : List Row) → GroupRows shapes groups keys args (Is rest) → AreWhole width groups rest)
        → AreWhole width (k ∷ groups) made
    by Overflow others cells given e next = absurd cc
    by (Is x) Overflow cells given e next = absurd cc
    by (Is x) (Is rest) cells given e next =
        let those = next rest given in
        let one = whole_from width k x wide cells in
        let keys_so : map (take width) ((k ++ x) ∷ rest) ≡ k ∷ groups = ap (λ (y : Row). y ∷ map (take width) rest) one.0 ∙ ap (λ (ys : List Row). k ∷ ys) those.0 in
        subst (AreWhole width (k ∷ groups)) (sym (is_same made ((k ++ x) ∷ rest) e)) (keys_so, (one.1, those.1))

  whole_rows : (width : ℕ) (made : List Row) → AllByRecursion (IsWhole width) made → GroupRows shapes (map (take width) made) keys args (Is made)
  whole_rows width [] all = refl
  whole_rows width (r ∷ made) (one, more) =
      (Is (drop width r), Is made, one, whole_rows width made more, ap (λ (y : Row). Is (y ∷ made)) (sym (take-append-drop width r)))

  rows_lost : (groups : List Row) → GroupRows shapes groups keys args Overflow → (k : Row) × Cells shapes k keys args Overflow
  rows_lost [] is = absurd cc
  rows_lost (k ∷ groups) (first, others, cells, later, is) = by first others cells later is (rows_lost groups) where
    by : (first : Computed Row) (others : Computed (List Row)) → Cells shapes k keys args first → GroupRows shapes groups keys args others
        → Overflow ≡ and_then first (λ x. and_then others (λ rest. Is ((k ++ x) ∷ rest))) → (GroupRows shapes groups keys args Overflow → (j : Row) × Cells shapes j keys args Overflow)
        → (j : Row) × Cells shapes j keys args Overflow
    by Overflow others cells given e next = (k, cells)
    by (Is x) Overflow cells given e next = next given
    by (Is x) (Is rest) cells given e next = absurd cc

  lost_rows : (groups : List Row) (k : Row) (out : Computed (List Row)) → Contains groups k → ((c : Computed Row) → Cells shapes k keys args c → c ≡ Overflow)
      → GroupRows shapes groups keys args out → out ≡ Overflow
  lost_rows [] k out (i, within, is) lost given = absurd (omega (arith, within))
  lost_rows (g ∷ groups) k out (zero, within, same) lost (first, others, cells, later, is) =
      is ∙ ap (λ (c : Computed Row). and_then c (λ x. and_then others (λ rest. Is ((g ++ x) ∷ rest)))) (lost first (subst (λ (y : Row). Cells shapes y keys args first) same cells))
  lost_rows (g ∷ groups) k out (suc i, within, same) lost (first, others, cells, later, is) =
      let behind = lost_rows groups k others (i, omega (arith, within), same) lost later in
      is ∙ ap (λ (c : Computed (List Row)). and_then first (λ x. and_then c (λ rest. Is ((g ++ x) ∷ rest)))) behind ∙ then_lost first

-- ---- a summary

module _ (es : List Term) (gs : List Aggregating) (cs : List Field) (s : Surroundings) (rows : List Row) where
  abbrev Width : ℕ
  Width = length es

  abbrev Shapes : List AggregateShape
  Shapes = under gs (types_behind es cs)

  no_argument_lost : (args : List (List Row)) → each (arguments_over s rows) gs ≡ Is args → ArgumentOverflows gs s rows → ⊥
  no_argument_lost args taken over =
      let lost = lost_each (arguments_over s rows) gs (any_weaker _ (λ g. arguments_over s rows g ≡ Overflow) gs (λ g. lost_each (arguments_at g s) rows) over) in
      absurd cc

  argument_lost : each (arguments_over s rows) gs ≡ Overflow → ArgumentOverflows gs s rows
  argument_lost lost =
      any_weaker (λ g. arguments_over s rows g ≡ Overflow) (λ g. Any (λ r. arguments_at g s r ≡ Overflow) rows) gs (λ g. each_lost (arguments_at g s) rows) (each_lost (arguments_over s rows) gs lost)

  summed_up : (keys : List Row) (args : List (List Row)) (made : List Row) → each (values_at es s) rows ≡ Is keys → each (arguments_over s rows) gs ≡ Is args
      → Grouped Width Shapes keys args (Is made) → IsSummary es gs cs s rows made
  summed_up keys args made keyed taken (groups, are, given) =
      let those = rows_whole Shapes keys args Width groups made (groups_wide Width keys groups (keys_wide es s rows keys keyed) are) given in
      record {
        keys = record { keys = keys; keyed = keyed; one_each = subst (AreGroupKeys Width keys) (sym those.0) (keys_from Width keys groups are) };
        taken = no_argument_lost args taken;
        each_row = All-weaker (IsWhole Shapes keys args Width) (IsRowOf es gs cs s rows)
            (λ r whole. gives_from es s rows keys keyed (take Width r) gs (types_behind es cs) args (drop Width r) taken whole) made
            (All-from_recursion (IsWhole Shapes keys args Width) made those.1);
      }

  pub summary_from : (made : List Row) → Summarized es gs cs s rows (Is made) → IsSummary es gs cs s rows made
  summary_from made given = by (each (values_at es s) rows) refl given where
    with_args : (keys : List Row) (d : Computed (List (List Row))) → each (values_at es s) rows ≡ Is keys → each (arguments_over s rows) gs ≡ d
        → ThenComes d (λ args. Grouped Width Shapes keys args) (Is made) → IsSummary es gs cs s rows made
    with_args keys Overflow keyed taken e = absurd cc
    with_args keys (Is args) keyed taken g = summed_up keys args made keyed taken g

    by : (c : Computed (List Row)) → each (values_at es s) rows ≡ c
        → ThenComes c (λ keys. ThenComes (each (arguments_over s rows) gs) (λ args. Grouped Width Shapes keys args)) (Is made) → IsSummary es gs cs s rows made
    by Overflow keyed e = absurd cc
    by (Is keys) keyed g = with_args keys (each (arguments_over s rows) gs) keyed refl g

  grouped_up : (keys : List Row) (args : List (List Row)) (made : List Row) → each (values_at es s) rows ≡ Is keys → each (arguments_over s rows) gs ≡ Is args
      → AreGroupKeys Width keys (map (take Width) made) → All (IsRowOf es gs cs s rows) made → Grouped Width Shapes keys args (Is made)
  grouped_up keys args made keyed taken once rows_so =
      let whole = All-weaker (IsRowOf es gs cs s rows) (IsWhole Shapes keys args Width)
      (λ r given. gives_to es s rows keys keyed (take Width r) gs (types_behind es cs) args (drop Width r) taken given) made rows_so in
      (map (take Width) made, keys_to Width keys (map (take Width) made) once, whole_rows Shapes keys args Width made (recursion_from_All (IsWhole Shapes keys args Width) made whole))

  pub summary_to : (made : List Row) → IsSummary es gs cs s rows made → Summarized es gs cs s rows (Is made)
  summary_to made h = subst (λ (c : Computed (List Row)). ThenComes c (λ keys. ThenComes (each (arguments_over s rows) gs) (λ args. Grouped Width Shapes keys args)) (Is made)) (sym h.keys.keyed)
      (by (each (arguments_over s rows) gs) refl)
    where
      by : (d : Computed (List (List Row))) → each (arguments_over s rows) gs ≡ d → ThenComes d (λ args. Grouped Width Shapes h.keys.keys args) (Is made)
      by Overflow taken = absurd (h.taken (argument_lost taken))
      by (Is args) taken = grouped_up h.keys.keys args made h.keys.keyed taken h.keys.one_each h.each_row

  -- ---- an overflow

  grouped_lost : (keys : List Row) (args : List (List Row)) → each (values_at es s) rows ≡ Is keys → each (arguments_over s rows) gs ≡ Is args
      → Grouped Width Shapes keys args Overflow → SomethingOverflows es gs cs s rows
  grouped_lost keys args keyed taken (groups, are, given) =
      let (k, cells) = rows_lost Shapes keys args groups given in
      inr (inr (k, cells_lost es s rows keys keyed k gs (types_behind es cs) args taken cells))

  pub overflow_from : Summarized es gs cs s rows Overflow → SomethingOverflows es gs cs s rows
  overflow_from given = by (each (values_at es s) rows) refl given where
    with_args : (keys : List Row) (d : Computed (List (List Row))) → each (values_at es s) rows ≡ Is keys → each (arguments_over s rows) gs ≡ d
        → ThenComes d (λ args. Grouped Width Shapes keys args) Overflow → SomethingOverflows es gs cs s rows
    with_args keys Overflow keyed taken e = inr (inl (argument_lost taken))
    with_args keys (Is args) keyed taken g = grouped_lost keys args keyed taken g

    by : (c : Computed (List Row)) → each (values_at es s) rows ≡ c
        → ThenComes c (λ keys. ThenComes (each (arguments_over s rows) gs) (λ args. Grouped Width Shapes keys args)) Overflow → SomethingOverflows es gs cs s rows
    by Overflow keyed e = inl (each_lost (values_at es s) rows keyed)
    by (Is keys) keyed g = with_args keys (each (arguments_over s rows) gs) keyed refl g

  key_stands : (keys : List Row) (k : Row) → each (values_at es s) rows ≡ Is keys → SomeSumOverflows s (rows_of es s rows k) gs (types_behind es cs) → Contains keys k
  key_stands keys k keyed over = by (key_found es s k rows keys keyed) where
    by : (rows_of es s rows k ≡ []) ⊎ Contains keys k → Contains keys k
    by (inl none) = absurd (none_overflows s gs (types_behind es cs) (subst (λ (those : List Row). SomeSumOverflows s those gs (types_behind es cs)) none over))
    by (inr here) = here

  lost_grouped : (keys : List Row) (args : List (List Row)) (out : Computed (List Row)) → each (values_at es s) rows ≡ Is keys → each (arguments_over s rows) gs ≡ Is args
      → SomethingOverflows es gs cs s rows → Grouped Width Shapes keys args out → out ≡ Overflow
  lost_grouped keys args out keyed taken (inl over) given = let lost = lost_each (values_at es s) rows over in absurd cc
  lost_grouped keys args out keyed taken (inr (inl over)) given = absurd (no_argument_lost args taken over)
  lost_grouped keys args out keyed taken (inr (inr (k, over))) (groups, are, given) =
      lost_rows Shapes keys args groups k out (group_found Width keys groups k (keys_wide es s rows keys keyed) are (key_stands keys k keyed over))
      (λ c cells. lost_cells es s rows keys keyed k gs (types_behind es cs) args c taken over cells) given

  pub overflow_to : (out : Computed (List Row)) → SomethingOverflows es gs cs s rows → Summarized es gs cs s rows out → out ≡ Overflow
  overflow_to out over given = by (each (values_at es s) rows) refl given where
    with_args : (keys : List Row) (d : Computed (List (List Row))) → each (values_at es s) rows ≡ Is keys → each (arguments_over s rows) gs ≡ d
        → ThenComes d (λ args. Grouped Width Shapes keys args) out → out ≡ Overflow
    with_args keys Overflow keyed taken e = e
    with_args keys (Is args) keyed taken g = lost_grouped keys args out keyed taken over g

    by : (c : Computed (List Row)) → each (values_at es s) rows ≡ c
        → ThenComes c (λ keys. ThenComes (each (arguments_over s rows) gs) (λ args. Grouped Width Shapes keys args)) out → out ≡ Overflow
    by Overflow keyed e = e
    by (Is keys) keyed g = with_args keys (each (arguments_over s rows) gs) keyed refl g
