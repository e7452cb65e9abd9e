-- Rows that are sorted by columns, a piece at a time.
use Rattle.std.proofs.Common.{◌≡◌, ◌<◌, ◌+◌, ◌++◌, ◌∙◌, ℕ, suc, List, [], ◌∷◌, Ok, Err, length, get_or, map, take, drop, refl, sym, ap, subst, arith}
use Rattle.std.specs.Prelude.{IfSome, Option, Some, None, flat_map, ◌-◌}
use Rattle.std.specs.List.{All, range_with_len}
use Rattle.std.proofs.Math.Seq.{drop-cons}
use Rattle.std.proofs.lemmas.Grind.{flat_map-append}
use Rattle.std.proofs.lemmas.List.{append-nil, length-map, map-append, take-append-drop, take_all}
use Rattle.std.proofs.lemmas.List.FromFn.{length-map-range_with_len, map-range_with_len_more}
use Rattle.std.proofs.lemmas.List.Elements.{All-append, All-cons, All-head, All-nil, All-tail}
use Rattle.kq_value.specs.Computed.{AnswersAs, Is, Overflow, each}
use Rattle.kq_value.specs.declared.fault.EvalFault.{EvalFault}
use Rattle.kq_value.specs.declared.fault.EvalFault.TheVariants as fault
use Rattle.kq_run_scan.specs.Flowing.{Flowing, Flows}
use Rattle.kq_run_scan.specs.Sources.{source_rows}
use Rattle.kq_run_scan.specs.Yielded.{Yields}
use Rattle.kq_run_scan.specs.declared.flow.Next.{Next}
use Rattle.kq_run_scan.specs.declared.flow.Next.TheVariants as next
use Rattle.kq_run_scan.specs.declared.source.Source.{Source}
use Rattle.kq_plan.specs.Plans.{Sorting}
use Rattle.kq_store_rows.specs.Chunks.{HasWidth}
use Rattle.kq_run_gather.specs.kq_eval_row.Val.{Surroundings, meaning}
use Rattle.kq_run_gather.specs.kq_run_row_operators.Pieces.{rows_in}
use Rattle.kq_run_gather.specs.kq_run_row_operators.Piece.{Piece}
use Rattle.kq_run_gather.specs.kq_run_row_operators.Ran.{Ran, came, failed, joined}
use Rattle.kq_run_gather.proofs.Pieces.{all_came, at_first, piece_came}
use Rattle.kq_run_sort.proofs.Columned.{each_join, sorted_parts}
use Rattle.kq_run_sort.proofs.Leading.{lost_among}
use Rattle.kq_run_sort.specs.Orders.{Sorted}
use Rattle.kq_run_sort.specs.Parts.{PickedParts, part_keys, part_rows}
use Rattle.kq_run_sort.specs.declared.parts.Part.{Part}
use Rattle.kq_value.specs.declared.value.Value.{Value}
use Rattle.kq_store_column_view.specs.Vectors.{cell_of, cells_of}
use Rattle.kq_store_column_view.specs.declared.vector.Vector.{Vector}
use Rattle.kq_run_plan.specs.Outcomes.{Row}
use Rattle.kq_run_plan.specs.Sorting.{IsPart, IsPartOf, SortsIf}

-- ---- lists of lists

pub flat_map-last : {X A : Type 0} (f : X → List A) (xs : List X) (x : X) → flat_map f (xs ++ x ∷ []) ≡ flat_map f xs ++ f x
flat_map-last f xs x = flat_map-append f xs (x ∷ []) ∙ ap (λ l. flat_map f xs ++ l) (append-nil (f x))

pub flat_map-parted : {X A : Type 0} (f : X → List A) (xs : List X) (i : ℕ) (x : X) → i < length xs → x ≡ get_or xs i x → flat_map f xs ≡ flat_map f (take i xs) ++ (f x ++ flat_map f (drop (suc i) xs))
flat_map-parted f xs i x within is =
    ap (flat_map f) (sym (take-append-drop i xs)) ∙ (flat_map-append f (take i xs) (drop i xs)
    ∙ ap (λ l. flat_map f (take i xs) ++ l) (ap (flat_map f) (drop-cons xs i x within) ∙ (λ j. f (sym is j) ++ flat_map f (drop (suc i) xs))))

pub all_front : {X : Type 0} (P : X → Type 0) (xs ys : List X) → All P (xs ++ ys) → All P xs
all_front P [] ys all = All-nil P
all_front P (x ∷ xs) ys all = All-cons P x xs (All-head P x (xs ++ ys) all) (all_front P xs ys (All-tail P x (xs ++ ys) all))

pub all_behind : {X : Type 0} (P : X → Type 0) (xs ys : List X) → All P (xs ++ ys) → All P ys
all_behind P [] ys all = all
all_behind P (x ∷ xs) ys all = all_behind P xs ys (All-tail P x (xs ++ ys) all)

-- what all have that come of all elements, those of one have
pub all_of_one : {X A : Type 0} (P : A → Type 0) (f : X → List A) (xs : List X) (i : ℕ) (x : X) → i < length xs → x ≡ get_or xs i x → All P (flat_map f xs) → All P (f x)
all_of_one P f xs i x within is all =
    let rest = flat_map f (drop (suc i) xs) in
    all_front P (f x) rest (all_behind P (flat_map f (take i xs)) (f x ++ rest) (subst (All P) (flat_map-parted f xs i x within is) all))

-- ---- columns

abbrev pub column_at : List Row → ℕ → List Value
column_at rows j = map (λ (r : Row). cell_of r j) rows

pub columns_more : (rows : List Row) (n j : ℕ) (columns more : List Vector) (column : Vector) → n ≡ length rows → map cells_of columns ≡ map (column_at rows) (range_with_len 0 j)
    → cells_of column ≡ column_at (take (n - 0) (drop 0 rows)) j → more ≡ columns ++ column ∷ [] → map cells_of more ≡ map (column_at rows) (range_with_len 0 (j + 1))
columns_more rows n j columns more column count so_far is pushed =
    let whole : take (n - 0) rows ≡ rows = take_all (n - 0) rows (omega (arith, count)) in
    let one : cells_of column ≡ column_at rows j = is ∙ (λ i. column_at (whole i) j) in
    ap (map cells_of) pushed ∙ (map-append cells_of columns (column ∷ []) ∙ ((λ i. so_far i ++ one i ∷ []) ∙ sym (map-range_with_len_more (column_at rows) 0 j j (omega arith))))

pub columns_wide : (rows : List Row) (w : ℕ) (columns : List Vector) → map cells_of columns ≡ map (column_at rows) (range_with_len 0 w) → length columns ≡ w
columns_wide rows w columns are = sym (length-map columns cells_of) ∙ (ap length are ∙ length-map-range_with_len (column_at rows) 0 w)

-- ---- parts

module _ (k : Sorting) (s : Surroundings) where
  -- parts of these rows, each of so many columns
  pub record Parted (width : ℕ) (rows : List Row) (parts : List Part) : Type 0 where
    pub rows_are : flat_map part_rows parts ≡ rows
    pub keys_are : each (meaning k.value s) rows ≡ Is (flat_map part_keys parts)
    pub wide : All (λ (p : Part). length p.columns.items ≡ width) parts

  pub parted_none : (width : ℕ) → Parted width [] []
  parted_none width = record { rows_are = refl; keys_are = refl; wide = All-nil (λ (p : Part). length p.columns.items ≡ width) }

  pub parted_more : (width : ℕ) (rows own : List Row) (parts : List Part) (p : Part) → Parted width rows parts → IsPart k s own p → length p.columns.items ≡ width → Parted width (rows ++ own) (parts ++ p ∷ [])
  parted_more width rows own parts p so_far is wide = record {
    rows_are = flat_map-last part_rows parts p ∙ (λ i. so_far.rows_are i ++ is.rows_are i);
    keys_are = each_join (meaning k.value s) rows own (flat_map part_keys parts) (part_keys p) so_far.keys_are is.keys_are ∙ ap (λ l. Is l) (sym (flat_map-last part_keys parts p));
    wide = All-append (λ (q : Part). length q.columns.items ≡ width) parts (p ∷ []) so_far.wide (All-cons (λ (q : Part). length q.columns.items ≡ width) p [] wide (All-nil (λ (q : Part). length q.columns.items ≡ width)));
  }

  pub parted_sorted : (width : ℕ) (rows out : List Row) (parts : List Part) → Parted width rows parts → PickedParts k parts out → Sorted (k ∷ []) s rows (Is out)
  parted_sorted width rows out parts so_far picked = sorted_parts k s parts rows out so_far.rows_are so_far.keys_are picked

  pub parted_if : (width : ℕ) (rows : List Row) (parts : List Part) (made : Option (List Row)) → Parted width rows parts → IfSome made (PickedParts k parts) → SortsIf (k ∷ []) s rows (Ok made)
  parted_if width rows parts None so_far picked = tt
  parted_if width rows parts (Some out) so_far picked = parted_sorted width rows out parts so_far picked

  pub part_lost : (rows : List Row) (met : EvalFault) → AnswersAs {A = Vector} cells_of (each (meaning k.value s) rows) (Err met) → IsPartOf k s rows (Err met)
  part_lost rows fault.Overflow lost = lost
  part_lost rows fault.Memory lost = tt

  -- the key overflows on a row of a piece
  pub parted_lost : {X : Type 0} (rows_of : X → List Row) (pieces : List X) (i : ℕ) (piece : X) (met : EvalFault) → i < length pieces → piece ≡ get_or pieces i piece → IsPartOf k s (rows_of piece) (Err met)
      → SortsIf (k ∷ []) s (flat_map rows_of pieces) (Err met)
  parted_lost rows_of pieces i piece fault.Overflow within is lost =
      subst (λ (rs : List Row). Sorted (k ∷ []) s rs Overflow) (sym (flat_map-parted rows_of pieces i piece within is)) (lost_among 0 k s (rows_of piece) (flat_map rows_of (take i pieces)) (flat_map rows_of (drop (suc i) pieces)) lost)
  parted_lost rows_of pieces i piece fault.Memory within is lost = tt

-- ---- pieces that come

-- these pieces have come
pub record Arrived (whole now : Flowing) (pieces : List (Piece Source)) : Type 0 where
  pub so_far : whole.to_come ≡ joined (came (flat_map (rows_in source_rows) pieces)) now.to_come
  pub wide : All (HasWidth whole.width) (flat_map (rows_in source_rows) pieces)
  pub width : now.width ≡ whole.width

pub arrived_none : (whole : Flowing) → Arrived whole whole []
arrived_none whole = record { so_far = at_first whole.to_come; wide = All-nil (HasWidth whole.width); width = refl }

pub arrived_more : (whole old new : Flowing) (x : Next) (pieces : List (Piece Source)) (piece : Piece Source) → Arrived whole old pieces → Yields old new x → x ≡ next.Piece piece → Arrived whole new (pieces ++ piece ∷ [])
arrived_more whole old new x pieces piece so_far yields is =
    let more : Flows old (rows_in source_rows piece) new = subst (Yields old new) is yields in
    let own = subst (λ (w : ℕ). All (HasWidth w) (rows_in source_rows piece)) so_far.width more.wide in
    let last = sym (flat_map-last (rows_in source_rows) pieces piece) in
    record {
      so_far = piece_came whole.to_come old new x piece (flat_map (rows_in source_rows) pieces) so_far.so_far yields is ∙ ap (λ (rs : List Row). joined (came rs) new.to_come) last;
      wide = subst (All (HasWidth whole.width)) last (All-append (HasWidth whole.width) (flat_map (rows_in source_rows) pieces) (rows_in source_rows piece) so_far.wide own);
      width = more.width ∙ so_far.width;
    }

same_came : (a b : List Row) → came a ≡ came b → b ≡ a
same_came a b is = cc

pub arrived_all : (whole old new : Flowing) (x : Next) (pieces : List (Piece Source)) (rows : List Row) → Arrived whole old pieces → Yields old new x → x ≡ next.End → whole.to_come ≡ came rows → flat_map (rows_in source_rows) pieces ≡ rows
arrived_all whole old new x pieces rows so_far yields is came_so =
    let end : old.to_come ≡ came [] = subst (Yields old new) is yields in
    same_came rows (flat_map (rows_in source_rows) pieces) (sym came_so ∙ all_came whole.to_come old.to_come (flat_map (rows_in source_rows) pieces) so_far.so_far end)

-- no operator fails
pub arrived_failed : (whole old new : Flowing) (x : Next) (pieces : List (Piece Source)) (m : ℕ) (rows : List Row) → Arrived whole old pieces → Yields old new x → x ≡ next.Failed m → whole.to_come ≡ came rows → ⊥
arrived_failed whole old new x pieces m rows so_far yields is came_so =
    let end : old.to_come ≡ failed m = subst (Yields old new) is yields in
    let both : came rows ≡ failed m = sym came_so ∙ so_far.so_far ∙ ap (joined (came (flat_map (rows_in source_rows) pieces))) end in
    cc
