-- The widths of the rows that operators make.
use Rattle.std.proofs.Common.{◌≡◌, ◌+◌, ℕ, suc, Bool, true, false, cond, nat_lt, Option, List, [], ◌∷◌, ◌++◌, length, map, set, get_or, refl, sym, ap, subst, ◌∙◌}
use Rattle.std.specs.List.{All}
use Rattle.std.proofs.lemmas.List.{length-append, length-map, length-set}
use Rattle.std.proofs.lemmas.List.Elements.{All-nil, All-cons, All-head, All-tail, All-append, All-map}
use Rattle.kq_value.specs.declared.ty.Ty.{Ty}
use Rattle.kq_value.specs.declared.value.Value.{Value}
use Rattle.kq_eval_pieces.specs.kq_value_arithmetic.Logic.{is_yes}
use Rattle.kq_value.specs.Computed.{Computed, Is, Overflow, and_then, each}
use Rattle.kq_plan_expressions.specs.Terms.{Term}
use Rattle.kq_store_rows.specs.Chunks.{HasWidth, same_width}
use Rattle.kq_store_rows.proofs.Typed.{same_width-wide}
use Rattle.kq_eval_pieces.specs.kq_eval_row.Val.{Meaning, Surroundings, meaning, values}
use Rattle.kq_eval_pieces.specs.Operators.{Row, filtered}
use Rattle.kq_run_reshape.specs.MvExpand.{expanded, part_as, parts_of, with_cell, with_parts, width_with}
use Rattle.kq_run_row_operators.specs.Operators.{Rowwise, keeping, making, mv_expanding, applied, width_after}

-- the width of all rows that are of one width
abbrev pub width_of : List Row → ℕ
width_of [] = 0
width_of (r ∷ rows) = length r

pub all_wide : (rows : List Row) → same_width rows → All (HasWidth (width_of rows)) rows
all_wide [] same = All-nil (HasWidth 0)
all_wide (r ∷ rows) same = All-cons (HasWidth (length r)) r rows refl same

-- ---- what a filter keeps

either : (P : Row → Type 0) (b : Bool) (r : Row) (others : List Row) → P r → All P others → All P (cond b (r ∷ others) others)
either P true r others here rest = All-cons P r others here rest
either P false r others here rest = rest

pub kept_all : (P : Row → Type 0) (e : Term) (s : Surroundings) (rows kept : List Row) → All P rows → filtered e s rows ≡ Is kept → All P kept
kept_all P e s [] kept all is = let none : [] ≡ kept = cc in subst (λ (rs : List Row). All P rs) none (All-nil P)
kept_all P e s (r ∷ rows) kept all is = go (meaning e s r) (filtered e s rows) is (λ others q. kept_all P e s rows others (All-tail P r rows all) q) refl
  where
    go : (o : Computed Value) (os : Computed (List Row)) → and_then o (λ v. and_then os (λ others. Is (cond (is_yes v) (r ∷ others) others))) ≡ Is kept
        → ((others : List Row) → filtered e s rows ≡ Is others → All P others) → filtered e s rows ≡ os → All P kept
    go Overflow os is later q = absurd cc
    go (Is v) Overflow is later q = absurd cc
    go (Is v) (Is others) is later q =
        let same : cond (is_yes v) (r ∷ others) others ≡ kept = cc in
        subst (λ (rs : List Row). All P rs) same (either P (is_yes v) r others (All-head P r rows all) (later others q))

-- ---- what expressions make

pub values_long : (ms : List Meaning) (s : Surroundings) (r vs : Row) → values ms s r ≡ Is vs → length vs ≡ length ms
values_long [] s r vs is = let none : [] ≡ vs = cc in sym (ap length none)
values_long (m ∷ ms) s r vs is = go (m s r) (values ms s r) is (λ others q. values_long ms s r others q) refl
  where
    go : (o : Computed Value) (os : Computed (List Value)) → and_then o (λ v. and_then os (λ others. Is (v ∷ others))) ≡ Is vs
        → ((others : List Value) → values ms s r ≡ Is others → length others ≡ length ms) → values ms s r ≡ os → length vs ≡ suc (length ms)
    go Overflow os is later q = absurd cc
    go (Is v) Overflow is later q = absurd cc
    go (Is v) (Is others) is later q = let same : v ∷ others ≡ vs = cc in sym (ap length same) ∙ ap suc (later others q)

pub made_wide : (ms : List Meaning) (s : Surroundings) (rows made : List Row) → each (values ms s) rows ≡ Is made → All (HasWidth (length ms)) made
made_wide ms s [] made is = let none : [] ≡ made = cc in subst (λ (rs : List Row). All (HasWidth (length ms)) rs) none (All-nil (HasWidth (length ms)))
made_wide ms s (r ∷ rows) made is = go (values ms s r) (each (values ms s) rows) is (λ others q. made_wide ms s rows others q) refl refl
  where
    go : (o : Computed Row) (os : Computed (List Row)) → and_then o (λ y. and_then os (λ others. Is (y ∷ others))) ≡ Is made
        → ((others : List Row) → each (values ms s) rows ≡ Is others → All (HasWidth (length ms)) others) → values ms s r ≡ o → each (values ms s) rows ≡ os → All (HasWidth (length ms)) made
    go Overflow os is later p q = absurd cc
    go (Is y) Overflow is later p q = absurd cc
    go (Is y) (Is others) is later p q =
        let same : y ∷ others ≡ made = cc in
        subst (λ (rs : List Row). All (HasWidth (length ms)) rs) same (All-cons (HasWidth (length ms)) y others (values_long ms s r y p) (later others q))

-- ---- what an expansion makes

with_long : (b : Bool) (row : Row) (at : ℕ) (v : Value) → length (cond b (set row at v) (row ++ v ∷ [])) ≡ cond b (length row) (length row + 1)
with_long true row at v = length-set row at v
with_long false row at v = length-append row (v ∷ [])

with_cell_wide : (row : Row) (at : ℕ) (v : Value) → length (with_cell row at v) ≡ width_with (length row) at
with_cell_wide row at v = with_long (nat_lt at (length row)) row at v

parts_wide : (at : ℕ) (t : Option Ty) (w : ℕ) (r : Row) (v : Value) → length r ≡ w → All (HasWidth (width_with w at)) (with_parts at t r v)
parts_wide at t w r v is =
    All-map (HasWidth (width_with w at)) (λ (p : Value). with_cell r at (part_as t p)) (parts_of v)
    (λ k d l. with_cell_wide r at (part_as t (get_or (parts_of v) k d)) ∙ ap (λ (n : ℕ). width_with n at) is)

pub expanded_wide : (at : ℕ) (t : Option Ty) (w : ℕ) (rows : List Row) (vs : List Value) → All (HasWidth w) rows → All (HasWidth (width_with w at)) (expanded at t rows vs)
expanded_wide at t w [] vs all = All-nil (HasWidth (width_with w at))
expanded_wide at t w (r ∷ rows) [] all = All-nil (HasWidth (width_with w at))
expanded_wide at t w (r ∷ rows) (v ∷ vs) all =
    All-append (HasWidth (width_with w at)) (with_parts at t r v) (expanded at t rows vs) (parts_wide at t w r v (All-head (HasWidth w) r rows all))
    (expanded_wide at t w rows vs (All-tail (HasWidth w) r rows all))

spread_wide : (at : ℕ) (t : Option Ty) (w : ℕ) (rows out : List Row) (o : Computed (List Value)) → All (HasWidth w) rows → and_then o (λ vs. Is (expanded at t rows vs)) ≡ Is out → All (HasWidth (width_with w at)) out
spread_wide at t w rows out Overflow all is = absurd cc
spread_wide at t w rows out (Is vs) all is =
    let same : expanded at t rows vs ≡ out = cc in
    subst (λ (rs : List Row). All (HasWidth (width_with w at)) rs) same (expanded_wide at t w rows vs all)

-- ---- what an operator makes

pub applied_wide : (o : Rowwise) (s : Surroundings) (w : ℕ) (rows out : List Row) → All (HasWidth w) rows → applied o s rows ≡ Is out → All (HasWidth (width_after o w)) out
applied_wide (keeping e) s w rows out all is = kept_all (HasWidth w) e s rows out all is
applied_wide (making es) s w rows out all is = subst (λ (n : ℕ). All (HasWidth n) out) (length-map es meaning) (made_wide (map meaning es) s rows out is)
applied_wide (mv_expanding e at t) s w rows out all is = spread_wide at t w rows out (each (meaning e s) rows) all is

pub applied_even : (o : Rowwise) (s : Surroundings) (rows out : List Row) → same_width rows → applied o s rows ≡ Is out → same_width out
applied_even o s rows out same is = same_width-wide (width_after o (width_of rows)) out (applied_wide o s (width_of rows) rows out (all_wide rows same) is)
