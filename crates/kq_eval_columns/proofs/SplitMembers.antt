-- Members of splits, for which no array is made.
use Rattle.std.proofs.Common.{◌≡◌, ◌<◌, ℕ, zero, suc, List, [], ◌∷◌, ◌++◌, map, length, get_or, take, drop, Option, Some, None, Result, Ok, Err, Vec, Global, refl, sym, ap, subst, ◌∙◌, arith}
use Rattle.std.proofs.Math.ListN.{replicate}
use Rattle.std.specs.Prelude.{IfOk, IfSome}
use Rattle.kq_value.specs.declared.value.Value.{Value}
use Rattle.kq_value.specs.Computed.{AnswersAs, Computed, Is, Overflow, and_then, each}
use Rattle.kq_value.specs.declared.fault.EvalFault.{EvalFault}
use Rattle.kq_eval_kernels.specs.Pairs.{each_two}
use Rattle.kq_plan_functions.specs.declared.function.Function.{Function}
use Rattle.kq_plan_functions.specs.declared.function.Function.TheVariants as f
use Rattle.kq_plan_expressions.specs.declared.expr.Expr.{Expr}
use Rattle.kq_plan_expressions.specs.declared.expr.Expr.TheOpen.{Expr-F}
use Rattle.kq_plan_expressions.specs.declared.expr.Expr.TheFolds.{fold-roll-Expr}
use Rattle.kq_plan_expressions.specs.declared.expr.Expr.TheVariants.{Literal, Column, Cell, Call, rolls-Literal, rolls-Column, rolls-Cell, rolls-Call}
use Rattle.kq_eval_row.specs.Applied.{applied}
use Rattle.kq_eval_row.specs.Val.{Surroundings, cell_of}
use Rattle.kq_eval_row.specs.kq_value_conversions.Parts.{member_of}
use Rattle.kq_eval_row.specs.kq_value_string_functions.Texts.{pieces}
use Rattle.kq_store_column_view.specs.declared.vector.Vector.{Vector}
use Rattle.kq_store_column_view.specs.Vectors.{cells_of}
use Rattle.kq_eval_columns.specs.Over.{Over, over, over_step, given, called_over, values_over, bare}
use Rattle.kq_eval_columns.specs.Vectors.{row_at, rows_at}
use Rattle.kq_eval_columns.specs.Seen.{at_columns, beside, fronted, members_at, paired}
use Rattle.kq_eval_columns.proofs.Arguments.{two-beside}
use Rattle.kq_eval_columns.proofs.OneValue.{all_are, map-twice, two-same}
use Rattle.kq_eval_columns.proofs.Pairing.{decided, rows-pairs}

-- ---- a member at a place is a call of two arguments

pub over_of_call : (function : Function) (args : Vec Expr Global) (s : Surroundings) (rows : List (List Value)) → over (Call function args) s rows ≡ called_over function (map over args.items) s rows
over_of_call function args s rows =
    ap (λ (e : Expr). over e s rows) (sym (rolls-Call function args)) ∙ ap (λ (o : Over). o s rows) (fold-roll-Expr Over over_step (Expr-F.Call function args))

pub over_of_literal : (v : Value) (s : Surroundings) (rows : List (List Value)) → over (Literal v) s rows ≡ Is (map (λ r. v) rows)
over_of_literal v s rows =
    ap (λ (e : Expr). over e s rows) (sym (rolls-Literal v)) ∙ ap (λ (o : Over). o s rows) (fold-roll-Expr Over over_step (Expr-F.Literal v))

pub over_of_column : (j : ℕ) (s : Surroundings) (rows : List (List Value)) → over (Column j) s rows ≡ Is (map (λ r. cell_of r j) rows)
over_of_column j s rows =
    ap (λ (e : Expr). over e s rows) (sym (rolls-Column j)) ∙ ap (λ (o : Over). o s rows) (fold-roll-Expr Over over_step (Expr-F.Column j))

pub over_of_cell : (i : ℕ) (s : Surroundings) (rows : List (List Value)) → over (Cell i) s rows ≡ Is (map (λ r. cell_of s.lets i) rows)
over_of_cell i s rows =
    ap (λ (e : Expr). over e s rows) (sym (rolls-Cell i)) ∙ ap (λ (o : Over). o s rows) (fold-roll-Expr Over over_step (Expr-F.Cell i))

same_members : (o p q r : Over) (s : Surroundings) (rows : List (List Value)) → o s rows ≡ p s rows → q s rows ≡ r s rows → called_over f.Member (o ∷ q ∷ []) s rows ≡ called_over f.Member (p ∷ r ∷ []) s rows
same_members o p q r s rows d e = λ j. and_then (and_then (d j) (λ xs. and_then (and_then (e j) (λ ys. and_then (Is (bare rows)) (λ rs. each_two (λ y r. Is (y ∷ r)) ys rs))) (λ rs. each_two (λ x r. Is (x ∷ r)) xs rs))) (each (applied f.Member s.now))

-- the two arguments
are_two : (es : List Expr) (x e : Expr) → drop 1 es ≡ e ∷ [] → x ≡ get_or es 0 x → es ≡ x ∷ e ∷ []
are_two [] x e two is = absurd (cc)
are_two (y ∷ es) x e two is = λ j. sym is j ∷ two j

-- what is answered of a split, is answered of the call
pub answers_member : (es : List Expr) (x : Expr) (args : Vec Expr Global) (place : Value) (s : Surroundings) (rows : List (List Value)) (r : Result Vector EvalFault)
    → drop 1 es ≡ Literal place ∷ [] → x ≡ get_or es 0 x → x ≡ Call f.Split args
    → AnswersAs cells_of (members_at place (called_over f.Split (map over args.items)) s rows) r → AnswersAs cells_of (called_over f.Member (map over es) s rows) r
answers_member es x args place s rows r two is split answers =
    subst (λ o. AnswersAs cells_of o r)
    (sym (ap (λ xs. called_over f.Member (map over xs) s rows) (are_two es x (Literal place) two is)
    ∙ same_members (over x) (called_over f.Split (map over args.items)) (over (Literal place)) (λ s rows. Is (map (λ r. place) rows)) s rows
    (ap (λ (d : Expr). over d s rows) split ∙ over_of_call f.Split args s rows) (over_of_literal place s rows))) answers

-- what is answered of columns, is answered of what gives them
pub answers_split : (es : List Expr) (place : Value) (vs ws : List Vector) (s : Surroundings) (rows : List (List Value)) (r : Result Vector EvalFault)
    → values_over (map over es) s rows ≡ Is (fronted vs (bare rows)) → ws ≡ vs
    → AnswersAs cells_of (members_at place (at_columns f.Split ws) s rows) r → AnswersAs cells_of (members_at place (called_over f.Split (map over es)) s rows) r
answers_split es place vs ws s rows r e same answers =
    subst (λ o. AnswersAs cells_of o r)
    (ap (λ (xs : List Vector). members_at place (at_columns f.Split xs) s rows) same
    ∙ sym (same_members (called_over f.Split (map over es)) (at_columns f.Split vs) (λ s rows. Is (map (λ r. place) rows)) (λ s rows. Is (map (λ r. place) rows)) s rows
    (ap (λ c. and_then c (each (applied f.Split s.now))) e) refl)) answers

-- ---- by arrays

pub members_beside : (place : Value) (o : Over) (us : List Value) (s : Surroundings) (rows : List (List Value)) → o s rows ≡ Is us
    → members_at place o s rows ≡ each (applied f.Member s.now) (beside us (beside (map (λ r. place) rows) (bare rows)))
members_beside place o us s rows e =
    same_members o (given us) (λ s rows. Is (map (λ r. place) rows)) (λ s rows. Is (map (λ r. place) rows)) s rows e refl
    ∙ ap (λ c. and_then (and_then c (λ rs. each_two (λ x r. Is (x ∷ r)) us rs)) (each (applied f.Member s.now))) (two-beside (map (λ r. place) rows) (bare rows))
    ∙ ap (λ c. and_then c (each (applied f.Member s.now))) (two-beside us (beside (map (λ r. place) rows) (bare rows)))

pub members_stop : (place : Value) (o : Over) (s : Surroundings) (rows : List (List Value)) → o s rows ≡ Overflow → members_at place o s rows ≡ Overflow
members_stop place o s rows e = same_members o (λ s rows. Overflow) (λ s rows. Is (map (λ r. place) rows)) (λ s rows. Is (map (λ r. place) rows)) s rows e refl

-- ---- by pieces

all-same : {A : Type 0} (y : A) (rows : List (List Value)) (n : ℕ) → length rows ≡ n → map (λ r. y) rows ≡ replicate n y
all-same y [] n e = ap (λ (k : ℕ). replicate k y) e
all-same y (r ∷ rows) zero e = absurd (omega arith)
all-same y (r ∷ rows) (suc n) e = ap (λ ys. y ∷ ys) (all-same y rows n (omega arith))

length-map : {A B : Type 0} (g : A → B) (xs : List A) → length (map g xs) ≡ length xs
length-map g [] = refl
length-map g (x ∷ xs) = ap suc (length-map g xs)

-- of values beside one other
each-beside : (g : Value → Value → Value) (xs : List Value) (n : ℕ) (y : Value) → length xs ≡ n → each_two (λ x y. Is (g x y)) xs (replicate n y) ≡ Is (map (λ x. g x y) xs)
each-beside g xs n y h = two-same (λ x y. Is (g x y)) xs n y h ∙ all_are (λ x. Is (g x y)) xs (map (λ x. g x y) xs) (sym (map-twice Is (λ x. g x y) xs))

module _ (a b : Vector) (vectors : List Vector) (y place : Value) (n m : ℕ) where
  -- the arrays
  arrays : (s : Surroundings) (rows : List (List Value)) → vectors ≡ a ∷ b ∷ [] → length (cells_of a) ≡ n → length (cells_of b) ≡ n → cells_of b ≡ replicate m y → length rows ≡ n
      → at_columns f.Split vectors s rows ≡ Is (map (λ x. pieces x y) (cells_of a))
  arrays s rows is h k same long =
      let ns : m ≡ n = omega (arith, ap length same, length-replicate m y) in
      ap (λ rs. each (applied f.Split s.now) (fronted vectors rs)) (all-same [] rows n long)
      ∙ decided f.Split s.now vectors a b n (map (λ x. pieces x y) (cells_of a)) is h k
      (ap (each_two (paired f.Split) (cells_of a)) (same ∙ ap (λ (i : ℕ). replicate i y) ns) ∙ each-beside pieces (cells_of a) n y h)
    where
      length-replicate : (i : ℕ) (v : Value) → length (replicate i v) ≡ i
      length-replicate zero v = refl
      length-replicate (suc i) v = ap suc (length-replicate i v)

  pub split_by_one : (vs : List Value) (s : Surroundings) (rows : List (List Value)) → vectors ≡ a ∷ b ∷ [] → length (cells_of a) ≡ n → length (cells_of b) ≡ n → cells_of b ≡ replicate m y
      → vs ≡ map (λ x. member_of (pieces x y) place) (cells_of a) → length rows ≡ n → members_at place (at_columns f.Split vectors) s rows ≡ Is vs
  split_by_one vs s rows is h k same made long =
      let us = map (λ x. pieces x y) (cells_of a) in
      let all : length us ≡ n = length-map (λ x. pieces x y) (cells_of a) ∙ h in
      let places : map (λ r. place) rows ≡ replicate n place = all-same place rows n long in
      members_beside place (at_columns f.Split vectors) us s rows (arrays s rows is h k same long)
      ∙ (λ j. each (applied f.Member s.now) (beside us (beside (places j) (all-same [] rows n long j))))
      ∙ rows-pairs (applied f.Member s.now) us (replicate n place) n all (ap length (sym places) ∙ length-map (λ r. place) rows ∙ long)
      ∙ each-beside member_of us n place all
      ∙ ap Is (map-twice (λ v. member_of v place) (λ x. pieces x y) (cells_of a) ∙ sym made)

  pub found_by : {E : Type 0} (r : Result (Option (Vec Value Global)) E) → vectors ≡ a ∷ b ∷ [] → length (cells_of a) ≡ n → length (cells_of b) ≡ n → cells_of b ≡ replicate m y
      → IfOk r (λ o. IfSome o (λ vs. vs.items ≡ map (λ x. member_of (pieces x y) place) (cells_of a)))
      → IfOk r (λ o. IfSome o (λ vs. (s : Surroundings) (rows : List (List Value)) → length rows ≡ n → members_at place (at_columns f.Split vectors) s rows ≡ Is vs.items))
  found_by (Err e) is h k same made = made
  found_by (Ok None) is h k same made = made
  found_by (Ok (Some vs)) is h k same made = λ s rows long. split_by_one vs.items s rows is h k same made long

-- as many rows as places
pub length_rows : (columns : List Vector) (places : List ℕ) → length (rows_at columns places) ≡ length places
length_rows columns places = length-map (row_at columns) places

-- one cell more
pub cells_more : (g : Value → Value) (xs : List Value) (i : ℕ) (x : Value) → i < length xs → x ≡ cell_of xs i → map g (take (suc i) xs) ≡ map g (take i xs) ++ g x ∷ []
cells_more g [] i x h e = absurd (omega arith)
cells_more g (y ∷ xs) zero x h e = ap (λ z. g z ∷ []) (sym e)
cells_more g (y ∷ xs) (suc i) x h e = ap (λ ys. g y ∷ ys) (cells_more g xs i x (omega arith) e)

-- one more made of a cell
pub one_cell_more : (g : Value → Value) (xs made : List Value) (i : ℕ) (x v : Value) → i < length xs → x ≡ cell_of xs i → v ≡ g x → made ≡ map g (take i xs) → made ++ v ∷ [] ≡ map g (take (suc i) xs)
one_cell_more g xs made i x v h is gives so = (λ j. so j ++ gives j ∷ []) ∙ sym (cells_more g xs i x h is)

-- what was found holds of these rows
pub found_members : (place : Value) (o : Over) (found : Option (Vec Value Global)) (vs : Vec Value Global) (n : ℕ) (s : Surroundings) (rows : List (List Value)) → found ≡ Some vs
    → IfSome found (λ ws. (s : Surroundings) (rows : List (List Value)) → length rows ≡ n → members_at place o s rows ≡ Is ws.items) → length rows ≡ n → members_at place o s rows ≡ Is vs.items
found_members place o None vs n s rows is known long = absurd (cc)
found_members place o (Some ws) vs n s rows is known long =
    let same : ws ≡ vs = cc in
    known s rows long ∙ ap (λ (us : Vec Value Global). Is us.items) same
