-- What a term without a column gives.
use Rattle.std.proofs.Common.{◌≡◌, ◌||◌, Bool, true, false, List, [], ◌∷◌, map, Vec, refl, ap, ◌∙◌}
use Rattle.std.specs.Prelude.{Box, if◌then◌else◌}
use Rattle.std.specs.List.{list_any}
use Rattle.std.specs.declared.alloc.Global.{Global}
use Rattle.kq_value.specs.declared.value.Value.{Value}
use Rattle.kq_value_arithmetic.specs.Logic.{is_yes}
use Rattle.kq_value.specs.Computed.{Computed, Is, and_then}
use Rattle.kq_plan_expressions.specs.declared.expr.Expr.{Expr}
use Rattle.kq_plan_expressions.specs.declared.expr.Expr.TheVariants.{Chain}
use Rattle.kq_plan_expressions.specs.declared.expr.Link.{Link}
use Rattle.kq_plan_expressions.specs.declared.expr.Link.TheVariants as link
use Rattle.kq_plan_expressions.specs.Terms.{Term, Terms, literal, column, cell, call, no_term, and_term, linked, chained, link_of, term_of}
use Rattle.kq_plan_expressions.proofs.Chains.{term_of_chain}
use Rattle.kq_plan_functions.specs.declared.function.Function.{Function}
use Rattle.kq_plan_functions.specs.declared.function.Function.TheVariants as f
use Rattle.kq_run_row_operators.specs.kq_eval_pieces.Operators.{Row}
use Rattle.kq_run_row_operators.specs.kq_eval_row.Val.{Surroundings, Meaning, called, first_chosen, first_present, meaning, meanings, values}
use Rattle.kq_run_scan.specs.Constant.{link_reads, reads, some_reads}

-- ---- whether a chain reads a column

or_false : (a : Bool) → (a || false) ≡ a
or_false true = refl
or_false false = refl

or_last : (a b c : Bool) → ((a || (b || false)) || c) ≡ (a || (b || c))
or_last true b c = refl
or_last false true c = refl
or_last false false c = refl

links_read : (e : Term) (ls : List (Link Term)) → reads (chained e ls) ≡ (reads e || list_any link_reads ls)
links_read e [] = rw (or_false (reads e)) refl
links_read e (link.ToLong ∷ ls) = links_read (linked e link.ToLong) ls ∙ ap (λ a. a || list_any link_reads ls) (or_false (reads e))
links_read e (link.With o a ∷ ls) = links_read (linked e (link.With o a)) ls ∙ or_last (reads e) (reads a) (list_any link_reads ls)

-- the first of a chain reads one, or one of its operands
pub chain_reads : (b : Box Expr Global) (ls : Vec (Link Expr) Global) → reads (term_of (Chain b ls)) ≡ (reads (term_of b.value) || list_any link_reads (map link_of ls.items))
chain_reads b ls = ap reads (term_of_chain b ls) ∙ links_read (term_of b.value) (map link_of ls.items)

-- ---- calls whose arguments give the same

module _ (s : Surroundings) (q r : Row) where
  -- each gives of the one row what the other gives of the other
  abbrev pub GiveSame : List Meaning → List Meaning → Type 0
  GiveSame [] [] = Unit {0}
  GiveSame (m ∷ ms) (n ∷ ns) = (m s q ≡ n s r) × GiveSame ms ns
  GiveSame [] (n ∷ ns) = ⊥
  GiveSame (m ∷ ms) [] = ⊥

  same_values : (ms ns : List Meaning) → GiveSame ms ns → values ms s q ≡ values ns s r
  same_values [] [] h = refl
  same_values (m ∷ ms) (n ∷ ns) h = λ j. and_then (h.0 j) (λ v. and_then (same_values ms ns h.1 j) (λ vs. Is (v ∷ vs)))
  same_values [] (n ∷ ns) h = absurd h
  same_values (m ∷ ms) [] h = absurd h

  same_behind : (ms ns : List Meaning) → GiveSame ms ns → (k : List Value → Computed Value) → and_then (values ms s q) k ≡ and_then (values ns s r) k
  same_behind ms ns h k = ap (λ c. and_then c k) (same_values ms ns h)

  same_chosen : (ms ns : List Meaning) → GiveSame ms ns → first_chosen ms s q ≡ first_chosen ns s r
  same_chosen [] [] h = refl
  same_chosen (m ∷ []) (n ∷ []) h = h.0
  same_chosen (p ∷ m ∷ ms) (o ∷ n ∷ ns) h = λ j. and_then (h.0 j) (λ v. if is_yes v then h.1.0 j else same_chosen ms ns h.1.1 j)
  same_chosen (m ∷ []) (n ∷ o ∷ ns) h = absurd h.1
  same_chosen (m ∷ o ∷ ms) (n ∷ []) h = absurd h.1
  same_chosen [] (n ∷ ns) h = absurd h
  same_chosen (m ∷ ms) [] h = absurd h

  same_present : (ms ns : List Meaning) → GiveSame ms ns → first_present ms s q ≡ first_present ns s r
  same_present [] [] h = refl
  same_present (m ∷ []) (n ∷ []) h = h.0
  same_present (p ∷ m ∷ ms) (o ∷ n ∷ ns) h = λ j. first_present ((λ (t : Surroundings) (row : Row). h.0 j) ∷ (λ (t : Surroundings) (row : Row). same_present (m ∷ ms) (n ∷ ns) h.1 j) ∷ []) s q
  same_present (m ∷ []) (n ∷ o ∷ ns) h = absurd h.1
  same_present (m ∷ o ∷ ms) (n ∷ []) h = absurd h.1
  same_present [] (n ∷ ns) h = absurd h
  same_present (m ∷ ms) [] h = absurd h

  pub same_called : (function : Function) (ms ns : List Meaning) → GiveSame ms ns → called function ms s q ≡ called function ns s r
  same_called f.Iff ms ns h = same_chosen ms ns h
  same_called f.Case ms ns h = same_chosen ms ns h
  same_called f.Coalesce ms ns h = same_present ms ns h
  same_called function ms ns h = same_behind ms ns h _

-- ---- what reads no column

left_false : (a b : Bool) → (a || b) ≡ false → a ≡ false
left_false true b e = e
left_false false b e = refl

right_false : (a b : Bool) → (a || b) ≡ false → b ≡ false
right_false true b e = absurd (cc)
right_false false b e = e

mutual
  -- gives the same of any two rows
  pub same_alone : (t : Term) → reads t ≡ false → (s : Surroundings) (q r : Row) → meaning t s q ≡ meaning t s r
  same_alone (literal v) none s q r = refl
  same_alone (column i) none s q r = absurd (cc)
  same_alone (cell i) none s q r = refl
  same_alone (call function es) none s q r = same_called s q r function (meanings es) (meanings es) (all_alone es none s q r)

  all_alone : (es : Terms) → some_reads es ≡ false → (s : Surroundings) (q r : Row) → GiveSame s q r (meanings es) (meanings es)
  all_alone no_term none s q r = tt
  all_alone (and_term e es) none s q r = (same_alone e (left_false (reads e) (some_reads es) none) s q r, all_alone es (right_false (reads e) (some_reads es) none) s q r)
