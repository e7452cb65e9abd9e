-- Conditions that are joined by `and`.
use Rattle.std.proofs.Common.{◌≡◌, ◌<◌, ◌+◌, ◌||◌, ◌&&◌, ℕ, Bool, true, false, cond, List, [], ◌∷◌, ◌++◌, length, map, get_or, take, refl, sym, ap, ◌∙◌, subst, arith}
use Rattle.std.proofs.lemmas.List.{map-append, take_more}
use Rattle.kq_value.specs.declared.ty.Ty.TheVariants as ty
use Rattle.kq_value.specs.declared.value.Value.{Value}
use Rattle.kq_value.specs.declared.value.Value.TheVariants as value
use Rattle.kq_value.specs.declared.zone.ZoneOp.{ZoneOp}
use Rattle.kq_value_arithmetic.specs.Logic.{conjunction, is_no, is_yes}
use Rattle.kq_value.specs.Computed.{Is}
use Rattle.kq_plan_expressions.specs.declared.expr.Link.{Link}
use Rattle.kq_plan_expressions.specs.declared.expr.Link.TheVariants as link
use Rattle.kq_plan_expressions.specs.declared.operation.Operation.TheVariants as operation
use Rattle.kq_plan_expressions.specs.declared.expr.Expr.{Expr}
use Rattle.kq_plan_expressions.specs.Terms.{Term, and_term, call, chained, column, link_of, linked, literal, no_term, terms_of}
use Rattle.kq_plan_functions.specs.declared.function.Function.TheVariants as f
use Rattle.kq_run_row_operators.specs.kq_eval_pieces.Operators.{Row}
use Rattle.kq_run_row_operators.specs.kq_eval_row.Val.{Surroundings, called, cell_of, meaning}
use Rattle.kq_run_scan.specs.Ruled.{AreEnds, Compares, IsConjunct, IsJudged, KeepsNone, MeetNone, answered}
use Rattle.kq_run_scan.specs.declared.ruled.Comparison.{Comparison}
use Rattle.kq_run_scan.proofs.LeftOut.{compares_none}

not_yes : (no both : Bool) → both ≡ false → is_yes (cond no (value.Bool false) (cond both (value.Bool true) (value.Null ty.Bool))) ≡ false
not_yes true both h = refl
not_yes false true h = cc
not_yes false false h = refl

first_no : (a b : Bool) → a ≡ false → (a && b) ≡ false
first_no true b h = cc
first_no false b h = refl

second_no : (a b : Bool) → b ≡ false → (a && b) ≡ false
second_no true b h = h
second_no false b h = refl

pub judged_one : (e : Term) (c : Comparison) (rows : List Row) (none : Bool) → Compares e c → (none ≡ true → MeetNone c rows) → IsJudged e rows none
judged_one e c rows none compares met = record {
  comes = λ s k d within. let row = get_or rows k d in (answered c.op (cell_of row c.column) c.value.now, compares.is s row);
  none = λ told. compares_none e c rows compares (met told);
}

both_come : (e a : Term) (s : Surroundings) (row : Row) (v w : Value) → meaning e s row ≡ Is v → meaning a s row ≡ Is w → meaning (linked e (link.With operation.And a)) s row ≡ Is (conjunction v w)
both_come e a s row v w p q = (λ i. called f.And ((λ (t : Surroundings) (r : List Value). p i) ∷ (λ (t : Surroundings) (r : List Value). q i) ∷ []) s row)

pub both_judged : (e a : Term) (rows : List Row) (none more : Bool) → IsJudged e rows none → IsJudged a rows more → IsJudged (linked e (link.With operation.And a)) rows (none || more)
both_judged e a rows none more first second = record {
  comes = λ s k d within.
      let p = first.comes s k d within in
      let q = second.comes s k d within in
      (conjunction p.0 q.0, both_come e a s (get_or rows k d) p.0 q.0 p.1 q.1);
  none = λ told. by none refl told;
}
  where
    Joined : Type 0
    Joined = KeepsNone (linked e (link.With operation.And a)) rows

    by_second : more ≡ true → Joined
    by_second is s k d within =
        let p = first.comes s k d within in
        let q = second.none is s k d within in (
          conjunction p.0 q.0,
          both_come e a s (get_or rows k d) p.0 q.0 p.1 q.1,
          not_yes (is_no p.0 || is_no q.0) (is_yes p.0 && is_yes q.0) (second_no (is_yes p.0) (is_yes q.0) q.2),
        )

    by : (b : Bool) → none ≡ b → (b || more) ≡ true → Joined
    by true is told s k d within =
        let p = first.none is s k d within in
        let q = second.comes s k d within in (
          conjunction p.0 q.0,
          both_come e a s (get_or rows k d) p.0 q.0 p.1 q.1,
          not_yes (is_no p.0 || is_no q.0) (is_yes p.0 && is_yes q.0) (first_no (is_yes p.0) (is_yes q.0) p.2),
        )
    by false is told s k d within = by_second told s k d within

pub link_more : (e : Term) (l : Link Term) (rows : List Row) (none more : Bool) → IsJudged e rows none → IsConjunct l rows more → IsJudged (linked e l) rows (none || more)
link_more e l rows none more first conjunct =
    subst (λ (k : Link Term). IsJudged (linked e k) rows (none || more)) (sym conjunct.is) (both_judged e conjunct.operand rows none more first conjunct.judged)

linked_last : (e : Term) (ls : List (Link Term)) (l : Link Term) → chained e (ls ++ l ∷ []) ≡ linked (chained e ls) l
linked_last e [] l = refl
linked_last e (k ∷ ls) l = linked_last (linked e k) ls l

-- a chain with one link more
pub chain_more : (e : Term) (ls : List (Link Expr)) (i : ℕ) (l : Link Expr) → i < length ls → l ≡ get_or ls i l → chained e (map link_of (take (i + 1) ls)) ≡ linked (chained e (map link_of (take i ls))) (link_of l)
chain_more e ls i l within is =
    ap (λ (ks : List (Link Expr)). chained e (map link_of ks)) (take_more ls i l within ∙ ap (λ (k : Link Expr). take i ls ++ k ∷ []) (sym is))
    ∙ ap (chained e) (map-append link_of (take i ls) (l ∷ [])) ∙ linked_last e (map link_of (take i ls)) (link_of l)

-- what is judged of a term is judged of one that comes to the same for each row
judged_as : (e a : Term) (rows : List Row) (none : Bool) → ((s : Surroundings) (row : Row) → meaning a s row ≡ meaning e s row) → IsJudged e rows none → IsJudged a rows none
judged_as e a rows none same judged = record {
  comes = λ s k d within. let p = judged.comes s k d within in (p.0, same s (get_or rows k d) ∙ p.1);
  none = λ told s k d within. let p = judged.none told s k d within in (p.0, same s (get_or rows k d) ∙ p.1, p.2);
}

low_end : (args : List Term) (low high : Comparison) → AreEnds args low high → Compares (call f.AtLeast (and_term (column low.column) (and_term (literal low.value.now) no_term))) low
low_end args low high ends = record { is = λ s row. ap (λ (o : ZoneOp). Is (answered o (cell_of row low.column) low.value.now)) (sym ends.at_least) }

high_end : (args : List Term) (low high : Comparison) → AreEnds args low high → Compares (call f.AtMost (and_term (column low.column) (and_term (literal high.value.now) no_term))) high
high_end args low high ends = record {
  is = λ s row. ap (λ (o : ZoneOp). Is (answered o (cell_of row low.column) high.value.now)) (sym ends.at_most)
      ∙ ap (λ (j : ℕ). Is (answered high.op (cell_of row j) high.value.now)) (sym ends.same);
}

pub ends_judged : (args : List Term) (low high : Comparison) (rows : List Row) (none more : Bool) → AreEnds args low high → (none ≡ true → MeetNone low rows) → (more ≡ true → MeetNone high rows) → IsJudged (call f.Between (terms_of args)) rows (none || more)
ends_judged args low high rows none more ends first second =
    let e = call f.AtLeast (and_term (column low.column) (and_term (literal low.value.now) no_term)) in
    let a = call f.AtMost (and_term (column low.column) (and_term (literal high.value.now) no_term)) in
    let joined = both_judged e a rows none more (judged_one e low rows none (low_end args low high ends) first) (judged_one a high rows more (high_end args low high ends) second) in
    subst (λ (ts : List Term). IsJudged (call f.Between (terms_of ts)) rows (none || more)) (sym ends.args_are)
    (judged_as (linked e (link.With operation.And a)) (call f.Between (and_term (column low.column) (and_term (literal low.value.now) (and_term (literal high.value.now) no_term)))) rows (none || more) (λ s row. refl) joined)

-- a list of two
pub two_items : {A : Type 0} (xs : List A) (a b : A) → length xs ≡ 2 → a ≡ get_or xs 0 a → b ≡ get_or xs 1 b → xs ≡ a ∷ b ∷ []
two_items [] a b long first second = absurd (cc)
two_items (x ∷ []) a b long first second = absurd (cc)
two_items (x ∷ y ∷ []) a b long first second = (λ i. sym first i ∷ sym second i ∷ [])
two_items (x ∷ y ∷ z ∷ xs) a b long first second = absurd (omega (arith, long))

-- whether the first of two holds says which of them tells whether one does
pub first_of : (a b : Bool) → a ≡ true → (a || b) ≡ a
first_of true b h = refl
first_of false b h = cc

pub second_of : (a b : Bool) → a ≡ false → (a || b) ≡ b
second_of true b h = cc
second_of false b h = refl
