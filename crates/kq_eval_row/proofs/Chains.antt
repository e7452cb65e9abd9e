-- What a chain gives is what the calls give that its links are.
use Rattle.std.proofs.Common.{◌≡◌, ℤ, List, [], ◌∷◌, map, Vec, refl, sym, ap, ◌∙◌}
use Rattle.std.specs.declared.alloc.Global.{Global}
use Rattle.std.specs.Prelude.{Box}
use Rattle.kq_value.specs.declared.value.Value.{Value}
use Rattle.kq_value.specs.Computed.{Computed, Is, Overflow, and_then}
use Rattle.kq_plan_expressions.specs.declared.expr.Expr.{Expr}
use Rattle.kq_plan_expressions.specs.declared.expr.Expr.TheOpen.{Expr-F}
use Rattle.kq_plan_expressions.specs.declared.expr.Expr.TheFolds.{fold-roll-Expr}
use Rattle.kq_plan_expressions.specs.declared.expr.Expr.TheVariants.{Chain, rolls-Chain}
use Rattle.kq_plan_expressions.specs.declared.expr.Link.{Link}
use Rattle.kq_plan_expressions.specs.declared.expr.Link.TheVariants as link
use Rattle.kq_plan_expressions.specs.declared.operation.Operation.{Operation}
use Rattle.kq_plan_expressions.specs.declared.operation.Operation.TheVariants as operation
use Rattle.kq_plan_expressions.specs.Operations.{function_of}
use Rattle.kq_plan_expressions.specs.Terms.{Term, mapped, linked, chained}
use Rattle.kq_plan_expressions.proofs.Chains.{all_mapped}
use Rattle.kq_plan_functions.specs.declared.function.Function.TheVariants as f
use Rattle.kq_eval_row.specs.Applied.{applied, at_two}
use Rattle.kq_eval_row.specs.Val.{Surroundings, Meaning, called, values, val, val_step, linked_at, links_at, meaning}

-- the value of a chain
pub val_of_chain : (b : Box Expr Global) (ls : Vec (Link Expr) Global) (s : Surroundings) (row : List Value)
    → val (Chain b ls) s row ≡ and_then (val b.value s row) (links_at (map (mapped val) ls.items) s row)
val_of_chain b ls s row =
    ap (λ (e : Expr). val e s row) (sym (rolls-Chain b ls)) ∙ ap (λ (m : Meaning). m s row) (fold-roll-Expr Meaning val_step (Expr-F.Chain b ls))
    ∙ ap (λ ks. and_then (val b.value s row) (links_at ks s row)) (all_mapped val ls.items)

-- an operation at two values
pub at_both : (o : Operation) (now : ℤ) (v w : Value) → applied (function_of o) now (v ∷ w ∷ []) ≡ at_two (function_of o) v w
at_both operation.Or now v w = refl
at_both operation.And now v w = refl
at_both operation.Add now v w = refl
at_both operation.Subtract now v w = refl
at_both operation.Multiply now v w = refl
at_both operation.Divide now v w = refl
at_both operation.Remainder now v w = refl
at_both operation.Member now v w = refl

-- an operation looks at all its arguments
pub looks : (o : Operation) (ms : List Meaning) (s : Surroundings) (row : List Value) → called (function_of o) ms s row ≡ and_then (values ms s row) (applied (function_of o) s.now)
looks operation.Or ms s row = refl
looks operation.And ms s row = refl
looks operation.Add ms s row = refl
looks operation.Subtract ms s row = refl
looks operation.Multiply ms s row = refl
looks operation.Divide ms s row = refl
looks operation.Remainder ms s row = refl
looks operation.Member ms s row = refl

last : (c : Computed Value) → and_then c (λ v. Is v) ≡ c
last Overflow = refl
last (Is v) = refl

alone : (c : Computed Value) (k : List Value → Computed Value) (rest : Value → Computed Value)
    → and_then c (λ v. and_then (k (v ∷ [])) rest) ≡ and_then (and_then (and_then c (λ v. Is (v ∷ []))) k) rest
alone Overflow k rest = refl
alone (Is v) k rest = refl

both : (c d : Computed Value) (k : List Value → Computed Value) (rest : Value → Computed Value)
    → and_then c (λ v. and_then (and_then d (λ w. k (v ∷ w ∷ []))) rest) ≡ and_then (and_then (and_then c (λ v. and_then (and_then d (λ w. Is (w ∷ []))) (λ vs. Is (v ∷ vs)))) k) rest
both Overflow d k rest = refl
both (Is v) Overflow k rest = refl
both (Is v) (Is w) k rest = refl

-- the links at what a term gives are the term of all those calls
pub chain_is_calls : (e : Term) (ls : List (Link Term)) (s : Surroundings) (row : List Value)
    → and_then (meaning e s row) (links_at (map (mapped meaning) ls) s row) ≡ meaning (chained e ls) s row
chain_is_calls e [] s row = last (meaning e s row)
chain_is_calls e (link.ToLong ∷ ls) s row =
    alone (meaning e s row) (applied f.ToLong s.now) (links_at (map (mapped meaning) ls) s row) ∙ chain_is_calls (linked e link.ToLong) ls s row
chain_is_calls e (link.With o a ∷ ls) s row =
    let rest = links_at (map (mapped meaning) ls) s row in
    both (meaning e s row) (meaning a s row) (applied (function_of o) s.now) rest
    ∙ ap (λ c. and_then c rest) (sym (looks o (meaning e ∷ meaning a ∷ []) s row))
    ∙ chain_is_calls (linked e (link.With o a)) ls s row
