-- What asks for the moment of a command in a chain.
use Rattle.std.proofs.Common.{◌≡◌, Bool, true, false, List, [], ◌∷◌, map, Vec, refl, ap, ◌∙◌}
use Rattle.std.specs.Prelude.{Box, ◌||◌}
use Rattle.std.specs.List.{list_any}
use Rattle.std.specs.declared.alloc.Global.{Global}
use Rattle.kq_plan_expressions.specs.declared.expr.Expr.{Expr}
use Rattle.kq_plan_expressions.specs.declared.expr.Expr.TheVariants.{Chain}
use Rattle.kq_plan_expressions.specs.declared.expr.Link.{Link}
use Rattle.kq_plan_expressions.specs.declared.expr.Link.TheVariants as link
use Rattle.kq_plan_expressions.specs.declared.operation.Operation.{Operation}
use Rattle.kq_plan_expressions.specs.declared.operation.Operation.TheVariants as operation
use Rattle.kq_plan_expressions.specs.Operations.{function_of}
use Rattle.kq_plan_expressions.specs.Terms.{Term, and_term, linked, chained, link_of, term_of}
use Rattle.kq_plan_expressions.proofs.Chains.{term_of_chain}
use Rattle.kq_catalog_journal.specs.Moments.{is_moment, asks}
use Rattle.kq_policy_moments.specs.Links.{link_asks}

or_false : (a : Bool) → (a || false) ≡ a
or_false true = refl
or_false false = refl

or_last : (a b c : Bool) → ((a || (b || false)) || c) ≡ (a || (b || c))
or_last true b c = refl
or_last false true c = refl
or_last false false c = refl

-- no operation is the moment
no_moment : (o : Operation) → is_moment (function_of o) ≡ false
no_moment operation.Or = refl
no_moment operation.And = refl
no_moment operation.Add = refl
no_moment operation.Subtract = refl
no_moment operation.Multiply = refl
no_moment operation.Divide = refl
no_moment operation.Remainder = refl
no_moment operation.Member = refl

links_ask : (e : Term) (ls : List (Link Term)) → asks (chained e ls) ≡ (asks e || list_any link_asks ls)
links_ask e [] = rw (or_false (asks e)) refl
links_ask e (link.ToLong ∷ ls) = links_ask (linked e link.ToLong) ls ∙ ap (λ a. a || list_any link_asks ls) (or_false (asks e))
links_ask e (link.With o a ∷ ls) =
    links_ask (linked e (link.With o a)) ls
    ∙ ap (λ m. (m || (asks e || (asks a || false))) || list_any link_asks ls) (no_moment o)
    ∙ or_last (asks e) (asks a) (list_any link_asks ls)

-- the first of a chain asks, or one of its operands
pub chain_asks : (b : Box Expr Global) (ls : Vec (Link Expr) Global) → asks (term_of (Chain b ls)) ≡ (asks (term_of b.value) || list_any link_asks (map link_of ls.items))
chain_asks b ls = ap asks (term_of_chain b ls) ∙ links_ask (term_of b.value) (map link_of ls.items)
