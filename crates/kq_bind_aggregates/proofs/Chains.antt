-- A chain with a link is a call, and no column and no literal.
use Rattle.std.proofs.Common.{◌≡◌, ◌<◌, ℕ, List, [], ◌∷◌, map, length, Vec, None, refl, ap, ◌∙◌, arith}
use Rattle.std.specs.Prelude.{Box}
use Rattle.std.specs.declared.alloc.Global.{Global}
use Rattle.kq_plan_expressions.specs.declared.expr.Expr.{Expr}
use Rattle.kq_plan_expressions.specs.declared.expr.Expr.TheVariants.{Chain}
use Rattle.kq_plan_expressions.specs.declared.expr.Link.{Link}
use Rattle.kq_plan_expressions.specs.declared.expr.Link.TheVariants as link
use Rattle.kq_plan_expressions.specs.Operations.{function_of}
use Rattle.kq_plan_expressions.specs.Terms.{Term, call, Terms, no_term, and_term, linked, chained, link_of, term_of}
use Rattle.kq_plan_expressions.specs.kq_plan_functions.Function.{Function}
use Rattle.kq_plan_expressions.specs.kq_plan_functions.TheVariants as f
use Rattle.kq_plan_expressions.proofs.Chains.{term_of_chain}
use Rattle.kq_bind_aggregates.specs.Arguments.{column_number}
use Rattle.kq_bind_aggregates.specs.Made.{most_said}

calls : (g : Function) (es : Terms) (ls : List (Link Term)) → (h : Function) × (ds : Terms) × (chained (call g es) ls ≡ call h ds)
calls g es [] = (g, es, refl)
calls g es (link.ToLong ∷ ls) = calls f.ToLong (and_term (call g es) no_term) ls
calls g es (link.With o e ∷ ls) = calls (function_of o) (and_term (call g es) (and_term e no_term)) ls

one_or_more : (e : Term) (ls : List (Link Expr)) → 0 < length ls → (h : Function) × (ds : Terms) × (chained e (map link_of ls) ≡ call h ds)
one_or_more e [] h = absurd (omega arith)
one_or_more e (link.ToLong ∷ ls) h = calls f.ToLong (and_term e no_term) (map link_of ls)
one_or_more e (link.With o a ∷ ls) h = calls (function_of o) (and_term e (and_term (term_of a) no_term)) (map link_of ls)

-- a chain without a link is its first
pub no_links : (b : Box Expr Global) (ls : Vec (Link Expr) Global) → ls.items ≡ [] → term_of (Chain b ls) ≡ term_of b.value
no_links b ls none = term_of_chain b ls ∙ ap (λ ks. chained (term_of b.value) (map link_of ks)) none

pub is_no_column : (b : Box Expr Global) (ls : Vec (Link Expr) Global) → 0 < length ls.items → column_number (term_of (Chain b ls)) ≡ None
is_no_column b ls some =
    let is = one_or_more (term_of b.value) ls.items some in
    ap column_number (term_of_chain b ls) ∙ ap column_number is.2

pub is_no_number : (b : Box Expr Global) (ls : Vec (Link Expr) Global) → 0 < length ls.items → most_said (term_of (Chain b ls)) ≡ None
is_no_number b ls some =
    let is = one_or_more (term_of b.value) ls.items some in
    ap most_said (term_of_chain b ls) ∙ ap most_said is.2
