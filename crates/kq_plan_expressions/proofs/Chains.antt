-- Chains as terms.
use Rattle.std.proofs.Common.{◌≡◌, List, [], ◌∷◌, ◌++◌, map, refl, sym, ap, ◌∙◌, Vec}
use Rattle.std.proofs.lemmas.List.{map-append}
use Rattle.std.specs.declared.alloc.Global.{Global}
use Rattle.std.specs.Prelude.{Box}
use Rattle.kq_plan_expressions.specs.declared.expr.Expr.{Expr}
use Rattle.kq_plan_expressions.specs.declared.expr.Expr.TheOpen.{Expr-F}
use Rattle.kq_plan_expressions.specs.declared.expr.Expr.TheFolds.{fold-roll-Expr}
use Rattle.kq_plan_expressions.specs.declared.expr.Expr.TheShapes.{former-Expr-Chain-1-at-2}
use Rattle.kq_plan_expressions.specs.declared.expr.Expr.TheVariants.{Chain, rolls-Chain}
use Rattle.kq_plan_expressions.specs.declared.expr.Link.{Link}
use Rattle.kq_plan_expressions.specs.declared.expr.Link.TheVariants as link
use Rattle.kq_plan_expressions.specs.Terms.{Term, one_term, mapped, linked, chained, term_of, link_of}

-- each operand of a chain in its place
pub all_mapped : {A B : Type 0} (f : A → B) (ls : List (Link A)) → map (former-Expr-Chain-1-at-2.map A B f) ls ≡ map (mapped f) ls
all_mapped f [] = refl
all_mapped f (link.ToLong ∷ ls) = ap (λ ks. link.ToLong ∷ ks) (all_mapped f ls)
all_mapped f (link.With o a ∷ ls) = ap (λ ks. link.With o (f a) ∷ ks) (all_mapped f ls)

linked_last : (e : Term) (ls : List (Link Term)) (l : Link Term) → chained e (ls ++ l ∷ []) ≡ linked (chained e ls) l
linked_last e [] l = refl
linked_last e (k ∷ ls) l = linked_last (linked e k) ls l

-- a chain is what its links make of its first operand
pub term_of_chain : (b : Box Expr Global) (ls : Vec (Link Expr) Global) → term_of (Chain b ls) ≡ chained (term_of b.value) (map link_of ls.items)
term_of_chain b ls = ap term_of (sym (rolls-Chain b ls)) ∙ fold-roll-Expr Term one_term (Expr-F.Chain b ls) ∙ ap (chained (term_of b.value)) (all_mapped term_of ls.items)

-- a chain with a link more
pub grown : (b : Box Expr Global) (ls ms : Vec (Link Expr) Global) (l : Link Expr) → ms.items ≡ ls.items ++ l ∷ [] → term_of (Chain b ms) ≡ linked (term_of (Chain b ls)) (link_of l)
grown b ls ms l more =
    term_of_chain b ms ∙ ap (λ ks. chained (term_of b.value) (map link_of ks)) more ∙ ap (chained (term_of b.value)) (map-append link_of ls.items (l ∷ []))
    ∙ linked_last (term_of b.value) (map link_of ls.items) (link_of l) ∙ ap (λ e. linked e (link_of l)) (sym (term_of_chain b ls))
