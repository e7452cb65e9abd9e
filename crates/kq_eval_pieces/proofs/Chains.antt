-- The columns that a chain reads.
use Rattle.std.proofs.Common.{◌≡◌, ◌<◌, ℕ, false, List, [], ◌∷◌, ◌++◌, map, length, Vec, refl, sym, ap, ◌∙◌, arith}
use Rattle.std.specs.List.{concat}
use Rattle.std.specs.declared.alloc.Global.{Global}
use Rattle.std.specs.Prelude.{Box}
use Rattle.kq_eval_columns.specs.kq_plan_functions.Function.{Function}
use Rattle.kq_eval_columns.specs.kq_plan_functions.TheVariants as f
use Rattle.kq_plan_expressions.specs.declared.expr.Expr.{Expr}
use Rattle.kq_plan_expressions.specs.declared.expr.Expr.TheOpen.{Expr-F}
use Rattle.kq_plan_expressions.specs.declared.expr.Expr.TheFolds.{fold-roll-Expr}
use Rattle.kq_plan_expressions.specs.declared.expr.Expr.TheVariants.{Chain, rolls-Chain}
use Rattle.kq_plan_expressions.specs.declared.expr.Link.{Link}
use Rattle.kq_plan_expressions.specs.declared.expr.Link.TheVariants as link
use Rattle.kq_plan_expressions.specs.Operations.{function_of}
use Rattle.kq_plan_expressions.specs.Terms.{Term, call, Terms, no_term, and_term, mapped, chained, link_of, term_of}
use Rattle.kq_plan_expressions.proofs.Chains.{all_mapped, term_of_chain}
use Rattle.kq_eval_pieces.specs.Pieces.{reads_link, reads_step, columns_read, is_column}

-- the columns of the first, and then of each operand
pub reads_of_chain : (b : Box Expr Global) (ls : Vec (Link Expr) Global) → columns_read (Chain b ls) ≡ columns_read b.value ++ concat (map reads_link (map (mapped columns_read) ls.items))
reads_of_chain b ls =
    ap columns_read (sym (rolls-Chain b ls)) ∙ fold-roll-Expr (List ℕ) reads_step (Expr-F.Chain b ls)
    ∙ ap (λ ks. columns_read b.value ++ concat (map reads_link ks)) (all_mapped columns_read ls.items)

links_of_call : (g : Function) (es : Terms) (ls : List (Link Term)) → is_column (chained (call g es) ls) ≡ false
links_of_call g es [] = refl
links_of_call g es (link.ToLong ∷ ls) = links_of_call f.ToLong (and_term (call g es) no_term) ls
links_of_call g es (link.With o e ∷ ls) = links_of_call (function_of o) (and_term (call g es) (and_term e no_term)) ls

one_or_more : (e : Term) (ls : List (Link Expr)) → 0 < length ls → is_column (chained e (map link_of ls)) ≡ false
one_or_more e [] h = absurd (omega arith)
one_or_more e (link.ToLong ∷ ls) h = links_of_call f.ToLong (and_term e no_term) (map link_of ls)
one_or_more e (link.With o a ∷ ls) h = links_of_call (function_of o) (and_term e (and_term (term_of a) no_term)) (map link_of ls)

-- a chain without a link is its first
pub no_links : (b : Box Expr Global) (ls : Vec (Link Expr) Global) → ls.items ≡ [] → term_of (Chain b ls) ≡ term_of b.value
no_links b ls none = term_of_chain b ls ∙ ap (λ ks. chained (term_of b.value) (map link_of ks)) none

-- a chain with one is a call
pub some_links : (b : Box Expr Global) (ls : Vec (Link Expr) Global) → 0 < length ls.items → is_column (term_of (Chain b ls)) ≡ false
some_links b ls some = ap is_column (term_of_chain b ls) ∙ one_or_more (term_of b.value) ls.items some
