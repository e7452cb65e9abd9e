-- An expression means what its plain term means.
use Rattle.std.proofs.Common.{◌≡◌, List, [], ◌∷◌, map, refl, sym, ap, ◌∙◌, subst}
use Rattle.kq_plan_expressions.specs.declared.expr.Expr.{Expr}
use Rattle.kq_plan_expressions.specs.declared.expr.Expr.TheOpen.{Expr-F}
use Rattle.kq_plan_expressions.specs.declared.expr.Expr.TheViews.{roll-Expr}
use Rattle.kq_plan_expressions.specs.declared.expr.Expr.TheFolds.{ind-Expr, fold-roll-Expr, map-Expr}
use Rattle.kq_plan_expressions.specs.declared.expr.Link.{Link}
use Rattle.kq_plan_expressions.specs.declared.expr.Link.TheVariants as link
use Rattle.kq_plan_expressions.specs.Terms.{Term, terms_of, mapped, one_term, term_of}
use Rattle.kq_plan_expressions.specs.declared.expr.Expr.TheShapes.{former-Expr-Chain-1-at-2}
use Rattle.kq_value.specs.Computed.{and_then}
use Rattle.kq_eval_row.specs.Val.{Meaning, called, val, val_step, links_at, meaning, meanings}
use Rattle.kq_eval_row.proofs.Chains.{chain_is_calls}

abbrev IsMeant : Expr → Type 0
IsMeant e = val e ≡ meaning (term_of e)

all_meant : (es : List ((e : Expr) × IsMeant e)) → map val (map (λ e. e.0) es) ≡ meanings (terms_of (map term_of (map (λ e. e.0) es)))
all_meant [] = refl
all_meant (e ∷ es) = λ i. e.1 i ∷ all_meant es i

all_links : (ls : List (Link ((e : Expr) × IsMeant e)))
    → map (former-Expr-Chain-1-at-2.map Expr Meaning val) (map (former-Expr-Chain-1-at-2.map ((e : Expr) × IsMeant e) Expr (λ e. e.0)) ls)
    ≡ map (mapped meaning) (map (former-Expr-Chain-1-at-2.map Expr Term term_of) (map (former-Expr-Chain-1-at-2.map ((e : Expr) × IsMeant e) Expr (λ e. e.0)) ls))
all_links [] = refl
all_links (link.ToLong ∷ ls) = ap (λ ks. link.ToLong ∷ ks) (all_links ls)
all_links (link.With o e ∷ ls) = λ i. link.With o (e.1 i) ∷ all_links ls i

level : (y : Expr-F ((e : Expr) × IsMeant e))
    → val_step (map-Expr Expr Meaning val (map-Expr ((e : Expr) × IsMeant e) Expr (λ e. e.0) y))
    ≡ meaning (one_term (map-Expr Expr Term term_of (map-Expr ((e : Expr) × IsMeant e) Expr (λ e. e.0) y)))
level (Expr-F.Literal v) = refl
level (Expr-F.Column i) = refl
level (Expr-F.Cell i) = refl
level (Expr-F.Call f args) = λ i s row. called f (all_meant args.items i) s row
level (Expr-F.Chain e ls) =
    let terms = map (former-Expr-Chain-1-at-2.map Expr Term term_of) (map (former-Expr-Chain-1-at-2.map ((e : Expr) × IsMeant e) Expr (λ e. e.0)) ls.items) in
    (λ i s row. and_then (e.value.1 i s row) (links_at (all_links ls.items i) s row)) ∙ (λ i s row. chain_is_calls (term_of e.value.0) terms s row i)

here : (y : Expr-F ((e : Expr) × IsMeant e)) → IsMeant (roll-Expr (map-Expr ((e : Expr) × IsMeant e) Expr (λ e. e.0) y))
here y =
    let x = map-Expr ((e : Expr) × IsMeant e) Expr (λ e. e.0) y in
    fold-roll-Expr Meaning val_step x ∙ level y ∙ ap meaning (sym (fold-roll-Expr Term one_term x))

pub val_is_meaning : (e : Expr) → val e ≡ meaning (term_of e)
val_is_meaning = ind-Expr IsMeant (λ x y is. subst (λ (z : Expr-F Expr). IsMeant (roll-Expr z)) is (here y))
