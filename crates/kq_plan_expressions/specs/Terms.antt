-- Expressions as plain trees.
use Rattle.std.specs.Prelude.{ℕ, List, [], ◌∷◌}
use Rattle.kq_plan_functions.specs.kq_value.Ty.{Ty}
use Rattle.kq_plan_functions.specs.kq_value.Value.{Value}
use Rattle.kq_plan_functions.specs.declared.function.Function.{Function}
use Rattle.kq_plan_functions.specs.declared.function.Function.TheVariants as f
use Rattle.kq_plan_expressions.specs.declared.expr.Expr.{Expr, fold-Expr}
use Rattle.kq_plan_expressions.specs.declared.expr.Expr.TheOpen.{Expr-F}
use Rattle.kq_plan_expressions.specs.declared.expr.Link.{Link}
use Rattle.kq_plan_expressions.specs.declared.expr.Link.TheVariants as link
use Rattle.kq_plan_expressions.specs.declared.expr.Typed.{Typed}
use Rattle.kq_plan_expressions.specs.Operations.{function_of}

mutual
  pub data Term : Type 0 where
    literal : Value → Term
    column : ℕ → Term
    cell : ℕ → Term
    call : Function → Terms → Term

  pub data Terms : Type 0 where
    no_term : Terms
    and_term : Term → Terms → Terms

abbrev pub terms_of : List Term → Terms
terms_of [] = no_term
terms_of (e ∷ es) = and_term e (terms_of es)

-- an operand in its place
abbrev pub mapped : {A B : Type 0} → (A → B) → Link A → Link B
mapped f link.ToLong = link.ToLong
mapped f (link.With o a) = link.With o (f a)

-- the call that a link is, at what stands so far
abbrev pub linked : Term → Link Term → Term
linked e link.ToLong = call f.ToLong (and_term e no_term)
linked e (link.With o a) = call (function_of o) (and_term e (and_term a no_term))

-- the links of a chain, from the left
abbrev pub chained : Term → List (Link Term) → Term
chained e [] = e
chained e (l ∷ ls) = chained (linked e l) ls

abbrev pub one_term : Expr-F Term → Term
one_term (Expr-F.Literal v) = literal v
one_term (Expr-F.Column i) = column i
one_term (Expr-F.Cell i) = cell i
one_term (Expr-F.Call f es) = call f (terms_of es.items)
one_term (Expr-F.Chain e ls) = chained e.value ls.items

abbrev pub term_of : Expr → Term
term_of = fold-Expr Term one_term

abbrev pub link_of : Link Expr → Link Term
link_of = mapped term_of

-- an expression and the type of what it gives
abbrev pub Bound : Type 0
Bound = Term × Ty

abbrev pub typed_of : Typed → Bound
typed_of x = (term_of x.expr, x.ty)
