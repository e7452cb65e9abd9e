-- Which expressions are columns.
use Rattle.std.proofs.Common.{◌≡◌, ℕ, sym, ap, ◌∙◌}
use Rattle.kq_plan_expressions.specs.declared.expr.Expr.{Expr}
use Rattle.kq_plan_expressions.specs.declared.expr.Expr.TheOpen.{Expr-F}
use Rattle.kq_plan_expressions.specs.declared.expr.Expr.TheVariants.{Column, rolls-Column}
use Rattle.kq_plan_expressions.specs.declared.expr.Expr.TheFolds.{fold-roll-Expr}
use Rattle.kq_plan_expressions.specs.Terms.{Term, column, one_term, term_of}

pub column_is : (e : Expr) (j : ℕ) → e ≡ Column j → term_of e ≡ column j
column_is e j is = ap term_of (is ∙ sym (rolls-Column j)) ∙ fold-roll-Expr Term one_term (Expr-F.Column j)
