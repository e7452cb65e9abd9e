-- Terms that read no column.
use Rattle.std.specs.Prelude.{Bool, true, false, ◌||◌}
use Rattle.kq_plan_expressions.specs.declared.expr.Link.{Link}
use Rattle.kq_plan_expressions.specs.declared.expr.Link.TheVariants as link
use Rattle.kq_plan_expressions.specs.Terms.{Term, Terms, literal, column, cell, call, no_term, and_term}

-- whether a column stands anywhere in a term
abbrev mutual
  pub reads : Term → Bool
  reads (literal v) = false
  reads (column i) = true
  reads (cell i) = false
  reads (call f es) = some_reads es

  pub some_reads : Terms → Bool
  some_reads no_term = false
  some_reads (and_term e es) = reads e || some_reads es

abbrev pub link_reads : Link Term → Bool
link_reads link.ToLong = false
link_reads (link.With o e) = reads e
