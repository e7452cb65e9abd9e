-- What asks for the moment of a command in a chain.
use Rattle.std.specs.Prelude.{Bool, false}
use Rattle.kq_catalog_journal.specs.Moments.{asks}
use Rattle.kq_plan_expressions.specs.declared.expr.Link.{Link}
use Rattle.kq_plan_expressions.specs.declared.expr.Link.TheVariants as link
use Rattle.kq_plan_expressions.specs.Terms.{Term}

abbrev pub link_asks : Link Term → Bool
link_asks link.ToLong = false
link_asks (link.With o e) = asks e
