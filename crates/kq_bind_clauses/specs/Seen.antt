-- What the code has made, as the definitions speak of it.
use Rattle.std.specs.Prelude.{ℕ, List, map}
use Rattle.kq_bind_clauses.specs.declared.ranges.Ranging.{Ranging as RangingMade}
use Rattle.kq_bind_clauses.specs.declared.tables.Tabling.{Tabling}
use Rattle.kq_bind_clauses.specs.declared.unions.ArmColumns.{ArmColumns}
use Rattle.kq_bind_clauses.specs.Ranges.{Ranging}
use Rattle.kq_bind_clauses.specs.Tables.{Tabled}
use Rattle.kq_plan_expressions.specs.Terms.{term_of}
use Rattle.kq_plan.specs.Plans.{cells_seen}
use Rattle.kq_value.specs.declared.schema.Field.{Field}

abbrev pub ranging_of : RangingMade → Ranging
ranging_of r = record { first = term_of r.first; last = term_of r.last; step = term_of r.step; ty = r.ty }

abbrev pub tabled_of : Tabling → Tabled
tabled_of t = (t.columns.items, map cells_seen t.rows.items)

abbrev pub arm_of : ArmColumns → ℕ × List Field
arm_of a = (a.input, a.columns.items)
