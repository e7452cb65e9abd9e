-- Plans of update policies into tables of some columns.
use Rattle.std.specs.Prelude.{ℕ, Bool, false, List, nat_eq}
use Rattle.std.specs.Cmp.Lexicographic.{pointwise}
use Rattle.kq_policy_moments.specs.kq_catalog_journal.PolicyBodies.{IsPolicyBody}
use Rattle.kq_plan.specs.declared.work.LeafKind.TheVariants as kind
use Rattle.kq_plan.specs.Fits.{GivesColumns}
use Rattle.kq_plan.specs.Plans.{Doing, leaf, Stepping, Planned}
use Rattle.kq_value.specs.declared.schema.Field.{Field}

-- it is such a body, and answers with the columns of the target: their names and types, in order
pub record IsPolicyPlan (source : List ℕ) (target : List Field) (p : Planned) : Type 0 where
  pub body : IsPolicyBody source p
  pub columns : GivesColumns p.steps p.output target

-- ---- what the code computes

abbrev pub table_read : List ℕ → Doing → Bool
table_read table (leaf kind.Table said) = pointwise nat_eq said table
table_read table _ = false

abbrev pub reads_table : List ℕ → Stepping → Bool
reads_table table s = table_read table s.doing
