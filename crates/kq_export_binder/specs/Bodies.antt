-- Which plans those of the bodies of exports may be, and over which names.
use Rattle.std.specs.Prelude.{◌≡◌, ◌||◌, not, ℕ, Bool, true, false, List, Option, Some}
use Rattle.std.specs.List.{list_any}
use Rattle.std.specs.Str.{bytes_eq}
use Rattle.kq_policy_moments.specs.kq_catalog_journal.Moments.{step_asks}
use Rattle.kq_bind_query.specs.kq_bind_operators.Flows.{columns_at}
use Rattle.kq_plan.specs.declared.names.NameKind.TheVariants as name
use Rattle.kq_plan.specs.declared.work.LeafKind.TheVariants as kind
use Rattle.kq_plan.specs.Fits.{FitsNames}
use Rattle.kq_plan.specs.Names.{Known}
use Rattle.kq_plan.specs.Plans.{Doing, leaf, Stepping, Planned}
use Rattle.kq_value.specs.declared.schema.Field.{Field}

-- whether it gives the rows of a name that isn't the table's
abbrev pub reads_other : List ℕ → Doing → Bool
reads_other table (leaf kind.Table said) = not (bytes_eq said table)
reads_other table (leaf kind.View said) = true
reads_other table (leaf kind.Part said) = true
reads_other table _ = false

-- or asks for the moment of a command
abbrev pub is_foreign : List ℕ → Stepping → Bool
is_foreign table s = reads_other table s.doing || step_asks s.doing

-- its leaves are this table alone, and it asks for no moment
abbrev pub is_export_body : List ℕ → Planned → Bool
is_export_body table p = not (list_any (is_foreign table) p.steps)

-- it fits all names that know the table, with these columns
abbrev pub FitsTable : List ℕ → List Field → Planned → Type 0
FitsTable table cs p = (known : List ℕ → Option Known) → known table ≡ Some (name.Table, cs) → FitsNames known p (columns_at p.steps p.output)
