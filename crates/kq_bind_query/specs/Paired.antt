-- The columns of a join that pairs rows.
use Rattle.std.specs.Prelude.{◌≡◌, ◌+◌, ℕ, List, [], Some, slice_get, take}
use Rattle.kq_plan.specs.declared.work.JoinKind.{JoinKind}
use Rattle.kq_plan.specs.declared.work.JoinKind.TheVariants as join
use Rattle.kq_value.specs.declared.schema.Field.{Field}
use Rattle.kq_bind_query.specs.Suffixes.{IsMadeFree}

-- all but semi and anti joins pair rows
abbrev pub IsPaired : JoinKind → Type 0
IsPaired join.LeftSemi = ⊥
IsPaired join.LeftAnti = ⊥
IsPaired join.RightSemi = ⊥
IsPaired join.RightAnti = ⊥
IsPaired _ = Unit {0}

-- a right column in this place among the columns of a join: it keeps its type, and its name, or gets the least suffix that is free of the columns
-- before it
pub record StandsBehind (columns : List Field) (place : ℕ) (right : Field) : Type 0 where
  pub column : Field
  pub there : slice_get columns place ≡ Some column
  pub of_type : column.ty ≡ right.ty
  pub named : IsMadeFree (take place columns) [] right.name column.name

-- each of the right columns stands in its place from this one on
abbrev pub AllStandBehind : List Field → ℕ → List Field → Type 0
AllStandBehind columns place rights = (i : ℕ) (right : Field) → slice_get rights i ≡ Some right → StandsBehind columns (place + i) right
