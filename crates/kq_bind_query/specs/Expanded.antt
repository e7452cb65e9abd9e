-- The column that `mv-expand` makes of an item without a name.
use Rattle.std.specs.Prelude.{◌≡◌, ℕ, List, [], ◌∷◌, ◌++◌, Option, Some, length, slice_get, slice_set}
use Rattle.kq_bind_query.specs.kq_bind_operators.Flows.{Flowing, columns}
use Rattle.kq_plan_expressions.specs.Terms.{Term}
use Rattle.kq_plan.specs.Plans.{Stepping, expanded}
use Rattle.kq_value.specs.declared.schema.Field.{Field}
use Rattle.kq_value.specs.declared.ty.Ty.{Ty}
use Rattle.kq_bind_query.specs.Suffixes.{IsMadeFree}

-- the step whose rows go on puts the parts of a dynamic in this place
pub record PutsPartsAt (place : ℕ) (w : Flowing) : Type 0 where
  pub step : Stepping
  pub there : slice_get w.progress.steps w.input ≡ Some step
  pub input : ℕ
  pub value : Term
  pub to : Option Ty
  pub does : step.doing ≡ expanded input value place to

-- the parts take the place of a column of this name, and have its name; all other columns stay
pub record ReplacesOwn (own : List ℕ) (before after : Flowing) : Type 0 where
  pub place : ℕ
  pub old : Field
  pub there : slice_get (columns before) place ≡ Some old
  pub so : old.name ≡ own
  pub column : Field
  pub named : column.name ≡ own
  pub replaced : columns after ≡ slice_set (columns before) place column
  pub parts : PutsPartsAt place after

-- all columns stay, and the parts stand behind them, under this name or with the least suffix that is free of theirs
pub record StandsLast (base : List ℕ) (before after : Flowing) : Type 0 where
  pub column : Field
  pub behind : columns after ≡ columns before ++ column ∷ []
  pub named : IsMadeFree (columns before) [] base column.name
  pub parts : PutsPartsAt (length (columns before)) after
