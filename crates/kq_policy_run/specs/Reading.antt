-- What the names of an entry's plan stand for, after a log that may be longer than the one for which the plan was bound.
use Rattle.std.specs.Prelude.{◌≡◌, ℕ, Bool, false, List, [], ◌∷◌, Option, Some, length, option_map, take, if◌then◌else◌}
use Rattle.std.specs.Str.{bytes_eq}
use Rattle.kq_catalog_journal.specs.History.{Log, NumberedTable, table_numbered, tables}
use Rattle.kq_plan.specs.declared.names.NameKind.TheVariants as name
use Rattle.kq_plan.specs.Names.{Known}
use Rattle.kq_plan.specs.Plans.{Doing, leaf, Planned, Stepping}
use Rattle.kq_value.specs.declared.schema.Field.{Field}

-- whether a step gives the rows of this name
abbrev pub is_leaf_of : List ℕ → Doing → Bool
is_leaf_of said (leaf kind other) = bytes_eq other said
is_leaf_of said _ = false

-- how many columns steps read of a name: those of the first step that gives its rows
abbrev pub width_read : List ℕ → List Stepping → ℕ
width_read said [] = 0
width_read said (s ∷ steps) = if is_leaf_of said s.doing then length s.columns else width_read said steps

-- a table with so many of its columns, the first ones
abbrev pub known_first : ℕ → NumberedTable → Known
known_first count found = (name.Table, take count found.table.schema)

-- the tables after the log, each with as many of its columns as the plan reads
abbrev pub known_as_read : Log → Planned → List ℕ → Option Known
known_as_read l p said = option_map (known_first (width_read said p.steps)) (table_numbered said (tables l))

-- the name is a table's, and these are the first of its columns
pub record IsFirstOf (l : Log) (said : List ℕ) (columns : List Field) : Type 0 where
  pub found : NumberedTable
  pub finds : table_numbered said (tables l) ≡ Some found
  pub first : columns ≡ take (length columns) found.table.schema
