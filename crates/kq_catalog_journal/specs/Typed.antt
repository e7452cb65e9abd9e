-- Batches whose rows have the types of their tables' columns.
use Rattle.std.specs.Prelude.{ℕ, List, All, take}
use Rattle.kq_catalog_journal.specs.declared.batch.Batch.{Batch}
use Rattle.kq_value.specs.declared.schema.Field.{Field}
use Rattle.kq_value.specs.declared.value.Value.{Value}
use Rattle.kq_value.specs.Typed.{HasTypes}

-- the row has the types of the first of these columns, and lacks the others
pub record IsLead (fields : List Field) (row : List Value) : Type 0 where
  pub count : ℕ
  pub typed : HasTypes (take count fields) row

-- the rows of a batch have the types of their table's columns
abbrev pub IsTyped : (ℕ → List Field) → Batch → Type 0
IsTyped columns b = All (HasTypes (columns b.table)) b.rows
