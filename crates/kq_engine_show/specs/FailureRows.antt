-- What is shown of the failures of ingestions.
use Rattle.std.specs.Prelude.{List, [], ◌∷◌, map, codes}
use Rattle.kq_value.specs.declared.schema.Field.{Field}
use Rattle.kq_value.specs.declared.ty.Ty.TheVariants as ty
use Rattle.kq_value.specs.declared.value.Value.{Value}
use Rattle.kq_value.specs.declared.value.Value.TheVariants.{Text}
use Rattle.kq_catalog_journal.specs.declared.batch.Noted.{Noted}
use Rattle.kq_store_rows.specs.Causes.{cause_text}
use Rattle.kq_catalog_journal.specs.History.{History, Log, log}
use Rattle.kq_catalog_journal.specs.Policies.{noted}
use Rattle.kq_engine_show.specs.Cells.{column, number_cell}
use Rattle.kq_engine_show.specs.JournalRows.{name_of}

abbrev pub failure_columns : List Field
failure_columns =
    column (codes "Cursor") ty.Long ∷ column (codes "Source") ty.Text ∷ column (codes "Target") ty.Text ∷ column (codes "Failed") ty.Text
    ∷ column (codes "Cause") ty.Text ∷ []

-- the cursor of the commit that noted it, the table whose batch its entry ran for, the entry's target, the target of the entry whose query failed,
-- and the cause
abbrev pub failure_row : Log → Noted → List Value
failure_row l n =
    number_cell n.cursor ∷ Text (name_of l n.failure.source) ∷ Text (name_of l n.failure.target) ∷ Text (name_of l n.failure.failed)
    ∷ Text (cause_text n.failure.cause) ∷ []

-- a row for each failure, in order
abbrev pub failure_rows : History → List (List Value)
failure_rows h = map (failure_row (log h)) (noted (log h))
