-- What is shown of a table's extents.
use Rattle.std.specs.Prelude.{ℕ, min, max, List, [], ◌∷◌, length, map, Option, Some, None, codes}
use Rattle.kq_value.specs.declared.schema.Field.{Field}
use Rattle.kq_value.specs.declared.ty.Ty.TheVariants as ty
use Rattle.kq_value.specs.declared.dynamic.Dyn.TheVariants as dyn
use Rattle.kq_value.specs.declared.record_id.RecordId.{RecordId}
use Rattle.kq_value.specs.declared.value.Value.{Value}
use Rattle.kq_value.specs.declared.value.Value.TheVariants.{Dynamic}
use Rattle.kq_value.specs.Tree.{Trees, no_items, item, string}
use Rattle.kq_store_extent.specs.Seen.{ExtentView}
use Rattle.kq_catalog_journal.specs.History.{History}
use Rattle.kq_catalog_journal.specs.Records.{ExtentItem, extents}
use Rattle.kq_catalog.specs.Held.{extent_item}
use Rattle.kq_engine_show.specs.Cells.{column, number_cell, number_or_null}

abbrev pub extent_columns : List Field
extent_columns =
    column (codes "ExtentId") ty.Long ∷ column (codes "Rows") ty.Long ∷ column (codes "MinCursor") ty.Long ∷ column (codes "MaxCursor") ty.Long
    ∷ column (codes "Tags") ty.Dynamic ∷ []

-- the least of a number and others, and the greatest
abbrev pub least_of : ℕ → List ℕ → ℕ
least_of n [] = n
least_of n (m ∷ ms) = min n (least_of m ms)

abbrev pub greatest_of : ℕ → List ℕ → ℕ
greatest_of n [] = n
greatest_of n (m ∷ ms) = max n (greatest_of m ms)

-- the least of some numbers, and the greatest, if there are any
abbrev pub least : List ℕ → Option ℕ
least [] = None
least (n ∷ ns) = Some (least_of n ns)

abbrev pub greatest : List ℕ → Option ℕ
greatest [] = None
greatest (n ∷ ns) = Some (greatest_of n ns)

-- texts as the items of an array
abbrev pub strings : List (List ℕ) → Trees
strings [] = no_items
strings (text ∷ texts) = item (string text) (strings texts)

abbrev pub cursors : ExtentItem → List ℕ
cursors e = map (λ (id : RecordId). id.cursor) e.records

-- its id, the number of its records, the least and the greatest of their cursors, and its tags
abbrev pub extent_row : ExtentItem → List Value
extent_row e =
    number_cell e.id ∷ number_cell (length e.records) ∷ number_or_null (least (cursors e)) ∷ number_or_null (greatest (cursors e))
    ∷ Dynamic (dyn.List (strings e.tags)) ∷ []

abbrev pub held_row : ExtentView → List Value
held_row e = extent_row (extent_item e)

-- a row for each extent of a table
abbrev pub extent_rows : History → ℕ → List (List Value)
extent_rows h table = map extent_row (extents h table)
