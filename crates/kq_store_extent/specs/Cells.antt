-- The cells of a column of rows, and the cursors of records.
use Rattle.std.specs.Prelude.{ℕ, List, map, slice_get, Option, Some, None, option_and_then, if◌then◌else◌}
use Rattle.std.specs.List.{filter_map}
use Rattle.kq_value.specs.declared.record.Record.{Record}
use Rattle.kq_value.specs.declared.record_id.RecordId.{RecordId}
use Rattle.kq_value.specs.declared.value.Value.{Value}
use Rattle.kq_value.specs.Typed.{is_null}
use Rattle.kq_store_extent.specs.Seen.{id_of, row_of}

-- the cell of a column, where the row has one that isn't null
abbrev pub cell_of : ℕ → List Value → Option Value
cell_of column row = option_and_then (λ v. if is_null v then None else Some v) (slice_get row column)

-- the cells of a column that aren't null, in the order of the rows
abbrev pub cells_of : ℕ → List (List Value) → List Value
cells_of column rows = filter_map (cell_of column) rows

-- the same, of records
abbrev pub cells_at : ℕ → List Record → List Value
cells_at column records = cells_of column (map row_of records)

abbrev pub cursor_of : RecordId → ℕ
cursor_of id = id.cursor

abbrev pub cursors_of : List Record → List ℕ
cursors_of records = map cursor_of (map id_of records)
