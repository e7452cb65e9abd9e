-- The records of a range of cursors, under columns, and how many are looked at for them.
use Rattle.std.specs.Prelude.{◌+◌, ◌++◌, ℕ, nat_lt, Bool, false, not, if◌then◌else◌, List, [], ◌∷◌, length, map, take}
use Rattle.std.specs.List.{filter, list_any}
use Rattle.kq_store_extent.specs.Seen.{ExtentView, records_in}
use Rattle.kq_value.specs.declared.record.Record.{Record}
use Rattle.kq_value.specs.declared.schema.Field.{Field}
use Rattle.kq_value.specs.declared.value.Value.{Value}
use Rattle.kq_store_rows.specs.Widened.{widened}

-- above the one, and not above the other
abbrev pub is_between : ℕ → ℕ → ℕ → Bool
is_between above to cursor = if nat_lt above cursor then not (nat_lt to cursor) else false

abbrev pub is_taken : ℕ → ℕ → Record → Bool
is_taken above to r = is_between above to r.id.cursor

-- a record's cells under these columns: in those that it lacks there is what stands there, and its cells of others are left out
abbrev pub row_under : List Field → Record → List Value
row_under fields r = take (length fields) (widened fields r.row)

-- the rows of the records in the range
abbrev pub rows_between : ℕ → ℕ → List Field → List Record → List (List Value)
rows_between above to fields records = map (row_under fields) (filter (is_taken above to) records)

-- whether a record of the extent has a cursor above this one: whether its greatest is above
abbrev pub is_later : ℕ → ExtentView → Bool
is_later above e = list_any (λ (r : Record). nat_lt above r.id.cursor) e.records

-- how many records there are in those extents
abbrev pub count_read : ℕ → List ExtentView → ℕ
count_read above es = length (records_in (filter (is_later above) es))

-- the places of the records in the range, from this one on, each beside the first place of others
abbrev pub places_between : ℕ → ℕ → ℕ → List Record → List (ℕ × ℕ)
places_between above to i [] = []
places_between above to i (r ∷ records) = (if is_taken above to r then (i, 0) ∷ [] else []) ++ places_between above to (i + 1) records
