-- Rows under columns of which they lack the last.
use Rattle.std.specs.Prelude.{ℕ, List, [], ◌∷◌, map, Option}
use Rattle.std.specs.List.{slice_get}
use Rattle.std.specs.Option.{option_map}
use Rattle.kq_value.specs.declared.record.Record.{Record}
use Rattle.kq_value.specs.declared.schema.Field.{Field}
use Rattle.kq_value.specs.declared.value.Value.{Value}
use Rattle.kq_value.specs.Typed.{missing_of}

-- a row under these columns: where it lacks a cell, there is null, or empty for a string
abbrev pub widened : List Field → List Value → List Value
widened [] row = row
widened (f ∷ fields) [] = missing_of f.ty ∷ widened fields []
widened (f ∷ fields) (v ∷ row) = v ∷ widened fields row

-- a record whose row is so widened
abbrev pub widened_record : List Field → Record → Record
widened_record fields r = record { id = r.id; row = widened fields r.row }

-- records whose rows are so widened
abbrev pub widened_records : List Field → List Record → List Record
widened_records fields = map (widened_record fields)

-- what stands in a column where a row has no cell
abbrev pub missing_at : List Field → ℕ → Option Value
missing_at fields column = option_map (λ (f : Field). missing_of f.ty) (slice_get fields column)
