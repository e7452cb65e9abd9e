-- What an ingestion gives: the rows of its records, or the first fault.
use Rattle.std.specs.Prelude.{◌≡◌, ℕ, ◌+◌, ◌≤◌, ⊤, Bool, true, false, ◌&&◌, if◌then◌else◌, nat_lt, nat_le, List, [], ◌∷◌, drop, length, map, Option, Some, None}
use Rattle.std.specs.List.{position_or_len}
use Rattle.csv.specs.Reading.{default_config, records, strip_bom}
use Rattle.kq_value_formats.specs.Cells.{cell_of}
use Rattle.kq_value.specs.Typed.{missing_of}
use Rattle.kq_value.specs.declared.ty.Ty.{Ty}
use Rattle.kq_value.specs.declared.schema.Field.{Field}
use Rattle.kq_value.specs.declared.value.Value.{Value}
use Rattle.kq_store_ingest.specs.declared.fault.IngestFault.{IngestFault}
use Rattle.kq_store_ingest.specs.declared.fault.IngestFault.TheVariants.{WideRow, Full, Memory}

-- the records of a body, each as the texts of its cells: a byte order mark at the start is dropped, and an empty line is no record
abbrev pub records_of : List ℕ → List (List (List ℕ))
records_of body = records default_config (strip_bom body)

-- how many records come before the first row
abbrev pub number_skipped : Bool → ℕ
number_skipped true = 1
number_skipped false = 0

-- the records that are rows
abbrev pub row_records : Bool → List ℕ → List (List (List ℕ))
row_records skip_first body = drop (number_skipped skip_first) (records_of body)

-- the cell of a column, from the text in its place
abbrev pub cell_in : Ty → Option (List ℕ) → Value
cell_in ty (Some text) = cell_of ty text
cell_in ty None = missing_of ty

-- the row of a record: a cell for each column, also where the record has none
abbrev pub row_of : List Field → List (List ℕ) → List Value
row_of [] texts = []
row_of (f ∷ fs) [] = cell_in f.ty None ∷ row_of fs []
row_of (f ∷ fs) (text ∷ texts) = cell_in f.ty (Some text) ∷ row_of fs texts

-- the rows of a body
abbrev pub rows_of : List Field → Bool → List ℕ → List (List Value)
rows_of schema skip_first body = map (row_of schema) (row_records skip_first body)

-- the record has more cells than there are columns
abbrev pub is_wide : List Field → List (List ℕ) → Bool
is_wide schema texts = nat_lt (length schema) (length texts)

-- of the records that are to be rows: the first that is too wide, where no more than `limit` rows come before it, and else whether there are more
-- than `limit`
abbrev pub fault_among : List Field → Bool → ℕ → List (List (List ℕ)) → Option IngestFault
fault_among schema skip_first limit rows =
    let before = position_or_len (is_wide schema) rows in
    if nat_lt before (length rows) && nat_le before limit then Some (WideRow (number_skipped skip_first + before + 1))
    else (if nat_lt limit (length rows) then Some (Full limit) else None)

-- the first fault of a body in the order of its records, which are counted from 1, the one that is skipped too; a record that is too wide and also a
-- row too many is too wide
abbrev pub first_fault : List Field → Bool → ℕ → List ℕ → Option IngestFault
first_fault schema skip_first limit body = fault_among schema skip_first limit (row_records skip_first body)

-- what is wrong with a record that comes after so many rows
abbrev pub IsFaultAt : List Field → Bool → ℕ → ℕ → List (List ℕ) → IngestFault → Type 0
IsFaultAt schema skip_first limit before texts (WideRow number) = (is_wide schema texts ≡ true) × (number ≡ number_skipped skip_first + before + 1)
IsFaultAt schema skip_first limit before texts (Full most) = (is_wide schema texts ≡ false) × (limit ≤ before) × (most ≡ limit)
IsFaultAt schema skip_first limit before texts Memory = ⊤
