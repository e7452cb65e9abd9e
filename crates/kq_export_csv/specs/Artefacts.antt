-- The bytes of an artefact.
use Rattle.std.specs.Prelude.{◌≡◌, ℕ, Bool, List, [], ◌∷◌, ◌++◌, map, if◌then◌else◌}
use Rattle.std.specs.List.{flat_map}
use Rattle.csv.specs.Writing.{default_writer, is_blank, quote_mark, row_body}
use Rattle.kq_value_conversions.specs.Converted.{printed}
use Rattle.kq_reply.specs.Lines.{AreArranged, ended}
use Rattle.kq_value.specs.declared.schema.Field.{Field}
use Rattle.kq_value.specs.declared.value.Value.{Value}

-- a record as the default writer of `csv` writes it, but for the LF at its end
abbrev pub record_line : List (List ℕ) → List ℕ
record_line fields = row_body default_writer fields ++ (if is_blank default_writer fields then quote_mark ∷ quote_mark ∷ [] else [])

abbrev pub name_of : Field → List ℕ
name_of f = f.name

-- the names of the columns
abbrev pub header_line : List Field → List ℕ
header_line columns = record_line (map name_of columns)

-- the `tostring` of each cell
abbrev pub row_line : List Value → List ℕ
row_line row = record_line (map printed row)

-- rows are put behind a text, a record each, as they are to be arranged
pub record PutsRecords (ordered : Bool) (rows : List (List Value)) (old new : List ℕ) : Type 0 where
  pub lines : List (List ℕ)
  pub arranged : AreArranged ordered (map row_line rows) lines
  pub whole : new ≡ old ++ flat_map ended lines

-- the names of the columns, and a record for each row: in the order of the rows where it is part of the answer, and else in byte order
pub record IsArtefact (columns : List Field) (ordered : Bool) (rows : List (List Value)) (bytes : List ℕ) : Type 0 where
  pub lines : List (List ℕ)
  pub arranged : AreArranged ordered (map row_line rows) lines
  pub whole : bytes ≡ ended (header_line columns) ++ flat_map ended lines
