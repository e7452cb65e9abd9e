-- The rows of extents.
use Rattle.std.specs.Prelude.{◌<◌, ◌^◌, List, length, map}
use Rattle.kq_store_extent.specs.Seen.{ExtentView, HeldExtents, held_records, row_of}
use Rattle.kq_store_rows.specs.Chunks.{same_width}
use Rattle.kq_store_extent.specs.Wide.{wide}
use Rattle.kq_run_scan.specs.declared.records.Records.{Records}
use Rattle.kq_value.specs.declared.value.Value.{Value}

-- the extent of records, which are widened to the columns under which they are read
abbrev pub extent_of : Records → ExtentView
extent_of r = wide r.fields.now r.extent.now

-- the rows of an extent's records
abbrev pub rows_of : ExtentView → List (List Value)
rows_of e = map row_of e.records

-- the rows of the records of all extents
abbrev pub rows_held : HeldExtents → List (List Value)
rows_held held = map row_of (held_records held)

-- the rows are of one width, and not too many to be counted
pub record AreLent (held : HeldExtents) : Type 0 where
  pub wide : same_width (rows_held held)
  pub small : length (held_records held) < 2 ^ 63
