-- Extents under columns that some of their records lack.
use Rattle.std.specs.Prelude.{List, map}
use Rattle.kq_value.specs.declared.schema.Field.{Field}
use Rattle.kq_store_extent.specs.Seen.{ExtentView, HeldExtents}
use Rattle.kq_store_rows.specs.Widened.{widened_records}

-- an extent whose records are widened to these columns
abbrev pub wide : List Field → ExtentView → ExtentView
wide fields e = record { id = e.id; records = widened_records fields e.records; tags = e.tags }

-- the same of all extents of a table
abbrev pub wide_held : List Field → HeldExtents → HeldExtents
wide_held fields held = record { small = map (wide fields) held.small; big = map (wide fields) held.big }
