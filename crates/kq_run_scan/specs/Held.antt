-- Rows by the place where they stand.
use Rattle.std.specs.Prelude.{List, [], ◌∷◌, map}
use Rattle.kq_value.specs.declared.value.Value.{Value}
use Rattle.kq_store_extent.specs.Seen.{held_extents}
use Rattle.kq_store_rows.specs.Chunks.{same_width}
use Rattle.kq_run_scan.specs.declared.place.Place.{Place}
use Rattle.kq_run_scan.specs.declared.place.Place.TheVariants.{Own, Framed, Lent, Beside}
use Rattle.kq_run_scan.specs.Lent.{AreLent, rows_held, rows_of}
use Rattle.kq_run_scan.specs.Unread.{rows_among}

abbrev pub rows_in : Place → List (List Value)
rows_in (Own rows) = rows
rows_in (Framed rows) = rows
rows_in (Lent extents) = rows_held extents
rows_in (Beside sources) = rows_among sources

-- the rows of each source
abbrev pub sources_in : Place → List (List (List Value))
sources_in (Own rows) = rows ∷ []
sources_in (Framed rows) = rows ∷ []
sources_in (Lent extents) = map rows_of (held_extents extents)
sources_in (Beside sources) = sources

-- the rows are of one width, and lent ones not too many to be counted
abbrev pub IsReadable : Place → Type 0
IsReadable (Own rows) = same_width rows
IsReadable (Framed rows) = same_width rows
IsReadable (Lent extents) = AreLent extents
IsReadable (Beside sources) = same_width (rows_among sources)
