-- Rows that are laid out as extents, from which queries read them.
use Rattle.std.specs.Prelude.{◌≡◌, ◌<◌, ◌^◌, List, length, map}
use Rattle.kq_store_extent.specs.Seen.{HeldExtents, held_records, row_of}
use Rattle.kq_catalog_journal.specs.Derived.{Row}

-- the extents hold these rows in their order, and not too many to be counted
pub record HoldsRows (held : HeldExtents) (rows : List Row) : Type 0 where
  pub are : map row_of (held_records held) ≡ rows
  pub small : length (held_records held) < 2 ^ 63
