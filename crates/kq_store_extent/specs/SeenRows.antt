-- Rows as contracts saw them once.
use Rattle.std.specs.Prelude.{ℕ, ◌+◌, List}
use Rattle.kq_value.specs.declared.value.Value.{Value}
use Rattle.kq_store_extent.specs.declared.seen.Source.{Source}
use Rattle.kq_store_extent.specs.declared.seen.Source.TheVariants.{Columns, Copy}

-- the rows that were seen, and how often they were copied
abbrev pub seen_from : Source → List (List Value) × ℕ
seen_from (Columns seen) = (seen.value, 0)
seen_from (Copy seen) = (seen.value.0, seen.value.1 + 1)
