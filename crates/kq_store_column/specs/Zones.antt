-- What a column keeps of its least and its greatest cell.
use Rattle.std.specs.Prelude.{Bool, true, false, ◌&&◌, List, [], ◌∷◌, Option, None, Some}
use Rattle.std.specs.List.{list_all, list_any}
use Rattle.std.specs.Ordering.{is_le}
use Rattle.kq_value.specs.declared.value.Value.{Value}
use Rattle.kq_value.specs.Values.{value_cmp, is_same}
use Rattle.kq_store_column.specs.Cells.{cells_present}

-- whether both stand among the cells, and none of these is below the one or above the other
abbrev pub are_bounds : List Value → Value → Value → Bool
are_bounds cells least greatest =
    (list_any (is_same least) cells && list_all (λ v. is_le (value_cmp least v)) cells)
    && (list_any (is_same greatest) cells && list_all (λ v. is_le (value_cmp v greatest)) cells)

abbrev pub is_empty : List Value → Bool
is_empty [] = true
is_empty (v ∷ vs) = false

-- whether it is the least and the greatest of the cells that aren't null, or there are none
abbrev pub is_zone : List Value → Option (Value × Value) → Bool
is_zone cells None = is_empty (cells_present cells)
is_zone cells (Some zone) = are_bounds (cells_present cells) zone.0 zone.1
