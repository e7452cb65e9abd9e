-- Cells that are bags of the same keys.
use Rattle.std.specs.Prelude.{◌≡◌, ◌<◌, ℕ, List, length}
use Rattle.kq_value.specs.Bags.{IsBag}
use Rattle.kq_value.specs.declared.value.Value.{Value}
use Rattle.kq_store_column_view.specs.Bags.{bag_at, bags_in, entries_at}
use Rattle.kq_store_column_view.specs.declared.bags.Part.{Part}

-- the cell is the bag at the place
pub record IsBagOf (parts : List Part) (i : ℕ) (v : Value) : Type 0 where
  pub same : v ≡ bag_at parts i
  pub bag : IsBag (entries_at parts i)

-- the cells are the bags
pub record AreBagsOf (parts : List Part) (cells : List Value) : Type 0 where
  pub same : cells ≡ bags_in parts (length cells)
  pub bags : (i : ℕ) → i < length cells → IsBag (entries_at parts i)
