-- Items in order.
use Rattle.std.specs.Prelude.{List}
use Rattle.std.specs.List.Sorted.{IsPermutation, IsSorted}
use Rattle.kq_value.specs.Tree.{Tree}
use Rattle.kq_value_formats.specs.Members.{sorting_cmp}

-- the same items, none of them less than the one before it
pub record IsInOrder (ts us : List Tree) : Type 0 where
  pub moved : IsPermutation ts us
  pub up : IsSorted sorting_cmp us
