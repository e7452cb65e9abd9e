use Rattle.std.proofs.Common.{◌||◌, ◌++◌, Bool, List, take}
use Rattle.kq_value.specs.declared.value.Value.{Value}
use Rattle.kq_store_column_view.specs.Vectors.{cells_of}
use Rattle.kq_store_column.specs.Built.{AreBuilt}
use Rattle.kq_store_column.proofs.numbers.add_each.Given as goal

-- the cells of the part so far
abbrev pub invariant-loop-i : goal.invariant-loop-i
invariant-loop-i l = (any : Bool) (cells : List Value) → AreBuilt l.ty l.fn.nulls.items l.fn.numbers.items any cells → AreBuilt l.ty l.nulls.items l.numbers.items (any || l.any) (cells ++ take l.i (cells_of l.part))
