-- The kinds of values, and their total order.
use Rattle.std.specs.Prelude.{ℕ, ℤ, pos, Bool, true, false, List, []}
use Rattle.std.specs.declared.cmp.Ordering.{Ordering}
use Rattle.std.specs.Ordering.{is_eq, nat_cmp, int_cmp, on, then_cmp}
use Rattle.std.specs.Cmp.Lexicographic.{slice_cmp}
use Rattle.kq_value.specs.Tree.{Tree, null}
use Rattle.kq_value.specs.Seen.{tree_of}
use Rattle.kq_value.specs.TreeOrder.{tree_cmp}
use Rattle.kq_value.specs.Ty.{rank_of}
use Rattle.kq_value.specs.declared.value.Value.{Value}
use Rattle.kq_value.specs.declared.value.Value.TheVariants.{Null, Long, Int, Text, Bool as Truth, Moment, Span, Dynamic}

-- nulls in the order of their types, and then the kinds
abbrev pub value_kind : Value → ℕ
value_kind (Null t) = rank_of t
value_kind (Long z) = 7
value_kind (Int z) = 8
value_kind (Text bs) = 9
value_kind (Truth b) = 10
value_kind (Moment z) = 11
value_kind (Span z) = 12
value_kind (Dynamic d) = 13

-- the number of a value that is one, false as 0 and true as 1, and 0 for any other
abbrev pub value_number : Value → ℤ
value_number (Null t) = pos 0
value_number (Long z) = z
value_number (Int z) = z
value_number (Text bs) = pos 0
value_number (Truth true) = pos 1
value_number (Truth false) = pos 0
value_number (Moment z) = z
value_number (Span z) = z
value_number (Dynamic d) = pos 0

-- the text of a value that is one, else none
abbrev pub value_bytes : Value → List ℕ
value_bytes (Null t) = []
value_bytes (Long z) = []
value_bytes (Int z) = []
value_bytes (Text bs) = bs
value_bytes (Truth b) = []
value_bytes (Moment z) = []
value_bytes (Span z) = []
value_bytes (Dynamic d) = []

-- the tree of a dynamic, else that of null
abbrev pub value_tree : Value → Tree
value_tree (Null t) = null
value_tree (Long z) = null
value_tree (Int z) = null
value_tree (Text bs) = null
value_tree (Truth b) = null
value_tree (Moment z) = null
value_tree (Span z) = null
value_tree (Dynamic d) = tree_of d

-- by kind, and within a kind by number, by bytes or by the order of dynamics
abbrev pub value_cmp : Value → Value → Ordering
value_cmp = then_cmp (on value_kind nat_cmp) (then_cmp (on value_number int_cmp) (then_cmp (on value_bytes (slice_cmp nat_cmp)) (on value_tree tree_cmp)))

-- cell by cell, and a prefix first
abbrev pub row_cmp : List Value → List Value → Ordering
row_cmp = slice_cmp value_cmp

-- whether the order doesn't tell them apart
abbrev pub is_same : Value → Value → Bool
is_same v w = is_eq (value_cmp v w)

abbrev pub is_same_row : List Value → List Value → Bool
is_same_row r s = is_eq (row_cmp r s)
