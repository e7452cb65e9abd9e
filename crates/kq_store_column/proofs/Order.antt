-- The order of values, read as at most.
use Rattle.std.proofs.Common.{◌≡◌, true, false, refl, ap, ◌∙◌}
use Rattle.std.specs.declared.cmp.Ordering.{Ordering}
use Rattle.std.specs.declared.cmp.Ordering.TheVariants.{Less, Equal, Greater}
use Rattle.std.specs.Ordering.{is_le, is_gt, ordering_reverse}
use Rattle.std.specs.Cmp.{tied_itself, upto}
use Rattle.kq_value.specs.declared.value.Value.{Value}
use Rattle.kq_value.specs.Values.{value_cmp}
use Rattle.kq_value.proofs.Totals.{value_cmp_total}
use Rattle.kq_store_column.specs.Cells.{IsAtMost}

not_gt : (o : Ordering) → is_le o ≡ true → is_gt o ≡ false
not_gt Less h = refl
not_gt Equal h = refl
not_gt Greater h = cc

from_not_gt : (o : Ordering) → is_gt o ≡ false → is_le o ≡ true
from_not_gt Less h = refl
from_not_gt Equal h = refl
from_not_gt Greater h = cc

turned : (o : Ordering) → is_le o ≡ false → is_le (ordering_reverse o) ≡ true
turned Less h = cc
turned Equal h = refl
turned Greater h = refl

pub IsAtMost-self : (v : Value) → IsAtMost v v
IsAtMost-self v = ap is_le (tied_itself value_cmp_total v)

pub IsAtMost-trans : (u v w : Value) → IsAtMost u v → IsAtMost v w → IsAtMost u w
IsAtMost-trans u v w a b = from_not_gt (value_cmp u w) (upto value_cmp_total u v w (not_gt (value_cmp u v) a) (not_gt (value_cmp v w) b))

-- what isn't at most the other is above it
pub IsAtMost-turned : (v w : Value) → is_le (value_cmp v w) ≡ false → IsAtMost w v
IsAtMost-turned v w h = ap is_le (value_cmp_total.antisymm w v) ∙ turned (value_cmp v w) h
