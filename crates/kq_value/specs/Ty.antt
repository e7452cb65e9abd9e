-- The types in their order.
use Rattle.std.specs.Prelude.{Bool, ℕ, nat_eq}
use Rattle.kq_value.specs.declared.ty.Ty.{Ty}
use Rattle.kq_value.specs.declared.ty.Ty.TheVariants.{Long, Int, Text, Bool as Truth, Moment, Span, Dynamic}

abbrev pub rank_of : Ty → ℕ
rank_of Long = 0
rank_of Int = 1
rank_of Text = 2
rank_of Truth = 3
rank_of Moment = 4
rank_of Span = 5
rank_of Dynamic = 6

abbrev pub same_ty : Ty → Ty → Bool
same_ty a b = nat_eq (rank_of a) (rank_of b)
