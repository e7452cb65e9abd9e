use Rattle.std.proofs.Common.{refl, sym}
use Rattle.kq_value.specs.declared.ty.Ty.TheVariants as ty
use Rattle.kq_value.specs.declared.value.Value.TheVariants as value
use Rattle.kq_store_column_view.proofs.Masked.{plain}
use Rattle.kq_store_column_view.proofs.numbers.marked_longs.Goals as goal

pub returns : goal.returns
returns c = sym (plain ty.Long value.Long (λ z. refl) c.args.longs.now)
