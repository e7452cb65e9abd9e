use Rattle.std.proofs.Common.{◌||◌, List, All, sym, subst, take}
use Rattle.std.specs.List.{flat_map}
use Rattle.kq_value.specs.declared.value.Value.{Value}
use Rattle.kq_value.specs.Typed.{HasType}
use Rattle.kq_store_column_view.specs.Vectors.{cells_of}
use Rattle.kq_store_column.specs.Built.{AreBuilt}
use Rattle.kq_store_column_view.specs.declared.vector.Vector.{Vector}
use Rattle.kq_store_column.proofs.Grown.{grown_from}
use Rattle.kq_store_column.proofs.Joined.{built_none, joined_more}
use Rattle.kq_store_column.proofs.numbers.Numbers.joined.Goals as goal

pub loop-part-init : goal.loop-part-init
loop-part-init c = rw (c.new-numbers.ensures.items, c.new-nulls.ensures.items) (built_none c.args.ty)

pub add_part-requires-clause-typed : goal.add_part-requires-clause-typed
add_part-requires-clause-typed c =
    subst (λ (p : Vector). All (HasType c.args.ty) (cells_of p)) (sym c.part-item.is) (c.requires.typed c.loop-part.part-index c.part-item.result c.loop-part-test.true)

pub loop-part-preserved : goal.loop-part-preserved
loop-part-preserved c =
    let parts = c.args.parts.now in
    let i = c.loop-part.part-index in
    let p = c.part-item.result in
    subst (λ (cells : List Value). AreBuilt c.args.ty c.add_part.new.nulls.items c.add_part.new.numbers.items (c.loop-part.any || c.in_ok-more.more) cells)
    (sym (joined_more cells_of parts i p c.loop-part-test.true (sym c.part-item.is)))
    (c.in_ok-more.ensures c.loop-part.any (flat_map cells_of (take i parts)) c.loop-part.invariant)

pub from_marks-requires : goal.from_marks-requires
from_marks-requires c = grown_from c.args.ty _ _ _ _ c.requires.numbers c.loop-part.invariant
