use Rattle.std.proofs.Common.{◌++◌, List, ap, sym, ◌∙◌, arith}
use Rattle.std.specs.List.{flat_map}
use Rattle.std.proofs.lemmas.List.{take_all}
use Rattle.kq_store_column_view.specs.Vectors.{cells_of}
use Rattle.kq_store_column_view.specs.declared.vector.Vector.{Vector}
use Rattle.kq_store_column.proofs.Joined.{joined_more}
use Rattle.kq_store_column.proofs.shared.Shared.joined.Goals as goal

pub loop-part-preserved : goal.loop-part-preserved
loop-part-preserved c =
    let parts = c.args.parts.now in
    let i = c.loop-part.part-index in
    let p = c.part-item.result in
    c.in_ok-push_copies.ensures ∙ (λ t. c.loop-part.invariant t ++ cells_of p)
    ∙ sym (joined_more cells_of parts i p c.loop-part-test.true (sym c.part-item.is))

pub returns : goal.returns
returns c = c.loop-part.invariant ∙ ap (λ (ps : List Vector). flat_map cells_of ps) (take_all c.loop-part.part-index c.args.parts.now (omega (arith, c.loop-part-test.false)))
