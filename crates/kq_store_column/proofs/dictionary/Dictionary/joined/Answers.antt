use Rattle.std.proofs.Common.{sym, take}
use Rattle.std.specs.List.{flat_map}
use Rattle.kq_store_column_view.specs.Vectors.{cells_of}
use Rattle.kq_store_column.proofs.Joined.{coded_both, joined_more}
use Rattle.kq_store_column.proofs.dictionary.Dictionary.joined.Goals as goal

pub loop-part-preserved : goal.loop-part-preserved
loop-part-preserved c =
    let parts = c.args.parts.now in
    let i = c.loop-part.part-index in
    let p = c.part-item.result in
    rw (c.in_ok-extend_from_slice-in-Some.ensures.items, c.deref.ensures.value, joined_more cells_of parts i p c.loop-part-test.true (sym c.part-item.is))
    (coded_both c.loop-part.words.items c.part_codes.new.words.items c.loop-part.codes.items c.in-Some.more.items (flat_map cells_of (take i parts)) (cells_of p)
    c.in_ok-more.ensures.words c.loop-part.invariant (rw c.in-Some.is at c.in_ok-more.ensures.codes))
