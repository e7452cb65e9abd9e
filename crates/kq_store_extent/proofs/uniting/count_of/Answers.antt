use Rattle.std.proofs.Common.{◌+◌, length, map, take, drop, ap, sym, ◌∙◌, arith, length-append}
use Rattle.std.specs.Arc.{arc_value}
use Rattle.std.proofs.lemmas.List.{take-append-drop}
use Rattle.std.proofs.lemmas.List.Concat.{flat_map-append}
use Rattle.kq_store_extent.specs.Seen.{ExtentView, records_in}
use Rattle.kq_store_extent.proofs.Walked.{behind, behind-within, records_in-more}
use Rattle.kq_store_extent.proofs.uniting.count_of.Goals as goal

pub loop-extent-preserved : goal.loop-extent-preserved
loop-extent-preserved c =
    let handles = c.args.extents.now in
    let es = map arc_value handles in
    let i = c.loop-extent.extent-index in
    let h = c.extent-item.result in
    let within = c.loop-extent-test.true in
    let n = c.len-len.ensures.count ∙ ap (λ (e : ExtentView). length e.records) c.deref.ensures in
    let more = ap length (records_in-more es i (arc_value h) (behind-within arc_value handles i within) (behind arc_value handles i h within c.extent-item.is)) in
    let sum = length-append (records_in (take i es)) (arc_value h).records in
    record { count = omega (arith, n, more, sum, c.loop-extent.invariant.count); small = omega (arith, c.if-len-count.false, c.loop-extent.invariant.small) }

-- the records so far and those of the extent at hand are among all of them
pub returns-then-len-count-clause-err : goal.returns-then-len-count-clause-err
returns-then-len-count-clause-err c =
    let handles = c.args.extents.now in
    let es = map arc_value handles in
    let i = c.loop-extent.extent-index in
    let h = c.extent-item.result in
    let within = c.loop-extent-test.true in
    let n = c.len-len.ensures.count ∙ ap (λ (e : ExtentView). length e.records) c.deref.ensures in
    let more = ap length (records_in-more es i (arc_value h) (behind-within arc_value handles i within) (behind arc_value handles i h within c.extent-item.is)) in
    let sum = length-append (records_in (take i es)) (arc_value h).records in
    let whole = ap length (ap records_in (sym (take-append-drop (i + 1) es)) ∙ flat_map-append (λ (e : ExtentView). e.records) (take (i + 1) es) (drop (i + 1) es)) in
    let parts = length-append (records_in (take (i + 1) es)) (records_in (drop (i + 1) es)) in
    omega (arith, n, more, sum, whole, parts, c.loop-extent.invariant.count, c.if-len-count.true)
