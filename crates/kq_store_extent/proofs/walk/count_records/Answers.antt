use Rattle.std.proofs.Common.{◌+◌, List, length, map, take, ap, ◌∙◌, arith, length-append}
use Rattle.std.specs.Arc.{arc_value}
use Rattle.std.proofs.lemmas.List.{take_all, length-map}
use Rattle.kq_store_extent.specs.Seen.{ExtentView, records_in}
use Rattle.kq_store_extent.proofs.Walked.{behind, behind-within, records_in-more, records_in-first}
use Rattle.kq_store_extent.proofs.walk.count_records.Goals as goal

pub overflow_add-count : goal.overflow_add-count
overflow_add-count c =
    let handles = c.args.extents.now in
    let es = map arc_value handles in
    let i = c.loop-extent.extent-index in
    let h = c.extent-item.result in
    let within = c.loop-extent-test.true in
    let n = c.len.ensures.count ∙ ap (λ (e : ExtentView). length e.records) c.deref.ensures in
    let more = ap length (records_in-more es i (arc_value h) (behind-within arc_value handles i within) (behind arc_value handles i h within c.extent-item.is)) in
    let first = records_in-first (i + 1) es in
    let sum = length-append (records_in (take i es)) (arc_value h).records in
    omega (arith, n, more, first, sum, c.loop-extent.invariant, c.requires)

pub loop-extent-preserved : goal.loop-extent-preserved
loop-extent-preserved c =
    let handles = c.args.extents.now in
    let es = map arc_value handles in
    let i = c.loop-extent.extent-index in
    let h = c.extent-item.result in
    let within = c.loop-extent-test.true in
    let n = c.len.ensures.count ∙ ap (λ (e : ExtentView). length e.records) c.deref.ensures in
    let more = ap length (records_in-more es i (arc_value h) (behind-within arc_value handles i within) (behind arc_value handles i h within c.extent-item.is)) in
    let sum = length-append (records_in (take i es)) (arc_value h).records in
    omega (arith, n, more, sum, c.loop-extent.invariant)

pub returns : goal.returns
returns c =
    let es = map arc_value c.args.extents.now in
    let n = length-map c.args.extents.now arc_value in
    c.loop-extent.invariant ∙ ap (λ (xs : List ExtentView). length (records_in xs)) (take_all c.loop-extent.extent-index es (omega (arith, n)))
