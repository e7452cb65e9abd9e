use Rattle.std.proofs.Common.{◌≡◌, ◌+◌, length, take, ap, ◌∙◌, arith}
use Rattle.std.proofs.lemmas.List.{take_all}
use Rattle.std.proofs.lemmas.Option.{get_or_from_slice_get, slice_get_within}
use Rattle.kq_store_extent.specs.Seen.{held_extents}
use Rattle.kq_store_extent.proofs.Walked.{records_in-held}
use Rattle.kq_run_scan.specs.Ranges.{count_read}
use Rattle.kq_run_scan.proofs.Later.{count_read-first, count_read-most, count_read-next}
use Rattle.kq_run_scan.proofs.ranged.records_later.Goals as goal

pub overflow_add-count : goal.overflow_add-count
overflow_add-count c =
    let es = held_extents c.args.extents.now in
    let i = c.loop-at.at in
    let e = c.extent_at.result.now in
    let got = c.extent_at.ensures in
    let next = count_read-next c.args.above es i e (slice_get_within es i e got) (get_or_from_slice_get es i e e got) in
    let most = count_read-first c.args.above (i + 1) es in
    let all = ap length (records_in-held c.args.extents.now) in
    omega (arith, next, most, all, c.count_later-count.ensures, c.loop-at.invariant, c.requires)

pub loop-at-preserved : goal.loop-at-preserved
loop-at-preserved c =
    let es = held_extents c.args.extents.now in
    let i = c.loop-at.at in
    let e = c.extent_at.result.now in
    let got = c.extent_at.ensures in
    let next = count_read-next c.args.above es i e (slice_get_within es i e got) (get_or_from_slice_get es i e e got) in
    omega (arith, next, c.count_later-count.ensures, c.loop-at.invariant)

pub returns : goal.returns
returns c =
    let es = held_extents c.args.extents.now in
    let past : take c.loop-at.at es ≡ es = take_all c.loop-at.at es (omega (arith, c.loop-at-test.false, c.len-at-end.ensures)) in
    let count : c.loop-at.count ≡ count_read c.args.above es = c.loop-at.invariant ∙ ap (count_read c.args.above) past in
    let most = count_read-most c.args.above es in
    let all = ap length (records_in-held c.args.extents.now) in
    record { count = count; small = omega (arith, count, most, all, c.requires) }
