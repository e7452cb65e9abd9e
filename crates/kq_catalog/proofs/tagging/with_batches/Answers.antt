use Rattle.std.proofs.Common.{ℕ, List, ◌&&◌, nat_eq, subst}
use Rattle.kq_catalog_journal.specs.kq_value_text_sets.Names.{is_among}
use Rattle.kq_catalog_indexes.specs.Tags.{AddsTags}
use Rattle.kq_catalog.proofs.Tagged.{batches_more}
use Rattle.kq_catalog.proofs.tagging.with_batches.Goals as goal

pub loop-batch-preserved : goal.loop-batch-preserved
loop-batch-preserved c =
    let b = c.batch-item.result in
    let all = c.loop-batch.all in
    let new = c.in_ok-all-2.all in
    let one : AddsTags all (λ t tag. nat_eq b.table t && is_among tag b.tags) c.args.cursor new =
    subst (λ (tags : List (List ℕ)). AddsTags all (λ t tag. nat_eq b.table t && is_among tag tags) c.args.cursor new) c.as_slice.ensures c.in_ok-all-2.ensures in
    batches_more c.args.index.now all new c.args.batches.now c.loop-batch.batch-index b c.args.cursor c.loop-batch-test.true c.batch-item.is c.loop-batch.invariant one
