use Rattle.kq_catalog.proofs.Tagged.{tags_more}
use Rattle.kq_catalog.proofs.tagging.with_tags.Goals as goal

pub loop-tag-preserved : goal.loop-tag-preserved
loop-tag-preserved c =
    tags_more c.args.index.now c.loop-tag.all c.in_ok-all-2.all c.args.table c.args.tags.now c.loop-tag.tag-index c.tag-item.result c.args.cursor
    c.loop-tag-test.true c.tag-item.is c.loop-tag.invariant c.in_ok-all-2.ensures
