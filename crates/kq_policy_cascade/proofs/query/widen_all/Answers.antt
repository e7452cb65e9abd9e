use Rattle.std.proofs.Common.{rules, ◌<◌, sym, length}
use Rattle.kq_policy_cascade.proofs.Querying.{widened-all, row_widened, widened-more, wide-push}
use Rattle.kq_policy_cascade.proofs.query.widen_all.Goals as goal

pub returns-then-has_width : goal.returns-then-has_width
returns-then-has_width c = sym (widened-all c.args.fields.now c.args.rows (c.has_width.ensures.0 c.if-has_width.true))

pub push_from-requires : goal.push_from-requires
push_from-requires c =
    let within : c.loop-index.index < length c.args.rows = search rules in
    let row = row_widened c.args.fields.now c.args.rows c.loop-index.index c.row.result.now c.loop-index.row.items c.put_copies.new.row.items c.widen.new.row.items within c.row.ensures c.loop-index.invariant.empty c.in_ok-put_copies.ensures c.in_ok-widen.ensures c.requires in
    rw row.1 c.loop-index.invariant.width

pub loop-index-preserved : goal.loop-index-preserved
loop-index-preserved c =
    let fields = c.args.fields.now in
    let rows = c.args.rows in
    let i = c.loop-index.index in
    let within : i < length rows = search rules in
    let row = row_widened fields rows i c.row.result.now c.loop-index.row.items c.put_copies.new.row.items c.widen.new.row.items within c.row.ensures c.loop-index.invariant.empty c.in_ok-put_copies.ensures c.in_ok-widen.ensures c.requires in
    record {
      wide = widened-more fields rows c.loop-index.wide c.push_from.new.self c.widen.new.row.items i within c.loop-index.invariant.wide row.0 c.in_ok-push_from.ensures.ok;
      empty = c.in_ok-push_from.ensures.left;
      width = wide-push (length fields) c.loop-index.wide c.push_from.new.self c.widen.new.row.items c.loop-index.invariant.width row.1 c.in_ok-push_from.ensures.ok;
    }
