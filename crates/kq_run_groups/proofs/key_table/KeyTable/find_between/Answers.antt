use Rattle.std.proofs.Common.{◌+◌, sym, subst}
use Rattle.kq_run_groups.specs.Found.{FoundBetween}
use Rattle.kq_run_groups.proofs.Finding.{found_more, found_none}
use Rattle.kq_run_groups.proofs.key_table.KeyTable.find_between.Goals as goal

pub loop-place-init : goal.loop-place-init
loop-place-init c = subst (FoundBetween c.args.self.now.keys c.args.other.now.keys c.args.from c.args.from) (sym c.in_ok-found.ensures.items) (found_none c.args.self.now.keys c.args.other.now.keys c.args.from)

pub loop-place-preserved : goal.loop-place-preserved
loop-place-preserved c =
    let keys = c.args.self.now.keys in
    let others = c.args.other.now.keys in
    subst (FoundBetween keys others c.args.from (c.loop-place.place + 1)) (sym c.in_ok-push.ensures.items)
    (found_more keys others c.args.from c.loop-place.place c.loop-place.found.items c.find_at.result c.loop-place.invariant c.find_at.ensures)
