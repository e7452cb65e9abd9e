use Rattle.std.proofs.Common.{[], refl}
use Rattle.kq_store_extent.specs.Seen.{ExtentView, held_extents}
use Rattle.kq_run_scan.specs.Ranges.{places_between}
use Rattle.kq_run_scan.proofs.Pairing.{found_more}
use Rattle.kq_run_scan.proofs.ranged.parts_between.Goals as goal

pub loop-at-preserved : goal.loop-at-preserved
loop-at-preserved c =
    found_more (λ (e : ExtentView). places_between c.args.above c.args.to 0 e.records) (held_extents c.args.extents.now) c.loop-at.at c.extent_at.result.now c.loop-at.parts.items c.push.new.self.items
    c.in_ok-pairs.pairs [] c.extent_at.ensures refl c.in_ok-pairs.ensures c.in_ok-push.ensures.items c.loop-at.invariant
