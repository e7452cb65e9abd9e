use Rattle.std.proofs.Common.{◌∙◌, [], length, replicate, refl, sym}
use Rattle.kq_run_aggregates.proofs.Batches.{TakesIn-more, bare_row}
use Rattle.std.proofs.lemmas.List.{length-replicate}
use Rattle.kq_run_aggregates.proofs.columns.count_each.Goals as goal

pub loop-i-preserved : goal.loop-i-preserved
loop-i-preserved c =
    let n = length c.args.groups.now in
    record {
      long = c.count_at.ensures.long ∙ c.loop-i.invariant.long;
      taken = TakesIn-more _ _ c.args.groups.now (replicate n []) c.loop-i.i [] _ _ _ refl c.loop-i-test.true (sym (length-replicate n [])) (bare_row n c.loop-i.i c.loop-i-test.true) c.in_ok-count_at.ensures.ok c.loop-i.invariant.taken;
    }
