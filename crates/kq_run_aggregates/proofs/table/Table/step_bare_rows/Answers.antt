use Rattle.std.proofs.Common.{◌∙◌, [], length, replicate, sym}
use Rattle.std.proofs.lemmas.List.{length-replicate}
use Rattle.kq_run_aggregates.proofs.Batches.{TakesIn-more, bare_row}
use Rattle.kq_run_aggregates.proofs.table.Table.step_bare_rows.Goals as goal

pub loop-i-preserved : goal.loop-i-preserved
loop-i-preserved c =
    let n = length c.args.groups.now in
    record {
      kind = c.step.ensures.kind ∙ c.loop-i.invariant.kind;
      taken = TakesIn-more _ _ c.args.groups.now (replicate n []) c.loop-i.i [] _ _ _ c.loop-i.invariant.kind c.loop-i-test.true (sym (length-replicate n [])) (bare_row n c.loop-i.i c.loop-i-test.true)
          c.in_ok-step.ensures.ok c.loop-i.invariant.taken;
    }
