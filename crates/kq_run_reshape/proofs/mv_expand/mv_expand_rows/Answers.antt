use Rattle.std.proofs.Common.{◌<◌, length, ◌∙◌, arith}
use Rattle.kq_run_reshape.proofs.Expanding.{expanded-more, wide_again}
use Rattle.kq_run_reshape.proofs.mv_expand.mv_expand_rows.Goals as goal

pub loop-i-preserved : goal.loop-i-preserved
loop-i-preserved c =
    let rows = c.args.rows.now in
    let within : c.loop-i.i < length rows = omega arith in (
      expanded-more c.args.at c.args.ty rows c.args.values.now c.loop-i.i c.index-values-i.result c.row_in.result.now c.as_slice.result.now c.loop-i.out c.put_parts.new.out
          within c.requires.beside c.index-values-i.is c.row_in.ensures (c.as_slice.ensures.value ∙ c.in_ok-parts.ensures) c.loop-i.invariant.0 c.in_ok-put_parts.ensures.rows,
      wide_again rows c.put_parts.new.out c.loop-i.i c.args.at c.row_in.result.now c.requires.even within c.row_in.ensures c.in_ok-put_parts.ensures.wide,
    )
