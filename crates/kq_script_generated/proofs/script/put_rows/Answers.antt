use Rattle.std.proofs.Common.{◌≡◌, ◌++◌}
use Rattle.std.specs.Prelude.{codes}
use Rattle.kq_script_generated.specs.Commands.{row_text}
use Rattle.kq_script_generated.proofs.Cutting.{rows_from-next}
use Rattle.kq_script_generated.proofs.Putting.{put-first}
use Rattle.kq_script_generated.proofs.script.put_rows.Goals as goal

pub loop-i-preserved : goal.loop-i-preserved
loop-i-preserved c =
    let row : c.put_row.new.text ≡ c.loop-i.text ++ codes "\n" ++ row_text c.loop-i.i = cc (c.in_ok-push.ensures.ok, c.in_ok-put_row.ensures) in
    put-first (codes "\n") c.loop-i.text c.put_row.new.text _ (row_text c.loop-i.i) _ _ row (rows_from-next c.loop-i.i c.args.end c.loop-i-test.true) c.loop-i.invariant
