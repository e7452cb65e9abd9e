use Rattle.std.proofs.Common.{◌+◌, take, subst, sym, ap, ◌∙◌, arith}
use Rattle.kq_run_reshape.proofs.Different.{Gathers, Gathers-new, Gathers-known, none_by_test}
use Rattle.kq_run_reshape.specs.Distinct.{chosen}
use Rattle.kq_run_reshape.proofs.distinct.distinct_rows.Goals as goal
use Rattle.kq_run_reshape.proofs.distinct.distinct_rows.Goals.{then-not-contains+in_ok-push, else-not-contains}

pub loop-i-preserved : goal.loop-i-preserved
loop-i-preserved c =
    let columns = c.args.columns.now in
    let rows = c.args.rows.now in
    let row = c.in_ok-row.row in
    let is = c.in_ok-row.ensures ∙ ap (chosen columns) c.row_in.ensures in
    elim c.if-not-contains.branch [
      | then-not-contains+in_ok-push w ↦
          subst (Gathers columns (take (c.loop-i.i + 1) rows)) (sym w.known-is)
          (Gathers-new columns rows c.loop-i.i row c.loop-i.known w.push.new.self (omega arith) is c.loop-i.invariant (none_by_test _ c.contains.result c.contains.ensures.1 w.if-not-contains.true) w.in_ok-push.ensures.filed w.in_ok-push.ensures.last)
      | else-not-contains w ↦
          subst (Gathers columns (take (c.loop-i.i + 1) rows)) (sym w.known-is)
          (Gathers-known columns rows c.loop-i.i row c.loop-i.known (omega arith) is c.loop-i.invariant (c.contains.ensures.0 w.if-not-contains.false))
    ]
