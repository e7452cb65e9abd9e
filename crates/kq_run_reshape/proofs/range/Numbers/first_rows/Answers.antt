use Rattle.std.proofs.Common.{◌≡◌, ◌∷◌, [], rules}
use Rattle.kq_run_reshape.proofs.Ranging.{more_rows}
use Rattle.kq_run_reshape.proofs.range.Numbers.first_rows.Goals as goal

pub loop-i-preserved : goal.loop-i-preserved
loop-i-preserved c =
    let n = c.args.self.now in
    let alone : c.push.new.self.items ≡ c.value_at.result ∷ [] = search rules in
    more_rows c.args.ty n.from n.step c.loop-i.i c.loop-i.rows c.push_from.new.self _ c.value_at.result c.loop-i.invariant.0 c.loop-i.invariant.1 c.value_at.ensures
    alone c.in_ok-push_from.ensures.ok
