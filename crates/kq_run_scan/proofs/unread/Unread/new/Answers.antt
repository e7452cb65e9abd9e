use Rattle.std.proofs.Common.{◌≡◌, ◌-◌, take, arith, refl}
use Rattle.kq_run_scan.proofs.unread.Unread.new.Goals as goal

pub returns : goal.returns
returns c =
    let many : c.saturating_sub.result ≡ c.args.to - c.args.from = omega (arith, c.saturating_sub.ensures) in
    record { rows = λ t. take (many t) (c.spot_at.ensures t); width = refl }
