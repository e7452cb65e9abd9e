use Rattle.std.proofs.Common.{◌≡◌, length, ◌∙◌, arith}
use Rattle.std.specs.Prelude.{min}
use Rattle.kq_store_frame.proofs.Across.{take_least}
use Rattle.kq_store_frame.proofs.frame.Frame.first.Goals as goal

pub returns : goal.returns
returns c =
    let least : c.min-end.result ≡ min c.args.count (length c.args.self.now) = omega (arith, c.min-end.ensures, c.len.ensures.count) in
    c.in_ok-columns.ensures.rows ∙ take_least c.args.count c.min-end.result c.args.self.now least
